-- A PDU that was composed from its parts is the one that the rules give.
use mathlib.Core.Path.{◌≡◌, refl, sym, ap, ap₂, ◌∙◌}
use mathlib.Core.Bool.{Bool}
use mathlib.Core.List.{List, [], ◌∷◌, ◌++◌}
use Prim.Native.Nat.{ℕ, zero, suc, ◌+◌, ◌-◌, ◌≤◌}
use native.Mathlib.Omega.{arith}
use lib.Dec.{ltb}
use lib.ListN.{length, take, drop, replicate, length-append}
use Rattle.modes.specs.declared.Mode.{Mode}
use Rattle.buffer.specs.Buffer.{put_at}
use Rattle.buffer.proofs.Laws.{put-zeros}
use Rattle.layout.specs.Control.{control_bytes}
use Rattle.layout.specs.declared.ControlWord.{ControlWord}
use Rattle.layout.specs.Locators.{locator_size}
use Rattle.settings.specs.declared.Settings.{Settings}
use Rattle.pieces.specs.Pieces.{cut_by, total}
use Rattle.packing.specs.Packing.{overhead}
use Rattle.contents.specs.Contents.{first_piece, contents}
use Rattle.contents.proofs.Putting.{cut-count, length-contents}
use Rattle.header.specs.Header.{with_parity}
use Rattle.writer.specs.Writing.{expansion_of, extra_of, placed_lengths, part_of, pieces_of, control_with, control_for, written, pdu_of}
use Rattle.writer.specs.declared.Writer.{Writer}
use Rattle.writer.proofs.Accepted.{Fine, enough, fits}

module _ (settings : Settings) (psd lengths bytes : List ℕ) (size : ℕ) (m : Mode) (w : Writer) (f : Fine settings psd lengths bytes size m w) where
  abbrev x : List ℕ
  x = expansion_of settings psd lengths bytes size

  abbrev ps : List ℕ
  ps = placed_lengths settings psd lengths bytes size m w

  abbrev whole : List ℕ
  whole = written settings psd lengths bytes size m w

  pub whole_length : length whole ≡ 6 + (locator_size m.width (length ps) + (length x + (length psd + (total ps + length ps))))
  unfolding control_bytes
  whole_length =
      length-append (control_bytes (control_for settings psd lengths bytes size m w)) (contents w.register m.width x psd (pieces_of settings psd lengths bytes size m w))
      ∙ ap (λ (n : ℕ). 6 + n) (length-contents w.register m.width x psd ps (drop w.sent bytes) (enough settings psd lengths bytes size m w f))

  -- the place before the first piece
  pub first-place : (first : ℕ) → first ≡ overhead m.width (extra_of settings psd lengths bytes size) (length ps) → first - 1 ≡ first_piece m.width x psd (pieces_of settings psd lengths bytes size m w) - 1
  first-place first e =
      let n : length (pieces_of settings psd lengths bytes size m w) ≡ length ps = cut-count ps (drop w.sent bytes) in
      rw n (omega (arith, e))

  pub composed : (nop part first : ℕ) (flag : Bool) (c : ControlWord) (control xs ns rest l1 l2 : List ℕ)
      → xs ≡ x → ns ≡ ps → rest ≡ drop w.sent bytes → nop ≡ length ps → part ≡ part_of settings psd lengths bytes size m w
      → first ≡ overhead m.width (extra_of settings psd lengths bytes size) (length ps) → flag ≡ ltb 0 (length x)
      → c ≡ control_with w settings part nop flag (first - 1) → control ≡ control_bytes c
      → l1 ≡ put_at (replicate size 0) 8 (control ++ contents w.register m.width xs psd (cut_by ns rest)) → l2 ≡ with_parity l1
      → l2 ≡ pdu_of settings psd lengths bytes size m w
  unfolding pdu_of
  composed nop part first flag c control xs ns rest l1 l2 ex en er ek ep ef eg ec eb e1 e2 =
      let c1 : c ≡ control_for settings psd lengths bytes size m w = ec ∙ rw (ek, ep, eg, first-place first ef) in
      let b1 : control ≡ control_bytes (control_for settings psd lengths bytes size m w) = eb ∙ ap control_bytes c1 in
      let t : contents w.register m.width xs psd (cut_by ns rest) ≡ contents w.register m.width x psd (pieces_of settings psd lengths bytes size m w) = rw (ex, en, er) in
      let h = fits settings psd lengths bytes size m w f in
      let z : put_at (replicate size 0) 8 whole ≡ replicate 8 0 ++ (whole ++ replicate (size - (8 + length whole)) 0) = put-zeros size 8 whole (omega (arith, h, whole_length)) in
      e2 ∙ ap with_parity (e1 ∙ ap₂ (λ (a b : List ℕ). put_at (replicate size 0) 8 (a ++ b)) b1 t ∙ z)

-- a part that is as long as it was asked for
pub prefix-long : (n : ℕ) (l w : List ℕ) → take n l ≡ w → n ≡ length w → n ≤ length l
prefix-long zero l w e h = omega arith
prefix-long (suc n) [] w e h = let z : 0 ≡ length w = ap length e in absurd (omega (arith, z, h))
prefix-long (suc n) (a ∷ l) w e h = let q : suc (length (take n l)) ≡ suc n = ap length e ∙ sym h in let r = prefix-long n l (take n l) refl (omega arith) in omega (arith, r)
