-- Two copies of a PDU say together what the PDU says, with a wrong CRC for each piece that is sound in neither.
use mathlib.Core.Path.{◌≡◌, refl, sym, ap, ap₂, subst, ◌∙◌, fun_ext}
use mathlib.Core.Bool.{Bool, true, false, ◌||◌, cond}
use mathlib.Core.List.{List, ◌∷◌}
use Prim.Native.Nat.{ℕ, zero, suc, ◌+◌, ◌<◌, ◌≤◌}
use native.Mathlib.Omega.{arith}
use native.Mathlib.Nat.{zero-add}
use lib.Dec.{eqb}
use borrow.Author.Tests.{eq-eqb}
use lib.ListN.{length, take}
use Rattle.layout.specs.Control.{control_at}
use Rattle.layout.specs.declared.ControlWord.{ControlWord}
use Rattle.packet_log.proofs.Packets.{Bytes as log_bytes}
use Rattle.correction.specs.Marks.{corrected_pdu_with}
use Rattle.reassembly.specs.Reassembly.{Piece}
use Rattle.reassembly.proofs.Fitting.{SanePiece, SanePieces, SaneSaid}
use Rattle.reassembly.proofs.Blind.{blank, blanks, blank_said}
use Rattle.receiver.specs.Receiving.{piece_in, pieces_in, said_by}
use Rattle.runs.proofs.Model.{later}
use Rattle.packet_log.specs.Log.{same_list}
use Rattle.packet_log.proofs.Same.{same-itself}
use Rattle.delivery.specs.Copies.{restored}
use Rattle.delivery.proofs.SoundSteps.{Copy}
use Rattle.diversity.specs.Diversity.{pair_piece, pair_pieces, pair_said}
use Rattle.delivery.proofs.Copies.{struck, stricken, blank-two, Plain, sound-piece, unsound-piece, own-right, sane-piece, count-pieces, copy-corrected, copy-control-is, copy-psd}

-- either of two like pieces
pair-both : (a : Piece) → a.cause ≡ 0 → pair_piece a a ≡ a
pair-both a e =
    let z : eqb a.cause 0 ≡ true = eq-eqb a.cause 0 e in
    ap (λ (b : Bool). cond b (cond b (cond (same_list a.bytes a.bytes) a (record { cause = 7; bytes = a.bytes })) a) a) z
    ∙ ap (λ (b : Bool). cond b a (record { cause = 7; bytes = a.bytes })) (same-itself a.bytes)

pair-first : (a b : Piece) → a.cause ≡ 0 → b.cause ≡ 2 → pair_piece a b ≡ a
pair-first a b e f =
    let z : eqb a.cause 0 ≡ true = eq-eqb a.cause 0 e in
    let u : eqb b.cause 0 ≡ false = ap (λ (n : ℕ). eqb n 0) f in
    ap₂ (λ (s t : Bool). cond s (cond t (cond (same_list a.bytes b.bytes) a (record { cause = 7; bytes = a.bytes })) a) b) z u

pair-second : (a b : Piece) → a.cause ≡ 2 → pair_piece a b ≡ b
pair-second a b e =
    let z : eqb a.cause 0 ≡ false = ap (λ (n : ℕ). eqb n 0) e in
    ap (λ (s : Bool). cond s (cond (eqb b.cause 0) (cond (same_list a.bytes b.bytes) a (record { cause = 7; bytes = a.bytes })) a) b) z

sane-pair : (a b : Piece) → SanePiece a → SanePiece b → SanePiece (pair_piece a b)
sane-pair a b s t = go (eqb a.cause 0) (eqb b.cause 0) (same_list a.bytes b.bytes)
  where
    go : (u v w : Bool) → SanePiece (cond u (cond v (cond w a (record { cause = 7; bytes = a.bytes })) a) b)
    go true true true = s
    go true true false = record { bytes = s.bytes; some = s.some; cause = omega arith }
    go true false w = s
    go false v w = t

count-pairs : (register width : ℕ) (c : ControlWord) (y z : List ℕ) (k n : ℕ) → length (pair_pieces register width c y z k n) ≡ n
unfolding pair_pieces
count-pairs register width c y z k zero = refl
count-pairs register width c y z k (suc n) = ap suc (count-pairs register width c y z (suc k) n)

module _ (register width : ℕ) (p mq q mr r : List ℕ) (s t : ℕ → Bool) (w : Plain register width p) (x : Copy register width p mq q s) (v : Copy register width p mr r t) where
  abbrev c : ControlWord
  c = control_at p

  -- the two as they are read
  abbrev y : List ℕ
  y = restored p q

  abbrev z : List ℕ
  z = restored p r

  -- sound in one copy at least
  abbrev either : ℕ → Bool
  either k = s k || t k

  pair-blank : (k : ℕ) → k < c.nop
      → blank (pair_piece (piece_in register width c y k) (piece_in register width c z k)) ≡ blank (record { cause = cond (either k) (piece_in register width c p k).cause 2; bytes = (piece_in register width c p k).bytes })
  pair-blank k h = go (s k) (t k) refl refl
    where
      a : Piece
      a = piece_in register width c y k

      o : Piece
      o = piece_in register width c p k

      go : (b d : Bool) → s k ≡ b → t k ≡ d → blank (pair_piece (piece_in register width c y k) (piece_in register width c z k)) ≡ blank (record { cause = cond (b || d) (piece_in register width c p k).cause 2; bytes = (piece_in register width c p k).bytes })
      go true true e f =
          ap₂ (λ (a b : Piece). blank (pair_piece a b)) (sound-piece register width p mq q s w x k h e) (sound-piece register width p mr r t w v k h f)
          ∙ ap blank (pair-both (piece_in register width c p k) (own-right register width p mq q s w x k h))
      go true false e f =
          ap (λ (a : Piece). blank (pair_piece a (piece_in register width c z k))) (sound-piece register width p mq q s w x k h e)
          ∙ ap blank (pair-first (piece_in register width c p k) (piece_in register width c z k) (own-right register width p mq q s w x k h) (unsound-piece register width p mr r t w v k h f))
      go false true e f = ap blank (pair-second (piece_in register width c y k) (piece_in register width c z k) (unsound-piece register width p mq q s w x k h e) ∙ sound-piece register width p mr r t w v k h f)
      go false false e f =
          ap blank (pair-second (piece_in register width c y k) (piece_in register width c z k) (unsound-piece register width p mq q s w x k h e))
          ∙ blank-two (piece_in register width c z k) (piece_in register width c p k).bytes (unsound-piece register width p mr r t w v k h f)

  pairs-blank : (n k : ℕ) → k + n ≤ c.nop → blanks (pair_pieces register width c y z k n) ≡ blanks (struck (λ j. either (k + j)) (pieces_in register width c p k n))
  unfolding pieces_in pair_pieces blanks struck
  pairs-blank zero k h = refl
  pairs-blank (suc n) k h =
      let i : k ≡ k + 0 = omega arith in
      let f : (λ j. either (suc k + j)) ≡ later (λ j. either (k + j)) = fun_ext (λ j. let e : suc k + j ≡ k + suc j = omega arith in ap either e) in
      ap₂ (λ (a : Piece) (l : List Piece). a ∷ l)
      (pair-blank k (omega arith) ∙ ap (λ (i : ℕ). blank (record { cause = cond (either i) (piece_in register width c p k).cause 2; bytes = (piece_in register width c p k).bytes })) i)
      (pairs-blank n (suc k) (omega arith) ∙ ap (λ (s : ℕ → Bool). blanks (struck s (pieces_in register width c p (suc k) n))) f)

  -- what the pair says, with the first's control word and PSD
  pub pair-says : blank_said (pair_said register width (control_at y) y z) ≡ blank_said (stricken either (said_by register width c p))
  unfolding said_by pair_said
  pair-says =
      let f : (λ j. either (0 + j)) ≡ either = fun_ext (λ j. ap either (zero-add j)) in
      let e : blanks (pair_pieces register width c y z 0 c.nop) ≡ blanks (struck either (pieces_in register width c p 0 c.nop)) = pairs-blank c.nop 0 (omega arith) ∙ ap (λ (s : ℕ → Bool). blanks (struck s (pieces_in register width c p 0 c.nop))) f in
      let g = copy-psd register width p mq q s w x in
      ap (λ (r : ControlWord). blank_said (pair_said register width r y z)) (copy-control-is register width p mq q s w x)
      ∙ (λ i. record { sequence = c.sequence; pfirst = c.pfirst; plast = c.plast; start = c.start; psd_bytes = g i; pieces = e i; withheld = false })

  -- ---- all that a receiver needs of a pair

  -- number 20 does not apply
  pub pair-agrees : take (c.la + 1) (corrected_pdu_with mq q) ≡ take (c.la + 1) (corrected_pdu_with mr r)
  pair-agrees = ap (take (c.la + 1)) (copy-corrected register width p mq q s w x) ∙ x.front ∙ sym v.front ∙ sym (ap (take (c.la + 1)) (copy-corrected register width p mr r t w v))

  pairs-sane : (n k : ℕ) → k + n ≤ c.nop → SanePieces (pieces_in register width c p k n) → SanePieces (pair_pieces register width c y z k n)
  unfolding pieces_in pair_pieces
  pairs-sane zero k h o = tt
  pairs-sane (suc n) k h o =
      (sane-pair (piece_in register width c y k) (piece_in register width c z k) (sane-piece register width p mq q s w x k (omega arith) o.0) (sane-piece register width p mr r t w v k (omega arith) o.0), pairs-sane n (suc k) (omega arith) o.1)

  said-sane : SaneSaid (said_by register width c p) → SaneSaid (pair_said register width c y z)
  unfolding said_by pair_said
  said-sane o = record {
    psd = subst (λ (l : List ℕ). (length l < 65536) × log_bytes l) (sym (copy-psd register width p mq q s w x)) o.psd;
    pieces = pairs-sane c.nop 0 (omega arith) o.pieces;
    few = (let a = count-pairs register width c y z 0 c.nop in let b = count-pieces register width c p 0 c.nop in let f = o.few in omega (arith, a, b, f));
  }

  pub pair-sane : SaneSaid (said_by register width c p) → SaneSaid (pair_said register width (control_at (corrected_pdu_with mq q)) (corrected_pdu_with mq q) (corrected_pdu_with mr r))
  pair-sane o =
      subst (λ (l : List ℕ). SaneSaid (pair_said register width (control_at l) l (corrected_pdu_with mr r))) (sym (copy-corrected register width p mq q s w x))
      (subst (λ (l : List ℕ). SaneSaid (pair_said register width (control_at y) y l)) (sym (copy-corrected register width p mr r t w v))
      (subst (λ (k : ControlWord). SaneSaid (pair_said register width k y z)) (sym (copy-control-is register width p mq q s w x)) (said-sane o)))

  pub pair-heard : blank_said (pair_said register width (control_at (corrected_pdu_with mq q)) (corrected_pdu_with mq q) (corrected_pdu_with mr r)) ≡ blank_said (stricken either (said_by register width c p))
  pair-heard = ap₂ (λ (a b : List ℕ). blank_said (pair_said register width (control_at a) a b)) (copy-corrected register width p mq q s w x) (copy-corrected register width p mr r t w v) ∙ pair-says
