-- What holds of a writing call that no row of the table turns down.
use mathlib.Core.Path.{◌≡◌, refl, sym, ◌∙◌}
use mathlib.Core.Bool.{Bool, true, false, not, ◌&&◌, ◌||◌}
use mathlib.Core.List.{List, [], ◌∷◌, ◌++◌}
use Prim.Native.Nat.{ℕ, zero, suc, ◌+◌, ◌-◌, ◌<◌, ◌≤◌}
use native.Mathlib.Omega.{arith}
use lib.Dec.{eqb, ltb, leb}
use borrow.Author.Tests.{ltb-false, leb-false, eqb-true, eq-eqb, ne_eqb, not-false}
use lib.ListN.{length, drop, length-drop, length-append}
use Rattle.refusal.specs.Refusal.{first_of, any_of}
use Rattle.modes.specs.declared.Mode.{Mode}
use Rattle.layout.specs.Locators.{locator_size}
use Rattle.layout.proofs.LocatorLaw.{size-grows}
use Rattle.settings.specs.Settings.{broken_rules, wrong_values}
use Rattle.settings.specs.declared.Settings.{Settings}
use Rattle.pieces.specs.Pieces.{total}
use Rattle.packing.specs.Packing.{overhead, most_pieces, wholes, part, if_any}
use Rattle.packing.proofs.Limit.{most-small, la-below}
use Rattle.packing.proofs.Bounds.{left, Kept, kept}
use Rattle.writer.specs.Writing.{wrong_lengths, wrong_unfinished, wrong_writer, wrong_size, wrong_packets, wrong_extra, no_room, expansion_of, extra_of, writer_tests, placed_lengths, ended_of, part_of}
use Rattle.writer.specs.declared.Writer.{Writer}
use Rattle.writer.proofs.Judging.{never, first-fails, second-fails, size-right}

-- where no row applies, the first does not, and none of the others
miss : (t : Bool) (n : ℕ) (ts : List (Bool × ℕ)) → (n ≡ 0 → ⊥) → first_of ((t, n) ∷ ts) ≡ 0 → (t ≡ false) × (first_of ts ≡ 0)
miss true n ts z e = absurd (z e)
miss false n ts z e = (refl, e)

-- the unfinished packet has what is sent
not-longer : (s n : ℕ) → (ltb 0 s && leb n s) ≡ false → s ≤ n
not-longer s n = go (ltb 0 s) (leb n s) refl refl
  where
    go : (a b : Bool) → ltb 0 s ≡ a → leb n s ≡ b → (a && b) ≡ false → s ≤ n
    go true true ea eb h = never h
    go true false ea eb h = let q = leb-false n s eb in omega arith
    go false b ea eb h = let q = ltb-false 0 s ea in omega arith

total-append : (a b : List ℕ) → total (a ++ b) ≡ total a + total b
unfolding total
total-append [] b = omega arith
total-append (n ∷ a) b = let h = total-append a b in omega (arith, h)

total-any : (n : ℕ) → total (if_any n) ≡ n
unfolding total
total-any zero = refl
total-any (suc n) = let t : eqb (suc n) 0 ≡ false = ne_eqb (suc n) 0 (λ q. absurd (omega (arith, q))) in rw t (omega arith)

module _ (settings : Settings) (psd lengths bytes : List ℕ) (size : ℕ) (m : Mode) (w : Writer) where
  pub record Fine : Type 0 where
    pub sequence : w.sequence < m.sequences
    pub number : w.number ≤ 63
    pub sent : w.sent ≤ 4095
    pub long : 96 ≤ size
    pub short : size ≤ 20480
    pub narrow : m.width ≡ 12 → size ≤ 4096
    pub rules : any_of (broken_rules settings size) ≡ false
    pub values : any_of (wrong_values w.stream settings) ≡ false
    pub right : wrong_lengths lengths ≡ false
    pub sum : total lengths ≡ length bytes
    pub unfinished : wrong_unfinished w.sent lengths ≡ false
    pub extra : extra_of settings psd lengths bytes size ≤ m.limit
    pub room : no_room m (extra_of settings psd lengths bytes size) size lengths ≡ false

  pub fine : first_of (writer_tests settings psd lengths bytes size m w) ≡ 0 → Fine
  fine e =
      let s1 = any_of (wrong_writer m w) in
      let s3 = any_of (wrong_size m size) in
      let s10 = any_of (broken_rules settings size) in
      let s14 = any_of (wrong_values w.stream settings) in
      let s15 = any_of (wrong_packets w.sent lengths (length bytes)) in
      let x = length (expansion_of settings psd lengths bytes size) in
      let s16 = any_of (wrong_extra m x (length psd)) in
      let s17 = no_room m (extra_of settings psd lengths bytes size) size lengths in
      let t17 : List (Bool × ℕ) = (s17, 17) ∷ [] in
      let t16 : List (Bool × ℕ) = (s16, 16) ∷ t17 in
      let t15 : List (Bool × ℕ) = (s15, 15) ∷ t16 in
      let t14 : List (Bool × ℕ) = (s14, 14) ∷ t15 in
      let t10 : List (Bool × ℕ) = (s10, 10) ∷ t14 in
      let m1 = miss s1 1 ((s3, 3) ∷ t10) (λ q. absurd (omega (arith, q))) e in
      let m3 = miss s3 3 t10 (λ q. absurd (omega (arith, q))) m1.1 in
      let m10 = miss s10 10 t14 (λ q. absurd (omega (arith, q))) m3.1 in
      let m14 = miss s14 14 t15 (λ q. absurd (omega (arith, q))) m10.1 in
      let m15 = miss s15 15 t16 (λ q. absurd (omega (arith, q))) m14.1 in
      let m16 = miss s16 16 t17 (λ q. absurd (omega (arith, q))) m15.1 in
      let m17 = miss s17 17 [] (λ q. absurd (omega (arith, q))) m16.1 in
      let a = leb m.sequences w.sequence in
      let b = ltb 63 w.number in
      let c = ltb 4095 w.sent in
      let n = eqb m.width 12 && ltb 4096 size in
      let p = wrong_lengths lengths || not (eqb (total lengths) (length bytes)) in
      let pf = first-fails p (wrong_unfinished w.sent lengths) m15.0 in
      record {
        sequence = leb-false m.sequences w.sequence (first-fails a (b || c) m1.0);
        number = ltb-false 63 w.number (first-fails b c (second-fails a (b || c) m1.0));
        sent = ltb-false 4095 w.sent (second-fails b c (second-fails a (b || c) m1.0));
        long = (size-right m size m3.0).0;
        short = (size-right m size m3.0).1;
        narrow = λ q. narrowed (eq-eqb m.width 12 q) (second-fails (ltb 20480 size) n (second-fails (ltb size 96) (ltb 20480 size || n) m3.0));
        rules = m10.0;
        values = m14.0;
        right = first-fails (wrong_lengths lengths) (not (eqb (total lengths) (length bytes))) pf;
        sum = eqb-true (total lengths) (length bytes) (not-false (eqb (total lengths) (length bytes)) (second-fails (wrong_lengths lengths) (not (eqb (total lengths) (length bytes))) pf));
        unfinished = second-fails p (wrong_unfinished w.sent lengths) m15.0;
        extra = ltb-false m.limit (x + length psd) (first-fails (ltb m.limit (x + length psd)) (not m.psd && ltb 0 (length psd)) m16.0);
        room = m17.0;
      }
    where
      narrowed : eqb m.width 12 ≡ true → (eqb m.width 12 && ltb 4096 size) ≡ false → size ≤ 4096
      narrowed t f = let g : ltb 4096 size ≡ false = rw t at f in ltb-false 4096 size g

  -- overhead fits
  pub overhead-fits : Fine → overhead m.width (extra_of settings psd lengths bytes size) 0 ≤ size
  overhead-fits f = go lengths f.room
    where
      go : (ns : List ℕ) → no_room m (extra_of settings psd lengths bytes size) size ns ≡ false → overhead m.width (extra_of settings psd lengths bytes size) 0 ≤ size
      go [] e = ltb-false size (overhead m.width (extra_of settings psd lengths bytes size) 0) e
      go (n ∷ ns) e = let h = ltb-false size (overhead m.width (extra_of settings psd lengths bytes size) 1 + 2) e in omega (arith, h, size-grows m.width 0 1 (omega arith))

  -- the pieces are placed among the bytes offered
  pub all_left : Fine → left w.sent lengths ≡ length (drop w.sent bytes)
  unfolding total
  all_left f = go lengths f.sum f.unfinished ∙ sym (length-drop w.sent bytes)
    where
      go : (ns : List ℕ) → total ns ≡ length bytes → wrong_unfinished w.sent ns ≡ false → left w.sent ns ≡ length bytes - w.sent
      go [] e u = omega (arith, e)
      go (n ∷ ns) e u = let q = not-longer w.sent n u in omega (arith, e, q)

  abbrev extra : ℕ
  extra = extra_of settings psd lengths bytes size

  abbrev ps : List ℕ
  ps = placed_lengths settings psd lengths bytes size m w

  module _ (f : Fine) where
    keeps : Kept m.width extra size 0 0 w.sent lengths ps
    keeps = kept m.width extra size w.sent lengths (overhead-fits f)

    pub enough : total ps ≤ length (drop w.sent bytes)
    enough = let h = keeps.offered in omega (arith, h, all_left f)

    pub few : length ps ≤ most_pieces m.width extra
    few = let h = keeps.few in omega (arith, h)

    -- all of it fits the PDU
    pub fits : 14 + locator_size m.width (length ps) + length (expansion_of settings psd lengths bytes size) + length psd + total ps + length ps ≤ size
    fits =
        let z : 0 + length ps ≡ length ps = omega arith in
        let h : overhead m.width extra (length ps) + (0 + (total ps + length ps)) ≤ size = rw z at keeps.room in
        omega (arith, h)

    -- La fits its byte
    pub la-fits : m.limit ≤ 128 → overhead m.width extra (length ps) ≤ 256
    la-fits l = la-below m.width extra (length ps) (omega (arith, f.extra)) few

    -- what is sent already is among the bytes offered
    pub sent-within : w.sent ≤ length bytes
    unfolding total
    sent-within = go lengths f.sum f.unfinished
      where
        go : (ns : List ℕ) → total ns ≡ length bytes → wrong_unfinished w.sent ns ≡ false → w.sent ≤ length bytes
        go [] e u = let q = ltb-false 0 w.sent u in omega (arith, q)
        go (n ∷ ns) e u = let q = not-longer w.sent n u in omega (arith, e, q)

    abbrev ended : List ℕ
    ended = wholes m.width extra size w.sent lengths

    abbrev rest : ℕ
    rest = part m.width extra size w.sent lengths

    pub ended-few : ended_of settings psd lengths bytes size m w ≤ 63
    ended-few =
        let n : length ps ≡ length ended + length (if_any rest) = length-append ended (if_any rest) in
        omega (arith, n, few, most-small m.width extra)

    pub part_small : part_of settings psd lengths bytes size m w ≤ 20480
    part_small =
        let n : total ps ≡ total ended + total (if_any rest) = total-append ended (if_any rest) in
        omega (arith, n, total-any rest, fits, f.short)
