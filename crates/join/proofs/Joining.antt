-- What comes of each word of the core log.
use mathlib.Core.Path.{◌≡◌, sym, ap, ◌∙◌}
use mathlib.Core.Bool.{true, false}
use mathlib.Core.List.{List, [], ◌∷◌, ◌++◌}
use Prim.Native.Nat.{ℕ, zero, suc, ◌+◌, ◌-◌, ◌<◌, ◌≤◌}
use native.Mathlib.Nat.{zero-add, suc-add}
use native.Mathlib.Numerals.{add-one}
use native.Mathlib.Omega.{arith}
use lib.Bits.{bit_or}
use lib.ListN.{length, get_or, take, drop, drop_of_length-le, length-append}
use lib.Seq.{slice, slice-cons, length-slice, drop-cons, take-nil}
use Rattle.buffer.specs.Buffer.{put_at}
use Rattle.buffer.proofs.Laws.{put-nil}
use Rattle.join.specs.Join.{number, with_bit29}
use Rattle.join.specs.Scan.{is_packet, data_run, first_words, from_number, partner, first_joined, joined_words}

-- ---- the enhanced packet of a number

module _ (enhanced : List ℕ) (n i : ℕ) (e : drop i enhanced ≡ from_number n enhanced) where
  pub partner-none : length enhanced ≤ i → [] ≡ partner enhanced n
  unfolding partner with_bit29 first_words
  partner-none h = ap (λ (ws : List ℕ). with_bit29 (first_words ws)) (sym (drop_of_length-le enhanced h) ∙ e)

  pub partner-some : (end : ℕ) → i < length enhanced → data_run (drop (i + 1) enhanced) ≡ slice (i + 1) end enhanced
      → bit_or (get_or enhanced i 0) 0x20000000 ∷ slice (i + 1) end enhanced ≡ partner enhanced n
  unfolding partner with_bit29 first_words
  partner-some end h d =
      ap (λ (s : List ℕ). bit_or (get_or enhanced i 0) 0x20000000 ∷ s) (sym d ∙ ap (λ (k : ℕ). data_run (drop k enhanced)) (add-one i))
      ∙ ap (λ (ws : List ℕ). with_bit29 (first_words ws)) (sym (drop-cons enhanced i 0 h) ∙ e)

  pub partner-size : (end : ℕ) → i < length enhanced → i + 1 ≤ end → end ≤ length enhanced
      → data_run (drop (i + 1) enhanced) ≡ slice (i + 1) end enhanced → end - i ≡ length (partner enhanced n)
  partner-size end h l m d =
      let k : length (slice (i + 1) end enhanced) ≡ end - (i + 1) = length-slice (i + 1) end enhanced m in
      let p : length (bit_or (get_or enhanced i 0) 0x20000000 ∷ slice (i + 1) end enhanced) ≡ length (partner enhanced n) = ap length (partner-some end h d) in
      omega arith

-- ---- a word of the core log

module _ (core enhanced : List ℕ) (i : ℕ) (h : i < length core) where
  split : drop i core ≡ get_or core i 0 ∷ drop (i + 1) core
  split = rw (add-one i) (drop-cons core i 0 h)

  pub first-none : is_packet (get_or core i 0) ≡ false → [] ≡ first_joined enhanced (drop i core)
  unfolding first_joined
  first-none e = rw (split, e)

  pub first_some : (end : ℕ) → i + 1 ≤ end → end ≤ length core → is_packet (get_or core i 0) ≡ true → data_run (drop (i + 1) core) ≡ slice (i + 1) end core
      → slice i end core ++ partner enhanced (number (get_or core i 0)) ≡ first_joined enhanced (drop i core)
  unfolding first_joined
  first_some end l m e d =
      ap (λ (s : List ℕ). s ++ partner enhanced (number (get_or core i 0))) (slice-cons i end core 0 (omega arith) m ∙ ap (λ (k : ℕ). get_or core i 0 ∷ slice k end core) (sym (add-one i)))
      ∙ rw (split, e, d)

  pub first-size : (end p : ℕ) → i + 1 ≤ end → end ≤ length core → is_packet (get_or core i 0) ≡ true → data_run (drop (i + 1) core) ≡ slice (i + 1) end core
      → p ≡ length (partner enhanced (number (get_or core i 0))) → end - i + p ≡ length (first_joined enhanced (drop i core))
  first-size end p l m e d q =
      let k : length (slice i end core) ≡ end - i = length-slice i end core m in
      let t : length (slice i end core ++ partner enhanced (number (get_or core i 0))) ≡ length (first_joined enhanced (drop i core)) = ap length (first_some end l m e d) in
      let u : length (slice i end core ++ partner enhanced (number (get_or core i 0))) ≡ length (slice i end core) + length (partner enhanced (number (get_or core i 0))) =
      length-append (slice i end core) (partner enhanced (number (get_or core i 0))) in
      omega arith

  pub joined-next : joined_words enhanced (drop i core) ≡ first_joined enhanced (drop i core) ++ joined_words enhanced (drop (i + 1) core)
  unfolding joined_words
  joined-next = rw split

  pub joined-size : length (joined_words enhanced (drop i core)) ≡ length (first_joined enhanced (drop i core)) + length (joined_words enhanced (drop (i + 1) core))
  joined-size = ap length joined-next ∙ length-append (first_joined enhanced (drop i core)) (joined_words enhanced (drop (i + 1) core))

pub joined_end : (core enhanced : List ℕ) (i : ℕ) → length core ≤ i → joined_words enhanced (drop i core) ≡ []
unfolding joined_words
joined_end core enhanced i h = ap (joined_words enhanced) (drop_of_length-le core h)

-- ---- parts of a log, and putting

drop-take : (n m : ℕ) (l : List ℕ) → drop n (take (n + m) l) ≡ take m (drop n l)
drop-take zero m l = ap (λ (k : ℕ). take k l) (zero-add m)
drop-take (suc n) m [] = ap (drop (suc n)) (take-nil (suc n + m)) ∙ sym (take-nil m)
drop-take (suc n) m (x ∷ l) = ap (λ (k : ℕ). drop (suc n) (take k (x ∷ l))) (suc-add n m) ∙ drop-take n m l

-- a part that is lent is a slice
pub part : (from to : ℕ) (l : List ℕ) → from ≤ to → take (to - from) (drop from l) ≡ slice from to l
part from to l h =
    let e : from + (to - from) ≡ to = omega arith in
    sym (drop-take from (to - from) l) ∙ ap (λ (k : ℕ). drop from (take k l)) e

pub part_length : (from to : ℕ) (l : List ℕ) → from ≤ to → to ≤ length l → length (take (to - from) (drop from l)) ≡ to - from
part_length from to l h m = ap length (part from to l h) ∙ length-slice from to l m

pub put-none : (l w : List ℕ) (k : ℕ) → [] ≡ w → (k ≡ k + length w) × (l ≡ put_at l k w)
put-none l w k e = (omega (arith, ap length e), sym (put-nil l k) ∙ ap (put_at l k) e)
