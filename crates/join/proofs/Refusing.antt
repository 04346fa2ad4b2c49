-- The order of refusals 23, 24 and 13.
use mathlib.Core.Path.{◌≡◌, refl, sym, ap, ap₂, ◌∙◌}
use mathlib.Core.Bool.{Bool, true, false, not, ◌&&◌, cond, true≢false}
use mathlib.Core.List.{List}
use Prim.Native.Nat.{ℕ, ◌<◌, ◌≤◌}
use native.Mathlib.Omega.{arith}
use lib.Dec.{leb, ltb}
use lib.ListN.{length, get_or, drop}
use borrow.Author.Tests.{lt-ltb, le-ltb, ltb-false, leb-true, leb-false, ne_eqb}
use Rattle.buffer.specs.Buffer.{put_at}
use Rattle.join.specs.Join.{is_log, numbers_of, entries_of, rising, out_of_order, result_words, join_refusal, join_answer, result_after}
use Rattle.join.specs.Scan.{is_packet, numbers, joined_words}
use Rattle.join.proofs.Scanning.{numbers-here, numbers-end}
use Rattle.join.proofs.Agreeing.{numbers-read, joined-read}

-- ---- 24: a core packet, and numbers that do not rise

none-applies : (p q : Bool) → p ≡ false → false ≡ (p && q)
none-applies true q e = absurd (true≢false e)
none-applies false q e = refl

first-applies : (p q r : Bool) → p ≡ true → q ≡ false → true ≡ (p && not (q && r))
first-applies true true r e f = absurd (true≢false f)
first-applies true false r e f = refl
first-applies false q r e f = absurd (true≢false (sym e))

second-applies : (p q r : Bool) → p ≡ true → q ≡ true → not r ≡ (p && not (q && r))
second-applies true true r e f = refl
second-applies true false r e f = absurd (true≢false (sym f))
second-applies false q r e f = absurd (true≢false (sym e))

module _ (core enhanced : List ℕ) (start : ℕ) (e : numbers (drop start core) ≡ numbers (drop 0 core)) where
  pub no-core : length core ≤ start → false ≡ out_of_order (numbers core) (numbers enhanced)
  unfolding out_of_order
  no-core h =
      let z : length (numbers core) ≡ 0 = ap length (sym e ∙ numbers-end core start h) in
      none-applies (ltb 0 (length (numbers core))) (not (rising (numbers core) && rising (numbers enhanced))) (le-ltb 0 (length (numbers core)) (omega arith))

  some : start < length core → is_packet (get_or core start 0) ≡ true → ltb 0 (length (numbers core)) ≡ true
  some h p =
      let z = ap length (sym e ∙ numbers-here core start h p) in
      lt-ltb 0 (length (numbers core)) (omega arith)

  pub core-falls : start < length core → is_packet (get_or core start 0) ≡ true → rising (numbers core) ≡ false → true ≡ out_of_order (numbers core) (numbers enhanced)
  unfolding out_of_order
  core-falls h p r = first-applies (ltb 0 (length (numbers core))) (rising (numbers core)) (rising (numbers enhanced)) (some h p) r

  pub core-rises : start < length core → is_packet (get_or core start 0) ≡ true → rising (numbers core) ≡ true → not (rising (numbers enhanced)) ≡ out_of_order (numbers core) (numbers enhanced)
  unfolding out_of_order
  core-rises h p r = second-applies (ltb 0 (length (numbers core))) (rising (numbers core)) (rising (numbers enhanced)) (some h p) r

-- ---- the rows

module _ (core enhanced : List ℕ) (room : ℕ) where
  pub core-no-log : is_log core ≡ false → 23 ≡ join_refusal core enhanced room
  unfolding join_refusal
  core-no-log e = simp e

  pub enhanced-no-log : is_log core ≡ true → is_log enhanced ≡ false → 23 ≡ join_refusal core enhanced room
  unfolding join_refusal
  enhanced-no-log e f = simp (e, f)

-- two logs
module _ (core enhanced : List ℕ) (e : is_log core ≡ true) (f : is_log enhanced ≡ true) where
  order-read : out_of_order (numbers core) (numbers enhanced) ≡ out_of_order (numbers_of (entries_of core)) (numbers_of (entries_of enhanced))
  order-read = ap₂ out_of_order (numbers-read core e) (numbers-read enhanced f)

  size-read : length (joined_words enhanced core) ≡ length (result_words core enhanced)
  size-read = ap length (joined-read core enhanced e f)

  module _ (room : ℕ) where
    pub not-in-order : out_of_order (numbers core) (numbers enhanced) ≡ true → 24 ≡ join_refusal core enhanced room
    unfolding join_refusal
    not-in-order g = simp (e, f, sym order-read ∙ g)

    pub too_short : out_of_order (numbers core) (numbers enhanced) ≡ false → leb (length (joined_words enhanced core)) room ≡ false → 13 ≡ join_refusal core enhanced room
    unfolding join_refusal
    too_short g h =
        let l : room < length (result_words core enhanced) = omega (arith, size-read, leb-false (length (joined_words enhanced core)) room h) in
        simp (e, f, sym order-read ∙ g, lt-ltb room (length (result_words core enhanced)) l)

    pub accepted : out_of_order (numbers core) (numbers enhanced) ≡ false → leb (length (joined_words enhanced core)) room ≡ true → 0 ≡ join_refusal core enhanced room
    unfolding join_refusal
    accepted g h =
        let l : length (result_words core enhanced) ≤ room = omega (arith, size-read, leb-true (length (joined_words enhanced core)) room h) in
        simp (e, f, sym order-read ∙ g, le-ltb room (length (result_words core enhanced)) l)

-- ---- what is accepted

no-refusal : (a b q r : Bool) → ◌≡◌ {A = ℕ} 0 (cond (not (a && b)) 23 (cond q 24 (cond r 13 0))) → (a ≡ true) × (b ≡ true) × (r ≡ false)
no-refusal false b q r e = absurd (omega arith)
no-refusal true false q r e = absurd (omega arith)
no-refusal true true true r e = absurd (omega arith)
no-refusal true true false true e = absurd (omega arith)
no-refusal true true false false e = (refl, refl, refl)

module _ (core enhanced : List ℕ) (room : ℕ) (e : 0 ≡ join_refusal core enhanced room) where
  all-passed : (is_log core ≡ true) × (is_log enhanced ≡ true) × (ltb room (length (result_words core enhanced)) ≡ false)
  unfolding join_refusal
  all-passed =
      no-refusal (is_log core) (is_log enhanced) (out_of_order (numbers_of (entries_of core)) (numbers_of (entries_of enhanced))) (ltb room (length (result_words core enhanced))) e

  pub result-read : joined_words enhanced core ≡ result_words core enhanced
  result-read = joined-read core enhanced all-passed.0 all-passed.1

  pub fits-room : length (joined_words enhanced core) ≤ room
  fits-room = omega (arith, ap length result-read, ltb-false room (length (result_words core enhanced)) all-passed.2)

-- ---- the answer and the buffer, by the refusal number

module _ (core enhanced result : List ℕ) where
  pub refused_all : (n : ℕ) → n ≡ join_refusal core enhanced (length result) → (n ≡ 0 → ⊥)
      → (record { refusal = n; words = 0 } ≡ join_answer core enhanced (length result)) × (result ≡ result_after core enhanced result)
  unfolding join_answer result_after
  refused_all n e z = rw (← e, ne_eqb n 0 z) (refl, refl)

  put_all : 0 ≡ join_refusal core enhanced (length result)
      → (record { refusal = 0; words = length (result_words core enhanced) } ≡ join_answer core enhanced (length result))
      × (put_at result 0 (result_words core enhanced) ≡ result_after core enhanced result)
  unfolding join_answer result_after
  put_all e = rw (← e) (refl, refl)

  pub joined-all : 0 ≡ join_refusal core enhanced (length result)
      → (record { refusal = 0; words = length (joined_words enhanced core) } ≡ join_answer core enhanced (length result))
      × (put_at result 0 (joined_words enhanced core) ≡ result_after core enhanced result)
  joined-all e =
      let r = result-read core enhanced (length result) e in
      let p = put_all e in
      (ap (λ (ws : List ℕ). record { refusal = 0; words = length ws }) r ∙ p.0, ap (put_at result 0) r ∙ p.1)
