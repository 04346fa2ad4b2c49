-- Reading the expansion bytes that were written gives the fields that were to be sent.
use mathlib.Core.Path.{◌≡◌, refl, sym, ap, ◌∙◌, subst}
use mathlib.Core.Bool.{Bool, true, false, ◌&&◌, cond}
use mathlib.Core.List.{List, [], ◌∷◌, ◌++◌, map, append-nil}
use mathlib.Core.Option.{none, some}
use Prim.Native.Nat.{ℕ, zero, suc, ◌+◌, ◌*◌, ◌%◌, ◌/◌, ◌<◌, ◌≤◌}
use native.Mathlib.Omega.{arith}
use borrow.Author.Tests.{le-ltb, ne_eqb}
use lib.Dec.{eqb, ltb}
use lib.ListN.{length, take, drop, length-append, take-append-drop}
use lib.Seq.{take-take, drop-append_seam}
use Rattle.expansion.specs.declared.Fields.{Fields}
use Rattle.expansion.specs.declared.Interpreted.{Interpreted}
use Rattle.expansion.specs.Expansion.{Field, class, program, ptype, services, septets_of, septets_of_all, chained, chain_length, expansion_length, septets_at, known, more_bytes, field_of, before, fields_from, nothing, absorb_all, interpreted_as, interpretation, expansion_at}
use Rattle.expansion.specs.Writing.{program_field, type_field, services_field, sent_fields, expansion_bytes, InRange, interpreted_of}
use Rattle.expansion.proofs.Interpreting.{skipped, said}
use Rattle.expansion.proofs.Marks.{all-septets, length-chained, chain-found, septets-back}

-- ---- one field after another

abbrev id_of : Field → ℕ
id_of (class c) = 0
id_of (program p d) = 1
id_of (ptype a t) = 2
id_of (services s m) = 4

-- every value within its width, and no class 0
abbrev Sound : Field → Type 0
Sound (class c) = (0 < c) × (c < 16)
Sound (program p none) = p < 8
Sound (program p (some d)) = (p < 8) × (d < 16384)
Sound (ptype a t) = (a < 2) × (t < 256)
Sound (services s m) = (s < 8) × (m < 2097152)

-- sound fields, their IDs rising from the least that may come
abbrev Rising : ℕ → List Field → Type 0
Rising next [] = Unit {0}
Rising next (f ∷ fs) = (next ≤ id_of f) × Sound f × Rising (suc (id_of f)) fs

one_field : (b id next : ℕ) (l r : List ℕ) (f : Field) → b / 16 ≡ id → more_bytes id b ≡ length l → ltb id next ≡ false → known id b ≡ true → eqb b 0 ≡ false → field_of id b (l ++ r) ≡ f
    → fields_from 0 next (b ∷ (l ++ r)) ≡ before f (fields_from 0 (suc id) r)
unfolding fields_from
one_field b id next l r f e m o k z g =
    let c : ltb (length (l ++ r)) (length l) ≡ false = le-ltb (length (l ++ r)) (length l) (rw length-append (omega arith)) in
    let s : fields_from (length l) (suc id) (l ++ r) ≡ fields_from 0 (suc id) r = skipped (length l) (suc id) (l ++ r) ∙ ap (fields_from 0 (suc id)) (drop-append_seam l r) in
    rw (e, m, o, k, z, g, c, s)

field-law : (f : Field) (next : ℕ) (r : List ℕ) → next ≤ id_of f → Sound f → fields_from 0 next (septets_of f ++ r) ≡ before f (fields_from 0 (suc (id_of f)) r)
field-law (class c) next r o h =
    let h0 = h.0 in
    let h1 = h.1 in
    let e : c % 16 ≡ c = omega arith in
    let g : c % 16 % 16 ≡ c = rw e e in
    let z : c % 16 / 16 ≡ 0 = rw e (omega arith) in
    one_field (c % 16) 0 next [] r (class c) z refl (le-ltb 0 next o) refl (ne_eqb (c % 16) 0 (λ q. absurd (omega arith))) (rw g)
field-law (program p none) next r o h =
    let b = 16 + 2 * (p % 8) in
    let e : (16 + 2 * (p % 8)) % 2 ≡ 0 = omega arith in
    let m : p % 8 ≡ p = omega (arith, h) in
    let g : (16 + 2 * (p % 8)) / 2 ≡ 8 + p = rw m (omega arith) in
    let g2 : (8 + p) % 8 ≡ p = omega arith in
    one_field b 1 next [] r (program p none) (omega arith) (rw e) (le-ltb 1 next o) refl (ne_eqb b 0 (λ q. absurd (omega arith))) (rw (e, g, g2))
field-law (program p (some d)) next r o h =
    let h0 = h.0 in
    let h1 = h.1 in
    let b = 16 + 2 * (p % 8) + 1 in
    let e : (16 + 2 * (p % 8) + 1) % 2 ≡ 1 = omega arith in
    let m : p % 8 ≡ p = omega arith in
    let g : (16 + 2 * (p % 8) + 1) / 2 ≡ 8 + p = rw m (omega arith) in
    let g2 : (8 + p) % 8 ≡ p = omega arith in
    let g3 : 128 * (d / 128 % 128) + d % 128 ≡ d = omega arith in
    one_field b 1 next (d / 128 % 128 ∷ d % 128 ∷ []) r (program p (some d)) (omega arith) (rw e) (le-ltb 1 next o) refl (ne_eqb b 0 (λ q. absurd (omega arith))) (rw (e, g, g2, g3))
field-law (ptype a t) next r o h =
    let h0 = h.0 in
    let h1 = h.1 in
    let b = 32 + 8 * (a % 2) + t / 128 % 2 in
    let g : (32 + 8 * (a % 2) + t / 128 % 2) / 8 ≡ 4 + a = omega arith in
    let g2 : (4 + a) % 2 ≡ a = omega arith in
    let g3 : (32 + 8 * (a % 2) + t / 128 % 2) % 2 ≡ t / 128 = omega arith in
    let g4 : 128 * (t / 128) + t % 128 ≡ t = omega arith in
    one_field b 2 next (t % 128 ∷ []) r (ptype a t) (omega arith) refl (le-ltb 2 next o) refl (ne_eqb b 0 (λ q. absurd (omega arith))) (rw (g, g2, g3, g4))
field-law (services s m) next r o h =
    let h0 = h.0 in
    let h1 = h.1 in
    let b = 64 + 8 + s % 8 in
    let g : (64 + 8 + s % 8) / 8 ≡ 9 = omega arith in
    let g2 : (64 + 8 + s % 8) % 8 ≡ s = omega arith in
    let g3 : 16384 * (m / 16384 % 128) + 128 * (m / 128 % 128) + m % 128 ≡ m = omega arith in
    one_field b 4 next (m / 16384 % 128 ∷ m / 128 % 128 ∷ m % 128 ∷ []) r (services s m) (omega arith) refl (le-ltb 4 next o) (rw g) (ne_eqb b 0 (λ q. absurd (omega arith))) (rw (g2, g3))

rising-law : (fs : List Field) (next : ℕ) → Rising next fs → fields_from 0 next (septets_of_all fs) ≡ some fs
unfolding fields_from
rising-law [] next h = refl
rising-law (f ∷ fs) next h = field-law f next (septets_of_all fs) h.0 h.1 ∙ rw (rising-law fs (suc (id_of f)) h.2)

-- ---- the fields to be sent

rise : (sent : Bool) (f : Field) (fs : List Field) (next : ℕ) → next ≤ id_of f → (sent ≡ true → Sound f) → ((n : ℕ) → n ≤ suc (id_of f) → Rising n fs) → Rising next (cond sent (f ∷ []) [] ++ fs)
rise true f fs next o h r = (o, h refl, r (suc (id_of f)) (omega arith))
rise false f fs next o h r = r next (omega arith)

sound-program : (displaced : Bool) (p d : ℕ) → p < 8 → (displaced ≡ true → d < 16384) → Sound (program p (cond displaced (some d) none))
sound-program true p d h k = (h, k refl)
sound-program false p d h k = h

few : (sent : Bool) (f : Field) (fs : List Field) (n m : ℕ) → length (septets_of f) ≤ n → length (septets_of_all fs) ≤ m → length (septets_of_all (cond sent (f ∷ []) [] ++ fs)) ≤ n + m
few true f fs n m h k = rw length-append (omega arith)
few false f fs n m h k = omega arith

few-program : (displaced : Bool) (p d : ℕ) → length (septets_of (program p (cond displaced (some d) none))) ≤ 3
few-program true p d = omega arith
few-program false p d = omega arith

module _ (x : Fields) where
  pub at-most-ten : length (expansion_bytes x) ≤ 10
  unfolding expansion_bytes
  at-most-ten =
      let s : length (septets_of_all (services_field x)) ≤ 4 =
      subst (λ (fs : List Field). length (septets_of_all fs) ≤ 4) (append-nil (services_field x)) (few x.serviced (services x.services x.marker) [] 4 0 (omega arith) (omega arith)) in
      let t : length (septets_of_all (type_field x ++ services_field x)) ≤ 6 = few x.typed (ptype x.access x.ptype) (services_field x) 2 4 (omega arith) s in
      let p : length (septets_of_all (program_field x ++ (type_field x ++ services_field x))) ≤ 9 =
      few x.programmed (program x.program (cond x.displaced (some x.displacement) none)) (type_field x ++ services_field x) 3 6 (few-program x.displaced x.program x.displacement) t in
      let c : length (septets_of_all (sent_fields x)) ≤ 10 = few x.classed (class x.class) (program_field x ++ (type_field x ++ services_field x)) 1 9 (omega arith) p in
      subst (λ (n : ℕ). n ≤ 10) (sym (length-chained (septets_of_all (sent_fields x)))) c

  rises : InRange x → Rising 0 (sent_fields x)
  rises h =
      let s : (n : ℕ) → n ≤ 4 → Rising n (services_field x) =
      λ n o. subst (Rising n) (append-nil (services_field x)) (rise x.serviced (services x.services x.marker) [] n o h.services (λ k q. tt)) in
      let t : (n : ℕ) → n ≤ 2 → Rising n (type_field x ++ services_field x) =
      λ n o. rise x.typed (ptype x.access x.ptype) (services_field x) n o h.ptype (λ k q. s k (omega arith)) in
      let p : (n : ℕ) → n ≤ 1 → Rising n (program_field x ++ (type_field x ++ services_field x)) =
      λ n o. rise x.programmed (program x.program (cond x.displaced (some x.displacement) none)) (type_field x ++ services_field x) n o
      (λ q. sound-program x.displaced x.program x.displacement (h.program q) (h.displacement q)) t in
      rise x.classed (class x.class) (program_field x ++ (type_field x ++ services_field x)) 0 (omega arith) h.class p

  pub fields-law : InRange x → fields_from 0 0 (septets_of_all (sent_fields x)) ≡ some (sent_fields x)
  fields-law h = rising-law (sent_fields x) 0 (rises h)

-- ---- what is told of them

-- what is told where no rule is broken
abbrev values : ℕ → ℕ → Bool → ℕ → ℕ → ℕ → ℕ → ℕ → Interpreted
values c p i d a t s m = record { right = true; class = c; program = p; displaced = i; displacement = d; access = a; ptype = t; services = s; marker = m }

class-told : (sent : Bool) (c : ℕ) (fs : List Field) → absorb_all (nothing true) (cond sent (class c ∷ []) [] ++ fs) ≡ absorb_all (values (cond sent c 0) 0 false 0 0 0 0 0) fs
class-told true c fs = refl
class-told false c fs = refl

program-told : (sent displaced : Bool) (c p d : ℕ) (fs : List Field)
    → absorb_all (values c 0 false 0 0 0 0 0) (cond sent (program p (cond displaced (some d) none) ∷ []) [] ++ fs)
    ≡ absorb_all (values c (cond sent p 0) (sent && displaced) (cond (sent && displaced) d 0) 0 0 0 0) fs
program-told true true c p d fs = refl
program-told true false c p d fs = refl
program-told false displaced c p d fs = refl

type-told : (sent : Bool) (c p : ℕ) (i : Bool) (d a t : ℕ) (fs : List Field)
    → absorb_all (values c p i d 0 0 0 0) (cond sent (ptype a t ∷ []) [] ++ fs) ≡ absorb_all (values c p i d (cond sent a 0) (cond sent t 0) 0 0) fs
type-told true c p i d a t fs = refl
type-told false c p i d a t fs = refl

services-told : (sent : Bool) (c p : ℕ) (i : Bool) (d a t s m : ℕ)
    → absorb_all (values c p i d a t 0 0) (cond sent (services s m ∷ []) []) ≡ values c p i d a t (cond sent s 0) (cond sent m 0)
services-told true c p i d a t s m = refl
services-told false c p i d a t s m = refl

all_told : (x : Fields) → absorb_all (nothing true) (sent_fields x) ≡ interpreted_of x
all_told x =
    class-told x.classed x.class (program_field x ++ (type_field x ++ services_field x))
    ∙ program-told x.programmed x.displaced _ x.program x.displacement (type_field x ++ services_field x)
    ∙ type-told x.typed _ _ _ _ x.access x.ptype (services_field x)
    ∙ services-told x.serviced _ _ _ _ _ _ x.services x.marker

-- where there are no bytes, nothing is sent
pub none-sent : (x : Fields) → length (expansion_bytes x) ≡ 0 → interpreted_of x ≡ nothing true
unfolding expansion_bytes
none-sent x h = sym (all_told x) ∙ ap (absorb_all (nothing true)) (no_field (sent_fields x) (sym (length-chained (septets_of_all (sent_fields x))) ∙ h))
  where
    no_field : (fs : List Field) → length (septets_of_all fs) ≡ 0 → fs ≡ []
    no_field [] e = refl
    no_field (class c ∷ fs) e = absurd (omega arith)
    no_field (program p none ∷ fs) e = absurd (omega arith)
    no_field (program p (some d) ∷ fs) e = absurd (omega arith)
    no_field (ptype a t ∷ fs) e = absurd (omega arith)
    no_field (services a m ∷ fs) e = absurd (omega arith)

-- ---- the bytes at their place

-- n bytes from a place on, in a list that is cut off behind them
window : (n at m : ℕ) (p : List ℕ) → at + n ≤ m → take n (drop at (take m p)) ≡ take n (drop at p)
window n zero m p h = take-take n m p (omega arith)
window n (suc at) zero p h = absurd (omega arith)
window n (suc at) (suc m) [] h = refl
window n (suc at) (suc m) (b ∷ p) h = window n at m p (omega arith)

module _ (p : List ℕ) (at la : ℕ) (x : Fields) (h : InRange x) (any : 0 < length (expansion_bytes x)) (stand : take (length (expansion_bytes x)) (drop at p) ≡ expansion_bytes x)
    (within : at + length (expansion_bytes x) ≤ la + 1) where
  found : expansion_length p at la ≡ length (expansion_bytes x)
  unfolding expansion_length expansion_bytes
  found =
      let s = septets_of_all (sent_fields x) in
      let n = length (expansion_bytes x) in
      let w = take 16 (drop at (take (la + 1) p)) in
      let t : length (expansion_bytes x) ≤ 10 = at-most-ten x in
      let e : length (expansion_bytes x) ≡ length (septets_of_all (sent_fields x)) = length-chained s in
      let f : take n w ≡ chained s = take-take n 16 (drop at (take (la + 1) p)) (omega arith) ∙ window n at (la + 1) p within ∙ stand in
      ap chain_length (sym (take-append-drop n w) ∙ ap (λ (l : List ℕ). l ++ drop n w) f)
      ∙ chain-found s (drop n w) (omega arith) (all-septets (sent_fields x)) ∙ sym e

  told : interpreted_of x ≡ interpretation (septets_at p at (length (expansion_bytes x)))
  unfolding interpretation septets_at expansion_bytes
  told =
      let s = septets_of_all (sent_fields x) in
      let e : map (λ b. b % 128) (take (length (expansion_bytes x)) (drop at p)) ≡ s = ap (map (λ b. b % 128)) stand ∙ septets-back s (all-septets (sent_fields x)) in
      sym (ap (λ (l : List ℕ). interpreted_as (nothing true) (fields_from 0 0 l)) e ∙ ap (interpreted_as (nothing true)) (fields-law x h) ∙ all_told x)

  pub expansion-law : (expansion_length p at la ≡ length (expansion_bytes x)) × (expansion_at p at la ≡ interpreted_of x)
  expansion-law =
      let f : expansion_length p at la ≡ length (expansion_bytes x) = found in
      (f, sym (said p at la (length (expansion_bytes x)) (interpreted_of x) (λ z. absurd (omega arith)) (sym f) told))

-- ---- what a reader makes of bytes that no writer sends

-- bits 2-1 of ID 2's first byte don't matter
pub type-bits-ignored : (b next : ℕ) (r : List ℕ) → 32 ≤ b → b < 48 → fields_from 0 next (b ∷ r) ≡ fields_from 0 next ((8 * (b / 8) + b % 2) ∷ r)
unfolding fields_from
type-bits-ignored b next r h k =
    let e : b / 16 ≡ 2 = omega arith in
    let e2 : (8 * (b / 8) + b % 2) / 16 ≡ 2 = omega arith in
    let z : eqb b 0 ≡ false = ne_eqb b 0 (λ q. absurd (omega arith)) in
    let z2 : eqb (8 * (b / 8) + b % 2) 0 ≡ false = ne_eqb (8 * (b / 8) + b % 2) 0 (λ q. absurd (omega arith)) in
    let a : (8 * (b / 8) + b % 2) / 8 ≡ b / 8 = omega arith in
    let t : (8 * (b / 8) + b % 2) % 2 ≡ b % 2 = omega arith in
    rw (e, e2, z, z2, a, t)

-- where interpretation stops, what is left is only counted
pub rest-only-counted : (b next : ℕ) (r : List ℕ) → next ≤ b / 16 → known (b / 16) b ≡ false → fields_from 0 next (b ∷ r) ≡ some []
unfolding fields_from
rest-only-counted b next r o k = let t : ltb (b / 16) next ≡ false = le-ltb (b / 16) next o in rw (t, k)
