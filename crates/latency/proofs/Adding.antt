-- Every PDU's count is added, once: after n ticks for each of k counts, their sum has been added.
use mathlib.Core.Path.{◌≡◌, sym, ap, ap₂, ◌∙◌}
use mathlib.Core.List.{List}
use Prim.Native.Nat.{ℕ, zero, suc, ◌+◌, ◌*◌, ◌/◌, ◌%◌, ◌<◌}
use native.Mathlib.Nat.{add-zero, add_comm, add-suc, mul_comm, suc-mul, zero-mul, add-mul-mod_self_left, mod-eq_of_lt, mul-add-div_right, div-eq_of_lt}
use native.Mathlib.Omega.{arith}
use lib.ListN.{get_or}
use Rattle.latency.specs.Bench.{added_in, sum_first}
use Rattle.latency.proofs.Ticks.{added-count, added_none}

module _ (n k j : ℕ) (h : j < n) where
  place-mod : (k * n + j) % n ≡ j
  place-mod = ap (λ (x : ℕ). x % n) (add_comm (k * n) j ∙ ap (λ (x : ℕ). j + x) (mul_comm k n)) ∙ add-mul-mod_self_left j n k ∙ mod-eq_of_lt h

  place-div : (k * n + j) / n ≡ k
  place-div = mul-add-div_right (above n j h) k j ∙ ap (λ (x : ℕ). k + x) (div-eq_of_lt h) ∙ add-zero k
    where
      above : (n j : ℕ) → j < n → zero < n
      above n j h = omega arith

-- from one PDU to the next only the first tick adds
spread : (n : ℕ) (counts : List ℕ) (k j : ℕ) → j < n → added_in n counts (k * n + suc j) ≡ added_in n counts (k * n) + get_or counts k 0
unfolding added_in
spread n counts k zero h =
    let e : (k * n + 0) % n ≡ 0 = place-mod n k 0 h in
    ap (added_in n counts) (add-suc (k * n) 0)
    ∙ ap₂ (λ (x y : ℕ). x + y) (ap (added_in n counts) (add-zero (k * n)))
    (sym (added-count n (k * n + 0) counts e) ∙ ap (λ (i : ℕ). get_or counts i 0) (place-div n k 0 h))
spread n counts k (suc j) h =
    let e : (k * n + suc j) % n ≡ suc j = place-mod n k (suc j) h in
    ap (added_in n counts) (add-suc (k * n) (suc j))
    ∙ ap₂ (λ (x y : ℕ). x + y) (spread n counts k j (omega arith)) (sym (added_none n (k * n + suc j) counts (λ f. omega arith)))
    ∙ add-zero (added_in n counts (k * n) + get_or counts k 0)

pub counts-added : (m : ℕ) (counts : List ℕ) (k : ℕ) → added_in (suc m) counts (k * suc m) ≡ sum_first counts k
unfolding sum_first
counts-added m counts zero = unfold added_in in ap (added_in (suc m) counts) (zero-mul (suc m))
counts-added m counts (suc k) =
    ap (added_in (suc m) counts) (suc-mul k (suc m)) ∙ spread (suc m) counts k m (omega arith)
    ∙ ap (λ (x : ℕ). x + get_or counts k 0) (counts-added m counts k)
