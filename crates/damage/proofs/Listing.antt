-- The places at which two words differ, place by place: those that are listed, and those from a place on.
use Rattle.std.proofs.Common.{◌≡◌, ℕ, suc, ◌+◌, ◌<◌, ◌≤◌, Bool, cond, eqb, List, [], ◌∷◌, ◌++◌, length, get_or, take, drop, set, sym, ap, ◌∙◌, ap₂, append_assoc, append-nil, add-one, drop_of_length-le, drop-cons, take-suc-set, eq-eqb, ne_eqb}
use Rattle.damage.specs.Damage.{differing}

-- the first count of the list, and then the places from p on, are all of them
abbrev pub Listed : List ℕ → List ℕ → ℕ → ℕ → List ℕ → Type 0
Listed u v p count out = take count out ++ differing p (drop p u) (drop p v) ≡ differing 0 u v

module _ (u v : List ℕ) (p : ℕ) (hu : p < length u) (hv : p < length v) where
  abbrev ahead : Bool → List ℕ
  ahead b = let rest = differing (suc p) (drop (suc p) u) (drop (suc p) v) in cond b rest (p ∷ rest)

  next : differing p (drop p u) (drop p v) ≡ ahead (eqb (get_or u p 0) (get_or v p 0))
  unfolding differing
  next = ap₂ (differing p) (drop-cons u p 0 hu) (drop-cons v p 0 hv)

  pub passed : (count : ℕ) (out : List ℕ) → get_or u p 0 ≡ get_or v p 0 → Listed u v p count out → Listed u v (p + 1) count out
  passed count out e l = rw add-one (ap (λ (r : List ℕ). take count out ++ r) (sym (next ∙ ap ahead (eq-eqb _ _ e))) ∙ l)

  pub listed : (count : ℕ) (out : List ℕ) → count < length out → (get_or u p 0 ≡ get_or v p 0 → ⊥) → Listed u v p count out → Listed u v (p + 1) (count + 1) (set out count p)
  listed count out h d l =
      let rest = differing (suc p) (drop (suc p) u) (drop (suc p) v) in
      rw (add-one p, add-one count)
      (ap (λ (r : List ℕ). r ++ rest) (take-suc-set out count p h) ∙ append_assoc (take count out) (p ∷ []) rest
      ∙ ap (λ (r : List ℕ). take count out ++ r) (sym (next ∙ ap ahead (ne_eqb _ _ d))) ∙ l)

-- past the end there are none
pub all_listed : (u v : List ℕ) (p count : ℕ) (out : List ℕ) → length u ≤ p → Listed u v p count out → take count out ≡ differing 0 u v
unfolding differing
all_listed u v p count out h l = sym (append-nil (take count out)) ∙ ap (λ (r : List ℕ). take count out ++ differing p r (drop p v)) (sym (drop_of_length-le u h)) ∙ l
