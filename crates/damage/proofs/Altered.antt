-- One place altered or passed by: how many places differ, and which still agree.
use Rattle.std.proofs.Common.{◌≡◌, ℕ, zero, suc, ◌+◌, ◌-◌, ◌<◌, ◌≤◌, Bool, true, false, cond, eqb, List, [], ◌∷◌, length, get_or, drop, set, sym, refl, ap, ◌∙◌, arith, length-drop, drop-drop, drop-set-lt, eq-eqb, ne_eqb}
use Rattle.header.specs.Header.{distance}
use Rattle.damage.specs.Damage.{Turned}

both : (t : Bool) (n : ℕ) → cond t (suc n) (suc (suc n)) ≡ suc (cond t n (suc n))
both true n = refl
both false n = refl

pub differs-set : (l b : List ℕ) (p v : ℕ) → p < length l → drop p l ≡ drop p b → (v ≡ get_or l p 0 → ⊥) → distance (set l p v) b ≡ suc (distance l b)
unfolding distance
differs-set [] b p v h e n = absurd (omega arith)
differs-set (a ∷ l) [] zero v h e n = let z : suc (length l) ≡ 0 = ap length e in absurd (omega arith)
differs-set (a ∷ l) [] (suc p) v h e n =
    let z : length (drop p l) ≡ 0 = ap length e in
    absurd (omega (arith, length-drop p l))
differs-set (a ∷ l) (b ∷ m) zero v h e n =
    let same : a ≡ b = cc in
    rw (same, ne_eqb v b (λ q. n (q ∙ sym same)), eq-eqb b b refl)
differs-set (a ∷ l) (b ∷ m) (suc p) v h e n = rw (differs-set l m p v (omega arith) e n) (both (eqb a b) (distance l m))

-- lists that agree from a place on agree from any later one on
pub agree_on : (l b : List ℕ) (p k : ℕ) → drop p l ≡ drop p b → drop (p + k) l ≡ drop (p + k) b
agree_on l b p k e = sym (drop-drop k p l) ∙ ap (drop k) e ∙ drop-drop k p b

pub passed : (place places left : ℕ) (l : List ℕ) → left < places → Turned place places left left l l
passed place places left l h = record { fits = h; count = λ b e. refl; ahead = λ b e. agree_on l b place 1 e }

pub altered : (place places left v : ℕ) (l : List ℕ) → place < length l → (v ≡ get_or l place 0 → ⊥) → 0 < left → left ≤ places → Turned place places left (left - 1) l (set l place v)
altered place places left v l h n some fits =
    record {
      fits = omega arith;
      count = λ b e. let d = differs-set l b place v h e n in omega arith;
      ahead = λ b e. drop-set-lt (place + 1) l place v (omega arith) ∙ agree_on l b place 1 e;
    }
