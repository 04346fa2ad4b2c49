-- Septets put after others with bit 7 set.
use mathlib.Core.Path.{◌≡◌, refl, sym, ap, ◌∙◌}
use mathlib.Core.List.{List, [], ◌∷◌, ◌++◌, append_assoc, map-append}
use Prim.Native.Nat.{ℕ, ◌+◌, ◌-◌, ◌%◌, ◌≤◌}
use native.Mathlib.Omega.{arith}
use lib.ListN.{length, get_or, take, set, length-map}
use lib.Seq.{length-take-le}
use Rattle.expansion.specs.Expansion.{septets_of_all}
use Rattle.expansion.specs.declared.ExpansionBytes.{ExpansionBytes}
use Rattle.expansion.specs.declared.Fields.{Fields}
use Rattle.expansion.specs.Writing.{marked, class_field, program_field, type_field, services_field, sent_fields, expansion_bytes}
use Rattle.expansion.proofs.Marks.{joined, all-septets, length-chained, cleared}

-- the bytes so far
abbrev pub so_far : ExpansionBytes → List ℕ
so_far l = take l.length l.bytes

-- septets after septets
pub further : (t u w a b : List ℕ) → u ≡ t ++ marked a → w ≡ u ++ marked b → w ≡ t ++ marked (a ++ b)
further t u w a b e f =
    f ∙ ap (λ (l : List ℕ). l ++ marked b) e ∙ append_assoc t (marked a) (marked b) ∙ ap (λ (l : List ℕ). t ++ l) (sym (map-append (λ b. 128 + b) a b))

both-empty : (a b : List ℕ) → length a ≡ 0 → length b ≡ 0 → a ≡ b
both-empty [] [] h k = refl
both-empty [] (y ∷ b) h k = absurd (omega arith)
both-empty (x ∷ a) b h k = absurd (omega arith)

-- the septets of the four fields, one after another
pub four : (x : Fields) → septets_of_all (class_field x) ++ septets_of_all (program_field x) ++ septets_of_all (type_field x) ++ septets_of_all (services_field x) ≡ septets_of_all (sent_fields x)
four x =
    ap (λ (l : List ℕ). l ++ septets_of_all (type_field x) ++ septets_of_all (services_field x)) (sym (joined (class_field x) (program_field x)))
    ∙ ap (λ (l : List ℕ). l ++ septets_of_all (services_field x)) (sym (joined (class_field x ++ program_field x) (type_field x)))
    ∙ sym (joined (class_field x ++ program_field x ++ type_field x) (services_field x))
    ∙ ap septets_of_all (append_assoc (class_field x ++ program_field x) (type_field x) (services_field x) ∙ append_assoc (class_field x) (program_field x) (type_field x ++ services_field x))

-- the bytes when bit 7 is set in each, and the last byte's is still to be cleared
module _ (x : Fields) (l : ExpansionBytes) (e : so_far l ≡ marked (septets_of_all (sent_fields x))) (g : length l.bytes ≡ 16) where
  counted : l.length ≤ 16 → l.length ≡ length (expansion_bytes x)
  unfolding expansion_bytes
  counted h =
      sym (length-take-le l.length l.bytes (omega arith)) ∙ ap length e ∙ length-map (septets_of_all (sent_fields x)) (λ b. 128 + b)
      ∙ sym (length-chained (septets_of_all (sent_fields x)))

  pub none-put : l.length ≡ 0 → ((l.length ≡ length (expansion_bytes x)) × (l.length ≤ 10)) × (so_far l ≡ expansion_bytes x)
  none-put z = ((counted (omega arith), omega arith), both-empty (so_far l) (expansion_bytes x) (ap (λ (n : ℕ). length (take n l.bytes)) z) (sym (counted (omega arith)) ∙ z))

  pub some-put : (v : ℕ) → ¬ (l.length ≡ 0) → l.length ≤ 10 → v ≡ get_or l.bytes (l.length - 1) 0 % 128
      → ((l.length ≡ length (expansion_bytes x)) × (l.length ≤ 10)) × (take l.length (set l.bytes (l.length - 1) v) ≡ expansion_bytes x)
  unfolding expansion_bytes
  some-put v z h q = (
    (counted (omega arith), h),
    ap (λ (k : ℕ). take l.length (set l.bytes (l.length - 1) k)) q
        ∙ cleared (septets_of_all (sent_fields x)) l.bytes l.length (all-septets (sent_fields x)) e (omega arith) z,
  )
