-- Document 01, "Expansion, PSD, pieces": expansion bytes follow the locators if flagged.
use Rattle.std.specs.Prelude.{Bool, true, false, not, ◌&&◌, ◌||◌, cond, List, [], ◌∷◌, ◌++◌, map, ℕ, zero, suc, ◌+◌, ◌*◌, ◌%◌, ◌/◌, eqb, ltb, length, get_or, take, drop}
use Rattle.std.proofs.Math.Option.{Option, none, some}
use Rattle.layout.specs.Control.{odd}
use Rattle.expansion.specs.declared.Interpreted.{Interpreted}

pub data Field : Type 0 where
  class : ℕ → Field  -- ID 0
  program : ℕ → Option ℕ → Field  -- ID 1: number, displacement
  ptype : ℕ → ℕ → Field  -- ID 2: access, type
  services : ℕ → ℕ → Field  -- ID 4: applied services, marker

-- ---- fields to bytes

-- bits 6-0 of a field's bytes: bits 6-4 of the first are its ID; each value modulo its width
abbrev pub septets_of : Field → List ℕ
septets_of (class c) = c % 16 ∷ []
septets_of (program p none) = (16 + 2 * (p % 8)) ∷ []
septets_of (program p (some d)) = (16 + 2 * (p % 8) + 1) ∷ d / 128 % 128 ∷ d % 128 ∷ []
septets_of (ptype a t) = (32 + 8 * (a % 2) + t / 128 % 2) ∷ t % 128 ∷ []
septets_of (services s m) = (64 + 8 + s % 8) ∷ m / 16384 % 128 ∷ m / 128 % 128 ∷ m % 128 ∷ []

abbrev pub septets_of_all : List Field → List ℕ
septets_of_all [] = []
septets_of_all (f ∷ fs) = septets_of f ++ septets_of_all fs

-- bit 7 says that another byte follows, also inside a field
unfoldable pub chained : List ℕ → List ℕ
chained [] = []
chained (b ∷ []) = b ∷ []
chained (b ∷ c ∷ l) = (128 + b) ∷ chained (c ∷ l)

-- ---- bytes to fields

abbrev pub one_more : ℕ → ℕ
one_more zero = zero
one_more (suc n) = suc (suc n)

-- how many bytes up to and with the first whose bit 7 is clear; 0 where there is none
unfoldable pub chain_length : List ℕ → ℕ
chain_length [] = 0
chain_length (b ∷ l) = cond (ltb b 128) 1 (one_more (chain_length l))

-- how many expansion bytes stand from a place on: at most 16, none past La; 0 where that is broken
unfoldable pub expansion_length : List ℕ → ℕ → ℕ → ℕ
expansion_length p at la = chain_length (take 16 (drop at (take (la + 1) p)))

-- bits 6-0 of n bytes from a place on
unfoldable pub septets_at : List ℕ → ℕ → ℕ → List ℕ
septets_at p at n = map (λ b. b % 128) (take n (drop at p))

-- interpretation stops at ID 3, 5, 6, 7, or 4 with bit 3 clear
abbrev pub known : ℕ → ℕ → Bool
known id b = ltb id 3 || (eqb id 4 && odd (b / 8))

-- a field's bytes after its first
abbrev pub more_bytes : ℕ → ℕ → ℕ
more_bytes id b = cond (eqb id 0) 0 (cond (eqb id 1) (2 * (b % 2)) (cond (eqb id 2) 1 3))

-- a field from its ID, its first byte and those after it
abbrev pub field_of : ℕ → ℕ → List ℕ → Field
field_of id b r =
    cond (eqb id 0) (class (b % 16))
    (cond (eqb id 1) (program (b / 2 % 8) (cond (odd b) (some (128 * get_or r 0 0 + get_or r 1 0)) none))
    (cond (eqb id 2) (ptype (b / 8 % 2) (128 * (b % 2) + get_or r 0 0))
    (services (b % 8) (16384 * get_or r 0 0 + 128 * get_or r 1 0 + get_or r 2 0))))

abbrev pub before : Field → Option (List Field) → Option (List Field)
before f none = none
before f (some fs) = some (f ∷ fs)

-- The fields of the septets, or none where a rule is broken. `next` is the least ID that may come; `skip` septets still belong to a field already taken.
unfoldable pub fields_from : ℕ → ℕ → List ℕ → Option (List Field)
fields_from zero next [] = some []
fields_from (suc skip) next [] = some []
fields_from (suc skip) next (b ∷ r) = fields_from skip next r
fields_from zero next (b ∷ r) =
    cond (ltb (b / 16) next) none  -- IDs rise strictly
    (cond (not (known (b / 16) b)) (some [])  -- what is left is only counted
    (cond (eqb b 0) none  -- class never 0
    (cond (ltb (length r) (more_bytes (b / 16) b)) none  -- field cut
    (before (field_of (b / 16) b r) (fields_from (more_bytes (b / 16) b) (suc (b / 16)) r)))))

-- ---- what a reader answers: 0 where not sent or not interpreted

abbrev pub nothing : Bool → Interpreted
nothing right = record { right = right; class = 0; program = 0; displaced = false; displacement = 0; access = 0; ptype = 0; services = 0; marker = 0 }

-- a field that was interpreted sets its values
abbrev pub absorb : Field → Interpreted → Interpreted
absorb (class c) v = record { right = v.right; class = c; program = v.program; displaced = v.displaced; displacement = v.displacement; access = v.access; ptype = v.ptype; services = v.services; marker = v.marker }
absorb (program p none) v = record { right = v.right; class = v.class; program = p; displaced = v.displaced; displacement = v.displacement; access = v.access; ptype = v.ptype; services = v.services; marker = v.marker }
absorb (program p (some d)) v = record { right = v.right; class = v.class; program = p; displaced = true; displacement = d; access = v.access; ptype = v.ptype; services = v.services; marker = v.marker }
absorb (ptype a t) v = record { right = v.right; class = v.class; program = v.program; displaced = v.displaced; displacement = v.displacement; access = a; ptype = t; services = v.services; marker = v.marker }
absorb (services s m) v = record { right = v.right; class = v.class; program = v.program; displaced = v.displaced; displacement = v.displacement; access = v.access; ptype = v.ptype; services = s; marker = m }

abbrev pub absorb_all : Interpreted → List Field → Interpreted
absorb_all v [] = v
absorb_all v (f ∷ fs) = absorb_all (absorb f v) fs

abbrev pub interpreted_as : Interpreted → Option (List Field) → Interpreted
interpreted_as v none = nothing false
interpreted_as v (some fs) = absorb_all v fs

-- what septets say
unfoldable pub interpretation : List ℕ → Interpreted
interpretation l = interpreted_as (nothing true) (fields_from 0 0 l)

-- what the expansion bytes from a place on say; a chain over 16 bytes or past La breaks the rules
unfoldable pub expansion_at : List ℕ → ℕ → ℕ → Interpreted
expansion_at p at la = cond (eqb (expansion_length p at la) 0) (nothing false) (interpretation (septets_at p at (expansion_length p at la)))
