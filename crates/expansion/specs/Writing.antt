-- Document 01, "Expansion, PSD, pieces": the fields to be sent, and their bytes.
use Rattle.std.specs.Prelude.{◌≡◌, true, ◌&&◌, cond, List, [], ◌∷◌, ◌++◌, map, ℕ, ◌+◌, ◌<◌}
use Rattle.std.proofs.Math.Option.{none, some}
use Rattle.expansion.specs.Expansion.{Field, class, program, ptype, services, septets_of_all, chained}
use Rattle.expansion.specs.declared.Fields.{Fields}
use Rattle.expansion.specs.declared.Interpreted.{Interpreted}

abbrev pub class_field : Fields → List Field
class_field x = cond x.classed (class x.class ∷ []) []

abbrev pub program_field : Fields → List Field
program_field x = cond x.programmed (program x.program (cond x.displaced (some x.displacement) none) ∷ []) []

abbrev pub type_field : Fields → List Field
type_field x = cond x.typed (ptype x.access x.ptype ∷ []) []

abbrev pub services_field : Fields → List Field
services_field x = cond x.serviced (services x.services x.marker ∷ []) []

-- the fields that are sent, in the order of their IDs
abbrev pub sent_fields : Fields → List Field
sent_fields x = class_field x ++ (program_field x ++ (type_field x ++ services_field x))

unfoldable pub expansion_bytes : Fields → List ℕ
expansion_bytes x = chained (septets_of_all (sent_fields x))

-- septets with bit 7 set in each
abbrev pub marked : List ℕ → List ℕ
marked = map (λ b. 128 + b)

-- what is sent is within its width, and no class 0
pub record InRange (x : Fields) : Type 0 where
  pub class : x.classed ≡ true → (0 < x.class) × (x.class < 16)
  pub program : x.programmed ≡ true → x.program < 8
  pub displacement : x.programmed ≡ true → x.displaced ≡ true → x.displacement < 16384
  pub ptype : x.typed ≡ true → (x.access < 2) × (x.ptype < 256)
  pub services : x.serviced ≡ true → (x.services < 8) × (x.marker < 2097152)

-- what a reader is to answer: 0 where not sent
abbrev pub interpreted_of : Fields → Interpreted
interpreted_of x = record {
  right = true;
  class = cond x.classed x.class 0;
  program = cond x.programmed x.program 0;
  displaced = x.programmed && x.displaced;
  displacement = cond (x.programmed && x.displaced) x.displacement 0;
  access = cond x.typed x.access 0;
  ptype = cond x.typed x.ptype 0;
  services = cond x.serviced x.services 0;
  marker = cond x.serviced x.marker 0;
}
