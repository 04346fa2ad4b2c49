-- Document 01, "Expansion, PSD, pieces": what the writer may send. A flag says of each expansion field whether it is asked for.
use Rattle.std.specs.Prelude.{Bool, not, ◌&&◌, cond, List, [], ◌∷◌, ℕ, ◌-◌, eqb, ltb, leb}
use Rattle.refusal.specs.Refusal.{any_of}
use Rattle.expansion.specs.declared.Fields.{Fields}
use Rattle.settings.specs.declared.Settings.{Settings}

-- without ID 1 the program is 0
abbrev pub program_of : Settings → ℕ
program_of s = cond s.programmed s.program 0

abbrev pub class_one : Settings → Bool
class_one s = s.classed && eqb s.class 1

abbrev pub access_one : Settings → Bool
access_one s = s.typed && eqb s.access 1

-- 10: the writer's rules, for a PDU of `size` bytes
abbrev pub broken_rules : Settings → ℕ → List Bool
broken_rules s size =
    (s.classed && not (eqb s.class 1))  -- class only 1,
    ∷ (s.classed && eqb (program_of s) 0)  -- with nonzero program number
    ∷ (s.classed && not (access_one s))  -- and access 1
    ∷ (s.serviced && ltb 1 s.services)  -- applied services 0 or 1,
    ∷ (s.serviced && (eqb s.services 1 && not (class_one s)))  -- the latter only with class 1
    ∷ (access_one s && not (class_one s))  -- access 1 goes only with class 1
    ∷ (s.displaced && ltb 16384 size)  -- displacement wanted for a length over 16,384
    ∷ []

-- 14: values that are not to be sent, and values past their width
abbrev pub wrong_values : ℕ → Settings → List Bool
wrong_values stream s =
    leb 3 s.blend  -- blend 3
    ∷ (not (eqb s.blend 0) && not (eqb (program_of s) 0))  -- or nonzero with a nonzero program
    ∷ (eqb stream 0 && (leb 7 s.gain && leb s.gain 23))  -- core gain 7 to 23
    ∷ ltb 31 s.gain
    ∷ ltb 63 s.common
    ∷ ltb 7 s.latency
    ∷ (s.classed && ltb 15 s.class)
    ∷ (s.programmed && ltb 7 s.program)
    ∷ (s.typed && ltb 1 s.access)
    ∷ (s.typed && ltb 255 s.ptype)
    ∷ (s.serviced && ltb 7 s.services)
    ∷ (s.serviced && ltb 2097151 s.marker)
    ∷ []

-- the fields that are sent: ID 1 whenever any is
unfoldable pub fields_for : Settings → ℕ → Fields
fields_for s size = record {
  classed = s.classed;
  class = s.class;
  programmed = any_of (s.classed ∷ s.programmed ∷ s.displaced ∷ s.typed ∷ s.serviced ∷ []);
  program = program_of s;
  displaced = s.displaced;
  displacement = size - 1;
  typed = s.typed;
  access = s.access;
  ptype = s.ptype;
  serviced = s.serviced;
  services = s.services;
  marker = s.marker;
}
