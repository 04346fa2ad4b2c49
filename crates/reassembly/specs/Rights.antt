-- Document 02, Ask 10: which PDUs are withheld.
use Rattle.std.specs.Prelude.{Bool, true, false, not, ◌&&◌, cond, ℕ, eqb}
use Rattle.std.proofs.Math.Option.{Option, none, some}
use Rattle.reassembly.specs.Reassembly.{Said, in_sequence}

-- what a receiver is opened with: the entitled programs, and whether its mode and stream are core of sequence range 0-7, which keep a value
pub record Rights : Type 0 where
  pub entitled : ℕ → Bool
  pub keeps : Bool

-- what a PDU says of its program: its number and the applied services, each 0 where not sent
pub record Label : Type 0 where
  pub program : ℕ
  pub services : ℕ

-- note 1 forgets the kept value, before the PDU's own is taken
abbrev pub forgetting : ℕ → Option ℕ → ℕ → Option ℕ → Option ℕ
forgetting range last q kept = cond (in_sequence range last q) kept none

-- core PDUs of sequence range 0-7 take the value sent with sequence 0 until the next such; others their own
abbrev pub in_force : Bool → ℕ → ℕ → Option ℕ → Option ℕ
in_force false q services kept = some services
in_force true q services kept = cond (eqb q 0) (some services) kept

-- what is kept after it: nothing, but for core of sequence range 0-7
abbrev pub kept_after : Bool → Option ℕ → Option ℕ
kept_after false value = none
kept_after true value = value

-- applied services 1, or a value that is unknown
abbrev pub barred : Option ℕ → Bool
barred none = true
barred (some v) = eqb v 1

abbrev pub withheld_by : (ℕ → Bool) → ℕ → Option ℕ → Bool
withheld_by entitled program value = not (entitled program) && barred value

-- a PDU, withheld or not
abbrev pub under : Bool → Said → Said
under w d = record { sequence = d.sequence; pfirst = d.pfirst; plast = d.plast; start = d.start; psd_bytes = d.psd_bytes; pieces = d.pieces; withheld = w }
