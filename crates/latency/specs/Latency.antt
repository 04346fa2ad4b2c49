-- Document 02, Ask 7: a bench for latency settings. Input is the count of packets ended in each PDU.
use Rattle.std.specs.Prelude.{Bool, true, false, ◌||◌, cond, List, [], ◌∷◌, ◌++◌, ℕ, zero, suc, ◌+◌, ◌-◌, ◌*◌, ◌/◌, ◌%◌, min, max, eqb, ltb, length, get_or}
use Rattle.buffer.specs.Buffer.{put_at}
use Rattle.modes.specs.declared.Mode.{Mode}
use Rattle.modes.specs.declared.Listing.{Listing}
use Rattle.modes.specs.declared.Listing.TheVariants.{Listed, Refused as Unlisted}
use Rattle.modes.specs.Modes.{listing}
use Rattle.latency.specs.declared.Spacing.{Spacing}
use Rattle.latency.specs.declared.Spacing.TheVariants.{Every, Refused as NotTried}
use Rattle.latency.specs.declared.Answer.{Answer}
use Rattle.latency.specs.declared.Answer.TheVariants.{Smallest, AllDry, Refused}
use Rattle.latency.specs.declared.Tally.{Tally}
use Rattle.latency.specs.declared.Trial.{Trial}
use Rattle.latency.specs.declared.Shown.{Shown}

-- ---- a tick

-- N, the ticks from one PDU to the next: 4 for sequence range 0-7, 32 for 0-1
abbrev pub spacing : Mode → ℕ
spacing m = cond (eqb m.sequences 8) 4 32

-- packets added at tick t: at tick 0 and every n ticks one PDU's count
unfoldable pub added : ℕ → List ℕ → ℕ → ℕ
added n counts t = cond (eqb (t % n) 0) (get_or counts (t / n) 0) 0

-- packets taken at tick t where so many wait, after any adding: a latency v takes nothing before tick 2 times v; from there one, if any waits
unfoldable pub taken : ℕ → ℕ → ℕ → ℕ
taken v t waiting = cond (ltb t (2 * v)) 0 (min 1 waiting)

-- whether tick t, at which so many wait, is dry: from tick 2 times v on, and none waits
unfoldable pub is_dry : ℕ → ℕ → ℕ → Bool
is_dry v t waiting = cond (ltb t (2 * v)) false (eqb waiting 0)

-- packets that wait once any is taken
abbrev pub leaves : ℕ → ℕ → ℕ → ℕ
leaves v t waiting = waiting - taken v t waiting

-- packets that wait after the first t ticks of latency v
unfoldable pub left : ℕ → List ℕ → ℕ → ℕ → ℕ
left n counts v zero = 0
left n counts v (suc t) = leaves v t (left n counts v t + added n counts t)

-- packets that wait at tick t, after any adding and before any is taken
abbrev pub waiting : ℕ → List ℕ → ℕ → ℕ → ℕ
waiting n counts v t = left n counts v t + added n counts t

-- ---- a run

-- the bench runs n ticks for each count
abbrev pub ticks : ℕ → List ℕ → ℕ
ticks n counts = length counts * n

-- the dry ones among the first t ticks, in order
unfoldable pub dry_ticks : ℕ → List ℕ → ℕ → ℕ → List ℕ
dry_ticks n counts v zero = []
dry_ticks n counts v (suc t) = dry_ticks n counts v t ++ cond (is_dry v t (waiting n counts v t)) (t ∷ []) []

-- the most packets that wait at one of the first t ticks
unfoldable pub most_waiting : ℕ → List ℕ → ℕ → ℕ → ℕ
most_waiting n counts v zero = 0
most_waiting n counts v (suc t) = max (most_waiting n counts v t) (waiting n counts v t)

-- what is told of the first t ticks: how many are dry, the first of them, 0 where none is, and the most packets that wait
abbrev pub tally : ℕ → List ℕ → ℕ → ℕ → Tally
tally n counts v t = record { dry = length (dry_ticks n counts v t); first = get_or (dry_ticks n counts v t) 0 0; most = most_waiting n counts v t }

-- whether latency v has a dry tick
unfoldable pub runs_dry : ℕ → List ℕ → ℕ → Bool
runs_dry n counts v = ltb 0 (length (dry_ticks n counts v (ticks n counts)))

-- the smallest of k latencies from v on without a dry tick
unfoldable pub smallest_of : ℕ → List ℕ → ℕ → ℕ → Answer
smallest_of n counts v zero = AllDry
smallest_of n counts v (suc k) = cond (runs_dry n counts v) (smallest_of n counts (suc v) k) (Smallest v)

-- packets that wait at k ticks from t on
unfoldable pub waiting_from : ℕ → List ℕ → ℕ → ℕ → ℕ → List ℕ
waiting_from n counts v t zero = []
waiting_from n counts v t (suc k) = waiting n counts v t ∷ waiting_from n counts v (suc t) k

-- ---- what is turned down

-- whether a count is over 63
unfoldable pub over_most : List ℕ → Bool
over_most [] = false
over_most (c ∷ cs) = ltb 63 c || over_most cs

-- 21: no counts, more than 4,096, or one over 63
unfoldable pub counts_refused : List ℕ → Bool
counts_refused counts = eqb (length counts) 0 || (ltb 4096 (length counts) || over_most counts)

abbrev pub spacing_for : Listing → List ℕ → Spacing
spacing_for (Unlisted k) counts = NotTried k
spacing_for (Listed m) counts = cond (counts_refused counts) (NotTried 21) (Every (spacing m))

-- N for the counts of a mode and stream; or 5 for those that the table has not, and after it 21
unfoldable pub spacing_of : ℕ → ℕ → List ℕ → Spacing
spacing_of mode stream counts = spacing_for (listing mode stream) counts

-- ---- the answers

abbrev pub smallest_for : Spacing → List ℕ → Answer
smallest_for (NotTried k) counts = Refused k
smallest_for (Every n) counts = smallest_of n counts 0 8

-- the smallest v from 0 to 7 without a dry tick, or none
unfoldable pub answer : ℕ → ℕ → List ℕ → Answer
answer mode stream counts = smallest_for (spacing_of mode stream counts) counts

-- the paper's number of an answer, its v, 0 where there is none, and whether there is one
abbrev pub latency_refusal : Answer → ℕ
latency_refusal (Refused k) = k
latency_refusal (Smallest v) = 0
latency_refusal AllDry = 0

abbrev pub latency_of : Answer → ℕ
latency_of (Refused k) = 0
latency_of (Smallest v) = v
latency_of AllDry = 0

abbrev pub is_found : Answer → Bool
is_found (Refused k) = false
is_found (Smallest v) = true
is_found AllDry = false

abbrev pub trial_with : ℕ → Tally → Trial
trial_with ticks t = record { refusal = 0; ticks = ticks; dry = t.dry; first = t.first; most = t.most }

abbrev pub trial_for : Spacing → List ℕ → ℕ → Trial
trial_for (NotTried k) counts v = record { refusal = k; ticks = 0; dry = 0; first = 0; most = 0 }
trial_for (Every n) counts v = trial_with (ticks n counts) (tally n counts v (ticks n counts))

-- what latency v does with the counts
unfoldable pub trial : ℕ → ℕ → List ℕ → ℕ → Trial
trial mode stream counts v = trial_for (spacing_of mode stream counts) counts v

-- how many ticks of the run are shown from tick t on: as many as there are, and as there is room for
abbrev pub shown_count : ℕ → List ℕ → ℕ → ℕ → ℕ
shown_count n counts t room = min room (ticks n counts - t)

abbrev pub shown_for : Spacing → List ℕ → ℕ → ℕ → Shown
shown_for (NotTried k) counts t room = record { refusal = k; count = 0 }
shown_for (Every n) counts t room = record { refusal = 0; count = shown_count n counts t room }

-- how many ticks are shown from tick t on, in a row of so many places
unfoldable pub shown_ticks : ℕ → ℕ → List ℕ → ℕ → ℕ → Shown
shown_ticks mode stream counts t room = shown_for (spacing_of mode stream counts) counts t room

abbrev pub row_for : Spacing → List ℕ → ℕ → ℕ → List ℕ → List ℕ
row_for (NotTried k) counts v t row = row
row_for (Every n) counts v t row = put_at row 0 (waiting_from n counts v t (shown_count n counts t (length row)))

-- a row with the packets that wait at each of these ticks from its first place on
unfoldable pub row_after : ℕ → ℕ → List ℕ → ℕ → ℕ → List ℕ → List ℕ
row_after mode stream counts v t row = row_for (spacing_of mode stream counts) counts v t row
