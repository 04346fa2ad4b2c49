-- Document 02, Ask 7: what holds of the bench as a whole.
use Rattle.std.specs.Prelude.{◌≡◌, true, false, List, ℕ, zero, suc, ◌+◌, ◌*◌, ◌<◌, ◌≤◌, length, get_or}
use Rattle.latency.specs.declared.Answer.{Answer}
use Rattle.latency.specs.declared.Answer.TheVariants.{Smallest, AllDry, Refused}
use Rattle.latency.specs.Latency.{added, taken, is_dry, left, waiting, ticks, tally, runs_dry}

-- counts that are not refused, n ticks apart
pub record Tried (n : ℕ) (counts : List ℕ) : Type 0 where
  pub apart : 0 < n
  pub near : n ≤ 32
  pub few : length counts ≤ 4096
  pub small : (i : ℕ) → get_or counts i 0 ≤ 63

-- packets added in the first t ticks
unfoldable pub added_in : ℕ → List ℕ → ℕ → ℕ
added_in n counts zero = 0
added_in n counts (suc t) = added_in n counts t + added n counts t

-- packets taken in the first t ticks of latency v
unfoldable pub taken_in : ℕ → List ℕ → ℕ → ℕ → ℕ
taken_in n counts v zero = 0
taken_in n counts v (suc t) = taken_in n counts v t + taken v t (waiting n counts v t)

-- the sum of the first k counts
unfoldable pub sum_first : List ℕ → ℕ → ℕ
sum_first counts zero = 0
sum_first counts (suc k) = sum_first counts k + get_or counts k 0

-- packets added equal taken plus waiting at tick t: once its count is added, and once a packet is taken
pub record Conserved (n : ℕ) (counts : List ℕ) (v t : ℕ) : Type 0 where
  pub once-added : added_in n counts (suc t) ≡ taken_in n counts v t + waiting n counts v t
  pub once-taken : added_in n counts (suc t) ≡ taken_in n counts v (suc t) + left n counts v (suc t)

-- what is told of the run of latency v
pub record Told (n : ℕ) (counts : List ℕ) (v : ℕ) : Type 0 where
  -- a latency without a dry tick has none among its ticks
  pub none : runs_dry n counts v ≡ false → (t : ℕ) → t < ticks n counts → is_dry v t (waiting n counts v t) ≡ false
  -- of one with a dry tick the first that is told is dry, and none before it
  pub within : runs_dry n counts v ≡ true → (tally n counts v (ticks n counts)).first < ticks n counts
  pub dry : runs_dry n counts v ≡ true
      → is_dry v (tally n counts v (ticks n counts)).first (waiting n counts v (tally n counts v (ticks n counts)).first) ≡ true
  pub earlier : runs_dry n counts v ≡ true → (t : ℕ) → t < (tally n counts v (ticks n counts)).first → is_dry v t (waiting n counts v t) ≡ false
  -- a latency that takes nothing before the run ends has none
  pub late : ticks n counts ≤ 2 * v → runs_dry n counts v ≡ false
  -- no more packets wait at any tick than is told, and so many wait at one of them
  pub most : (t : ℕ) → t < ticks n counts → waiting n counts v t ≤ (tally n counts v (ticks n counts)).most
  pub reached : 0 < ticks n counts → (t : ℕ) × (t < ticks n counts) × (waiting n counts v t ≡ (tally n counts v (ticks n counts)).most)

-- of an answer to counts that are not refused: a latency that is found is below 8 and has no dry tick, and each smaller one has; none exactly when
-- all eight have one
pub record Answers (n : ℕ) (counts : List ℕ) (a : Answer) : Type 0 where
  pub accepted : (k : ℕ) → ¬ (a ≡ Refused k)
  pub below : (v : ℕ) → a ≡ Smallest v → v < 8
  pub without : (v : ℕ) → a ≡ Smallest v → runs_dry n counts v ≡ false
  pub least : (v : ℕ) → a ≡ Smallest v → (u : ℕ) → u < v → runs_dry n counts u ≡ true
  pub all-dry : a ≡ AllDry → (v : ℕ) → v < 8 → runs_dry n counts v ≡ true
  pub none_found : ((v : ℕ) → v < 8 → runs_dry n counts v ≡ true) → a ≡ AllDry
