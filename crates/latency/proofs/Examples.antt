-- Runs of the bench, computed.
use mathlib.Core.Path.{◌≡◌, refl}
use mathlib.Core.List.{List, [], ◌∷◌, map}
use Prim.Native.Nat.{ℕ}
use Rattle.modes.specs.Modes.{listing}
use Rattle.latency.specs.declared.Answer.{Answer}
use Rattle.latency.specs.declared.Answer.TheVariants.{Smallest, AllDry, Refused}
use Rattle.latency.specs.Latency.{added, taken, is_dry, left, dry_ticks, most_waiting, runs_dry, smallest_of, waiting_from, over_most, counts_refused, spacing_of, answer, trial}

-- mode, stream, counts, and the answer
pub record Example : Type 0 where
  pub mode : ℕ
  pub stream : ℕ
  pub counts : List ℕ
  pub says : Answer

abbrev example : ℕ → ℕ → List ℕ → Answer → Example
example mode stream counts says = record { mode = mode; stream = stream; counts = counts; says = says }

-- N is 4 in mode 1, 2, 3 and 13, core, and in mode 10, enhanced; it is 32 in mode 0 and 10, core, and in mode 1, enhanced
abbrev pub list : List Example
list =
    example 1 0 (0 ∷ []) (Smallest 2)
    ∷ example 1 0 (3 ∷ []) (Smallest 1)
    ∷ example 13 0 (4 ∷ 4 ∷ []) (Smallest 0)
    ∷ example 10 1 (3 ∷ 5 ∷ []) (Smallest 1)
    ∷ example 2 0 (0 ∷ 0 ∷ 0 ∷ []) (Smallest 6)
    ∷ example 3 0 (0 ∷ 0 ∷ 0 ∷ 0 ∷ []) AllDry
    ∷ example 3 0 (0 ∷ 0 ∷ 0 ∷ 2 ∷ []) (Smallest 7)
    ∷ example 0 0 (0 ∷ []) AllDry
    ∷ example 10 0 (31 ∷ 33 ∷ []) (Smallest 1)
    ∷ example 1 1 (31 ∷ 33 ∷ []) (Smallest 1)
    ∷ example 4 0 [] (Refused 5)
    ∷ example 0 0 [] (Refused 21)
    ∷ example 0 0 (64 ∷ []) (Refused 21)
    ∷ example 1 0 (63 ∷ []) (Smallest 0)
    ∷ []

pub answers : map (λ x. answer x.mode x.stream x.counts) list ≡ map (λ x. x.says) list
unfolding added taken is_dry left dry_ticks runs_dry smallest_of over_most counts_refused spacing_of answer listing
answers = refl

-- counts 3 and 5, 4 ticks apart: tick 3 is dry without latency; with latency 1 two more wait
pub three-five : trial 1 0 (3 ∷ 5 ∷ []) 0 ≡ record { refusal = 0; ticks = 8; dry = 1; first = 3; most = 5 }
unfolding added taken is_dry left dry_ticks most_waiting over_most counts_refused spacing_of trial listing
three-five = refl

pub three-five-later : trial 1 0 (3 ∷ 5 ∷ []) 1 ≡ record { refusal = 0; ticks = 8; dry = 0; first = 0; most = 6 }
unfolding added taken is_dry left dry_ticks most_waiting over_most counts_refused spacing_of trial listing
three-five-later = refl

-- the packets that wait at each of these ticks, after any adding
pub three-five-waiting : waiting_from 4 (3 ∷ 5 ∷ []) 1 0 8 ≡ 3 ∷ 3 ∷ 3 ∷ 2 ∷ 6 ∷ 5 ∷ 4 ∷ 3 ∷ []
unfolding added taken left waiting_from
three-five-waiting = refl
