-- The answers, by the spacing that a call found.
use mathlib.Core.Path.{◌≡◌, sym, ap, ◌∙◌}
use mathlib.Core.List.{List}
use Prim.Native.Nat.{ℕ}
use Rattle.latency.specs.declared.Spacing.{Spacing}
use Rattle.latency.specs.Latency.{spacing_of, smallest_for, answer, trial_for, trial, shown_for, shown_ticks, row_for, row_after}

module _ (mode stream : ℕ) (counts : List ℕ) (s k : Spacing) (e : s ≡ spacing_of mode stream counts) (f : s ≡ k) where
  is : k ≡ spacing_of mode stream counts
  is = sym f ∙ e

  pub answer-by : smallest_for k counts ≡ answer mode stream counts
  unfolding answer
  answer-by = ap (λ (x : Spacing). smallest_for x counts) is

  pub trial-by : (v : ℕ) → trial_for k counts v ≡ trial mode stream counts v
  unfolding trial
  trial-by v = ap (λ (x : Spacing). trial_for x counts v) is

  pub shown_by : (t room : ℕ) → shown_for k counts t room ≡ shown_ticks mode stream counts t room
  unfolding shown_ticks
  shown_by t room = ap (λ (x : Spacing). shown_for x counts t room) is

  pub row_by : (v t : ℕ) (row : List ℕ) → row_for k counts v t row ≡ row_after mode stream counts v t row
  unfolding row_after
  row_by v t row = ap (λ (x : Spacing). row_for x counts v t row) is
