-- A list of programs, turn by turn.
use mathlib.Core.Path.{◌≡◌, sym, ◌∙◌, ap}
use mathlib.Core.Bool.{Bool, true, false, not, ◌&&◌}
use mathlib.Core.List.{List}
use Prim.Native.Nat.{ℕ, ◌+◌, ◌<◌, ◌≤◌}
use native.Mathlib.Numerals.{add-one}
use lib.Dec.{leb}
use lib.ListN.{length, get_or, drop, drop_of_length-le}
use lib.Seq.{drop-cons}
use borrow.Author.Tests.{le-leb, lt-leb}
use Rattle.receiver.specs.Entitling.{is_listed, allowed_programs}

module _ (programs : List ℕ) (k : ℕ) (s : allowed_programs programs ≡ allowed_programs (drop k programs)) where
  abbrev p : ℕ
  p = get_or programs k 0

  abbrev test : Bool → Bool → Bool
  test low listed = low && (not listed && allowed_programs (drop (k + 1) programs))

  step : k < length programs → allowed_programs programs ≡ test (leb p 7) (is_listed (drop (k + 1) programs) p)
  unfolding allowed_programs
  step l = s ∙ ap allowed_programs (drop-cons programs k 0 l) ∙ ap (λ (n : ℕ). leb p 7 && (not (is_listed (drop n programs) p) && allowed_programs (drop n programs))) (sym (add-one k))

  pub over-seven : k < length programs → 7 < p → false ≡ allowed_programs programs
  over-seven l h = sym (step l ∙ ap (λ (b : Bool). test b (is_listed (drop (k + 1) programs) p)) (lt-leb p 7 h))

  module _ (l : k < length programs) (h : p ≤ 7) where
    low : allowed_programs programs ≡ test true (is_listed (drop (k + 1) programs) p)
    low = step l ∙ ap (λ (b : Bool). test b (is_listed (drop (k + 1) programs) p)) (le-leb p 7 h)

    pub repeated : is_listed (drop (k + 1) programs) p ≡ true → false ≡ allowed_programs programs
    repeated e = sym (low ∙ ap (test true) e)

    pub allowed-past : is_listed (drop (k + 1) programs) p ≡ false → allowed_programs programs ≡ allowed_programs (drop (k + 1) programs)
    allowed-past e = low ∙ ap (test true) e

  pub all-allowed : length programs ≤ k → true ≡ allowed_programs programs
  unfolding allowed_programs
  all-allowed l = sym (s ∙ ap allowed_programs (drop_of_length-le programs l))
