-- The sums with a power for each byte and those of `header::syndromes` are the same for every 96 bytes: each has the contract to be `syndromes`.
use mathlib.Core.Path.{◌≡◌, sym, ◌∙◌}
use mathlib.Core.List.{List}
use Prim.Native.Nat.{ℕ}
use Rattle.header.specs.Header.{syndromes}

pub same-sums : (w one other : List ℕ) → one ≡ syndromes w → other ≡ syndromes w → one ≡ other
same-sums w one other e f = e ∙ sym f
