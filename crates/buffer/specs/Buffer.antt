-- What a lent buffer holds after a list was written into it.
use Rattle.std.specs.Prelude.{List, ◌++◌, ℕ, ◌+◌, length, take, drop}

-- a list with another one from a place on
unfoldable pub put_at : List ℕ → ℕ → List ℕ → List ℕ
put_at l k w = take k l ++ w ++ drop (k + length w) l
