-- What a line of text holds after bytes were put into it, and which number a text is.
use Rattle.std.specs.Prelude.{ℕ, ◌+◌, ◌-◌, ◌*◌, min, cond, ◌||◌, List, [], ◌∷◌, length, take, nat_lt, Option, None, Some}
use Rattle.buffer.specs.Buffer.{put_at}

-- bytes from a place on, or from the end where the place is past it, as many as there is room for
abbrev pub placed : List ℕ → ℕ → List ℕ → List ℕ
placed l k w = put_at l (min k (length l)) (take (min (length w) (length l - min k (length l))) w)

-- a value with one more decimal digit; nothing where the byte is none
unfoldable pub with_digit : ℕ → ℕ → Option ℕ
with_digit v b = cond (nat_lt b 48 || nat_lt 57 b) None (Some (v * 10 + (b - 48)))

-- the digits that are left, after a value
unfoldable pub read_from : ℕ → List ℕ → Option ℕ
read_from v [] = Some v
read_from v (b ∷ bs) = elim (with_digit v b) [ None ↦ None | Some n ↦ cond (nat_lt 4294967295 n) None (read_from n bs) ]

-- the number that a text is: at least one digit, nothing but digits, at most 32 bits
abbrev pub number_of : List ℕ → Option ℕ
number_of t = cond (nat_lt 0 (length t)) (read_from 0 t) None
