-- The header code, document 01 "Header code": words of 96 bytes, byte i the coefficient of X^i.
use Rattle.std.specs.Prelude.{Bool, true, ◌&&◌, cond, List, [], ◌∷◌, ◌++◌, map, ℕ, zero, suc, ◌*◌, eqb, leb, length, get_or, take, drop, replicate}
use Rattle.std.specs.Int.Bits.{bit_xor}
use Rattle.std.proofs.Math.Seq.{slice}
use Rattle.field.specs.Field.{mul, pow}

-- f 0 + f 1 + .. + f (n - 1) in the field
unfoldable pub sum_up : (ℕ → ℕ) → ℕ → ℕ
sum_up f zero = 0
sum_up f (suc n) = bit_xor (sum_up f n) (f n)

-- byte i times a^(i times j)
unfoldable pub term : ℕ → List ℕ → ℕ → ℕ
term j w i = mul (get_or w i 0) (pow (i * j))

-- syndrome j, the paper's sum Sj: of byte i times a^(i times j) over the 96 bytes
unfoldable pub syndrome : ℕ → List ℕ → ℕ
syndrome j w = sum_up (term j w) 96

-- S1 to S8
unfoldable pub syndromes : List ℕ → List ℕ
syndromes w = map (λ j. syndrome j w) (1 ∷ 2 ∷ 3 ∷ 4 ∷ 5 ∷ 6 ∷ 7 ∷ 8 ∷ [])

abbrev pub all_zero : List ℕ → Bool
all_zero [] = true
all_zero (x ∷ xs) = eqb x 0 && all_zero xs

-- a header is a code word when its eight syndromes are zero
unfoldable pub is_code_word : List ℕ → Bool
is_code_word w = all_zero (syndromes w)

-- in how many bytes two words of one length differ
unfoldable pub distance : List ℕ → List ℕ → ℕ
distance [] v = 0
distance (x ∷ u) [] = 0
distance (x ∷ u) (y ∷ v) = cond (eqb x y) (distance u v) (suc (distance u v))

-- the exponents of the generator's coefficients, constant first
abbrev pub exponents : List ℕ
exponents = 36 ∷ 203 ∷ 3 ∷ 220 ∷ 253 ∷ 211 ∷ 240 ∷ 176 ∷ 0 ∷ []

-- coefficient k of X times r plus f times the generator
unfoldable pub tap : List ℕ → ℕ → ℕ → ℕ
tap r f k = bit_xor (get_or (0 ∷ r) k 0) (mul (pow (get_or exponents k 0)) f)

-- X times r, plus b at X^8, modulo the generator, which is taken away as often as X^8 occurs: its coefficient there is 1
unfoldable pub divide_step : List ℕ → ℕ → List ℕ
divide_step r b = map (tap r (bit_xor b (get_or r 7 0))) (0 ∷ 1 ∷ 2 ∷ 3 ∷ 4 ∷ 5 ∷ 6 ∷ 7 ∷ [])

-- the remainder by the generator of X^8 times the polynomial m
unfoldable pub remainder : List ℕ → List ℕ
remainder [] = replicate 8 0
remainder (b ∷ m) = divide_step (remainder m) b

-- the parity of a header: the remainder of its bytes 8 to 95
unfoldable pub parity_of : List ℕ → List ℕ
parity_of w = remainder (slice 8 96 w)

-- the first 96 bytes of a PDU; a shorter one is filled up with zeros
unfoldable pub header_of : List ℕ → List ℕ
header_of p = take 96 p ++ drop (length p) (replicate 96 0)

-- a PDU with its first bytes replaced by those of a list, as many as it has room for
unfoldable pub front_replaced : List ℕ → List ℕ → List ℕ
front_replaced p f = take (length p) f ++ drop (length f) p

-- a PDU has 96 to 20,480 bytes
abbrev pub allowed_length : ℕ → Bool
allowed_length n = leb 96 n && leb n 20480

-- refusal 3 for another length, else 0
unfoldable pub length_refusal : ℕ → ℕ
length_refusal n = cond (allowed_length n) 0 3

-- a PDU with its parity in bytes 0 to 7; one of a refused length stays as it is
unfoldable pub with_parity : List ℕ → List ℕ
with_parity p = cond (eqb (length_refusal (length p)) 0) (parity_of p ++ drop 8 p) p
