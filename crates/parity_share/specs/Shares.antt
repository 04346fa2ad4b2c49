-- Document 02, Ask 8: adding the shares of bytes 8 to 95 to eight zero bytes, in any order, each once, gives the parity that division
-- gives. A place outside 8 to 95 is refused with 14.
use Rattle.std.specs.Prelude.{◌≡◌, Bool, ◌&&◌, cond, List, [], ◌∷◌, map, ℕ, ◌+◌, ◌≤◌, eqb, leb, length, get_or, set, replicate}
use Rattle.std.specs.Int.Bits.{bit_xor}
use Rattle.algebra.specs.Places.{All}
use Rattle.header.specs.Header.{parity_of}

-- the header that has one byte alone: all others are zero
unfoldable pub alone : ℕ → ℕ → List ℕ
alone place byte = set (replicate 96 0) place byte

-- a byte's share in the parity: the parity, by division, of the header that has this byte alone
unfoldable pub share : ℕ → ℕ → List ℕ
share place byte = parity_of (alone place byte)

-- the sum of two parities, byte by byte
unfoldable pub parity_sum : List ℕ → List ℕ → List ℕ
parity_sum p q = map (λ k. bit_xor (get_or p k 0) (get_or q k 0)) (0 ∷ 1 ∷ 2 ∷ 3 ∷ 4 ∷ 5 ∷ 6 ∷ 7 ∷ [])

-- whether a place is one of 8 to 95
abbrev pub in_message : ℕ → Bool
in_message place = leb 8 place && leb place 95

-- refusal 14 for a place outside 8 to 95, else 0
unfoldable pub share_refusal : ℕ → ℕ
share_refusal place = cond (in_message place) 0 14

-- the parity so far with the share of the byte at a place added; one that is refused leaves it as it was
unfoldable pub with_share : List ℕ → ℕ → ℕ → List ℕ
with_share parity place byte = cond (eqb (share_refusal place) 0) (parity_sum parity (share place byte)) parity

-- the shares of a header's bytes at these places, added one after the other
unfoldable pub with_shares : List ℕ → List ℕ → List ℕ → List ℕ
with_shares header parity [] = parity
with_shares header parity (i ∷ is) = with_shares header (with_share parity i (get_or header i 0)) is

-- how often a place stands in a list
unfoldable pub occurrences : ℕ → List ℕ → ℕ
occurrences i [] = 0
occurrences i (k ∷ ks) = cond (eqb i k) (1 + occurrences i ks) (occurrences i ks)

-- the places 8 to 95, in any order, each once
abbrev pub EachOnce : List ℕ → Type 0
EachOnce places = (i : ℕ) → occurrences i places ≡ cond (in_message i) 1 0

-- what is claimed of a header whose shares are added in the order of these places
pub record ByShares (header places : List ℕ) : Type 0 where
  -- none of them is refused
  pub accepted : All (λ i. share_refusal i ≡ 0) places
  -- eight zero bytes have become the parity that division gives
  pub parity : with_shares header (replicate 8 0) places ≡ parity_of header

-- the claim: for every header and every order
abbrev pub AnyOrder : Type 0
AnyOrder = (header places : List ℕ) → length header ≡ 96 → EachOnce places → ByShares header places

-- where a byte changes once its share was added, the share of the difference makes the parity that of the changed header
abbrev pub ByteChanged : Type 0
ByteChanged = (header : List ℕ) (i b : ℕ) → length header ≡ 96 → 8 ≤ i → i ≤ 95
    → with_share (parity_of header) i (bit_xor (get_or header i 0) b) ≡ parity_of (set header i b)
