-- What the parts promise of which two copies are received as one.
use Rattle.std.specs.Prelude.{◌≡◌, Bool, true, false, not, ◌&&◌, cond, List, [], ◌∷◌, ℕ, zero, suc, ◌+◌, ◌<◌, eqb, ltb, leb, get_or}
use Rattle.reassembly.specs.Reassembly.{Piece}
use Rattle.reassembly.specs.Run.{place_at, piece_at, piece_of}
use Rattle.receiver.specs.Steps.{cause_at}
use Rattle.diversity.specs.Diversity.{pair_piece}

-- ---- pieces of a pair by marks, La and then each locator, which are those of both

-- piece k of a PDU
abbrev pub piece_by : ℕ → List ℕ → List ℕ → ℕ → Piece
piece_by register y marks k = piece_of (cause_at register y marks k) (piece_at y marks k)

unfoldable pub pair_cause_at : ℕ → List ℕ → List ℕ → List ℕ → ℕ → ℕ
pair_cause_at register y z marks k = (pair_piece (piece_by register y marks k) (piece_by register z marks k)).cause

abbrev pub PairCausesOf : ℕ → List ℕ → List ℕ → List ℕ → ℕ → List ℕ → Type 0
PairCausesOf register y z marks nop causes = (k : ℕ) → k < nop → get_or causes k 0 ≡ pair_cause_at register y z marks k

-- ---- bytes exchanged between two PDUs of one length

-- the bytes of z where a test of their places says so, else those of y
unfoldable pub mixed : (ℕ → Bool) → List ℕ → List ℕ → List ℕ
mixed t [] z = []
mixed t (a ∷ y) [] = a ∷ y
mixed t (a ∷ y) (b ∷ z) = cond (t 0) b a ∷ mixed (λ i. t (suc i)) y z

-- the places from one up to another
unfoldable pub in_places : ℕ → ℕ → ℕ → Bool
in_places from to i = leb from i && ltb i to

-- one of the two, and not both
abbrev pub exactly_one : Bool → Bool → Bool
exactly_one true b = not b
exactly_one false b = b

-- the places of piece k, unless its cause is 0
unfoldable pub piece_to : List ℕ → ℕ → ℕ → ℕ → Bool
piece_to marks cause k i = not (eqb cause 0) && in_places (place_at marks k) (get_or marks (k + 1) 0) i

-- the places of the pieces below n whose causes are not 0
unfoldable pub exchanged : List ℕ → List ℕ → ℕ → ℕ → Bool
exchanged marks causes zero i = false
exchanged marks causes (suc n) i = exactly_one (piece_to marks (get_or causes n 0) n i) (exchanged marks causes n i)
