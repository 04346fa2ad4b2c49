-- What damage does to a PDU's bytes.
use Rattle.std.specs.Prelude.{◌≡◌, ℕ, suc, ◌+◌, ◌<◌, cond, List, [], ◌∷◌, drop, ◌==◌}
use Rattle.header.specs.Header.{distance}

-- a turn at a place: what is still to be altered fits the places after it; and beside any list with which the bytes agree from that place on,
-- as many more places differ as are less to be altered, and they agree from the next place on
pub record Turned (place places left left' : ℕ) (l l' : List ℕ) : Type 0 where
  pub fits : left' < places
  pub count : (b : List ℕ) → drop place l ≡ drop place b → distance l' b + left' ≡ distance l b + left
  pub ahead : (b : List ℕ) → drop place l ≡ drop place b → drop (place + 1) l' ≡ drop (place + 1) b

-- the places at which two lists differ, in order, the first of them counted as i
unfoldable pub differing : ℕ → List ℕ → List ℕ → List ℕ
differing i [] v = []
differing i (x ∷ u) [] = []
differing i (x ∷ u) (y ∷ v) = cond (x == y) (differing (suc i) u v) (i ∷ differing (suc i) u v)
