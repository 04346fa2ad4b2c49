use Rattle.std.proofs.Common.{◌≡◌, ◌≤◌, length}
use Rattle.damage.proofs.Listing.{Listed}
use Rattle.damage.proofs.differing_places.Given as goal

abbrev pub invariant-loop-place : goal.invariant-loop-place
invariant-loop-place l = (l.count ≤ l.place) × (length l.places ≡ 96) × Listed l.fn.before l.fn.after l.place l.count l.places
