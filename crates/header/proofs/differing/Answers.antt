use Rattle.std.proofs.Common.{◌≡◌, ◌+◌, ◌<◌, ◌≤◌, ℕ, suc, List, length, drop, get_or, cond, eqb, ap, arith}
use mathlib.Core.Path.{ap₂}
use lib.ListN.{drop_of_length-le}
use lib.Seq.{drop-cons}
use native.Mathlib.Numerals.{add-one}
use borrow.Author.Tests.{eq-eqb, ne_eqb}
use Rattle.header.specs.Header.{distance}
use Rattle.header.proofs.differing.Goals as goal
use Rattle.header.proofs.differing.Goals.{then-u-place, else-u-place}

-- one byte more
more : (u v : List ℕ) (i : ℕ) → i < length u → i < length v
    → distance (drop i u) (drop i v) ≡ cond (eqb (get_or u i 0) (get_or v i 0)) (distance (drop (i + 1) u) (drop (i + 1) v)) (suc (distance (drop (i + 1) u) (drop (i + 1) v)))
unfolding distance
more u v i hu hv = rw (add-one i) (ap₂ distance (drop-cons u i 0 hu) (drop-cons v i 0 hv))

none_left : (u v : List ℕ) (i : ℕ) → length u ≤ i → distance (drop i u) (drop i v) ≡ 0
unfolding distance
none_left u v i h = ap (λ (l : List ℕ). distance l (drop i v)) (drop_of_length-le u h)

pub loop-place-preserved : goal.loop-place-preserved
loop-place-preserved c =
    let m = more c.args.u.now c.args.v.now c.loop-place.place (omega arith) (omega arith) in
    elim c.if-u-place.branch [
      | then-u-place w ↦ let e = rw (ne_eqb _ _ w.if-u-place.true) at m in (omega arith, omega (arith, e))
      | else-u-place w ↦ let e = rw (eq-eqb _ _ w.if-u-place.false) at m in (omega arith, omega (arith, e))
    ]

pub returns : goal.returns
returns c = let e = none_left c.args.u.now c.args.v.now c.loop-place.place (omega arith) in omega (arith, c.loop-place.invariant.1, e)
