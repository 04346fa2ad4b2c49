use native.Mathlib.Omega.{arith}
use borrow.Author.Rules.{rules}
use Rattle.panel.proofs.Listing.{few, inside, entry-is}
use Rattle.panel.proofs.piece_at.Statement.{statement}
use Rattle.panel.proofs.piece_at.Tie as tie

mul-start : tie.Need-offset_bounds-r-k
mul-start c = let p = c.before in omega (arith, few _ p.requires.0.0 _ p.requires.0.1 _ p.requires.1)

element-copy-out-start : tie.Need-bounds-r-k
element-copy-out-start c = let p = c.before in omega (arith, few _ p.requires.0.0 _ p.requires.0.1 _ p.requires.1)

mul-length : tie.Need-offset_bounds-r-k-2
mul-length c = let p = c.before.before in omega (arith, few _ p.requires.0.0 _ p.requires.0.1 _ p.requires.1)

element-copy-out-length : tie.Need-bounds-r-k-2
element-copy-out-length c = let p = c.before.before in omega (arith, few _ p.requires.0.0 _ p.requires.0.1 _ p.requires.1)

add-e : tie.Need-overflow_add-e
add-e c = let p = c.before.before.before in omega (arith, inside _ p.requires.0.0 _ p.requires.0.1 _ p.requires.1)

part-crc8-from-end : tie.Need-slice_bounds-crc8_from-end
part-crc8-from-end c = let p = c.before.before.before in omega (arith, inside _ p.requires.0.0 _ p.requires.0.1 _ p.requires.1)

shared-slice-read-t21 : tie.Need-bounds-y-e
shared-slice-read-t21 c = let p = c.before.before.before.before.before.before in omega (arith, inside _ p.requires.0.0 _ p.requires.0.1 _ p.requires.1)

returns : tie.Need-returns
returns c = let p = c.before.before.before.before.before.before in entry-is p.args.y.now p.requires.0.0 p.args.r p.requires.0.1 p.args.k p.requires.1 p.args.register c.before.crc8_from-crc.result c.before.crc8_from-crc.ensures

pub piece_at_spec : {M : Type 1} → statement M
piece_at_spec =
    tie.close
    (tie.spec
    mul-start
    element-copy-out-start
    mul-length
    element-copy-out-length
    (λ c. search rules) (λ c. search rules)
    add-e
    (λ c. search rules) (λ c. search rules)
    part-crc8-from-end
    (λ c κs. search rules)
    shared-slice-read-t21
    returns)
