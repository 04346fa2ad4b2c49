use borrow.Author.Rules.{rules}
use native.Mathlib.Omega.{arith}
use Rattle.panel.proofs.Listing.{ready, nop-fits, nop-few, list-end}
use Rattle.panel.proofs.read_pieces.Statement.{statement}
use Rattle.panel.proofs.read_pieces.Tie as tie

pieces-of-requires : tie.Need-pieces_of-pieces-requires
pieces-of-requires c κs =
    let f = c.before.before.before.before.before in
    ready _ _ c.before.before.before.before.read_for-r.result c.before.before.before.before.read_for-r.new.pdu c.before.before.before.before.read_for-r.ensures.0 c.before.before.before.before.read_for-r.ensures.1

returns : tie.Need-returns
returns c =
    let f = c.before.before.before.before.before.before in
    let e = c.before.before.before.before.before.read_for-r.ensures in
    let w = nop-few _ _ c.before.before.before.before.before.read_for-r.result c.before.before.before.before.before.read_for-r.new.pdu e.0 e.1 in
    let h = nop-fits _ _ c.before.before.before.before.before.read_for-r.result c.before.before.before.before.before.read_for-r.new.pdu e.0 e.1 in
    (e.0, e.1, omega (arith, h), omega (arith, w, c.pieces_of-pieces.type_inv), λ l h. list-end _ _ c.before.before.before.before.before.read_for-r.result c.before.before.before.before.before.read_for-r.new.pdu e.0 e.1 _ c.pieces_of-pieces.result l c.pieces_of-pieces.ensures h)

pub read_pieces_spec : {M : Type 1} → statement M
read_pieces_spec =
    tie.close (tie.spec (λ c κs. search rules) (λ c. search rules) pieces-of-requires (λ c. search rules) returns)
