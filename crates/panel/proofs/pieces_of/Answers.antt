use Rattle.std.proofs.Common.{◌<◌, ◌∙◌, refl, arith, length-set}
use Rattle.panel.specs.Panel.{entries_from}
use Rattle.panel.proofs.Listing.{few, filled_next}
use Rattle.panel.proofs.pieces_of.Goals as goal

pub loop-k-init : goal.loop-k-init
unfolding entries_from
loop-k-init c = record { size = refl; entries = refl }

pub offset_bounds-pieces-k : goal.offset_bounds-pieces-k
offset_bounds-pieces-k c =
    let q = c.requires (omega arith) in
    omega (arith, few _ q.0 _ q.1 c.loop-k.k (omega (arith, q.2)))

pub bounds-pieces-k : goal.bounds-pieces-k
bounds-pieces-k c =
    let q = c.requires (omega arith) in
    omega (arith, few _ q.0 _ q.1 c.loop-k.k (omega (arith, q.2)))

pub loop-k-preserved : goal.loop-k-preserved
loop-k-preserved c =
    let q = c.requires (omega arith) in
    let f : c.loop-k.k < 63 = few _ q.0 _ q.1 c.loop-k.k (omega (arith, q.2)) in record {
      size = length-set c.loop-k.pieces c.loop-k.k c.piece_at.result ∙ c.loop-k.invariant.size;
      entries = filled_next _ _ _ _ _ (omega (arith, c.loop-k.invariant.size)) c.piece_at.ensures c.loop-k.invariant.entries;
    }
