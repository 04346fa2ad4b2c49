use Rattle.std.proofs.Common.{◌<◌, sym, subst, ℕ}
use Rattle.algebra.proofs.Places.{all_get_d}
use Rattle.correction.proofs.MarkLists.{allowed-inside}
use Rattle.correction.proofs.adopted.Goals as goal

pub bounds-other-at : goal.bounds-other-at
bounds-other-at c =
    subst (λ (at : ℕ). at < 96) (sym c.from-at.ensures)
    (all_get_d (λ k. k < 96) c.args.marks.now (allowed-inside c.args.marks.now c.requires) c.loop-mark.mark-index c.loop-mark-test.true)

pub bounds-out-at : goal.bounds-out-at
bounds-out-at c =
    subst (λ (at : ℕ). at < 96) (sym c.from-at.ensures)
    (all_get_d (λ k. k < 96) c.args.marks.now (allowed-inside c.args.marks.now c.requires) c.loop-mark.mark-index c.loop-mark-test.true)
