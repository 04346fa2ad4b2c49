use Rattle.std.proofs.Common.{ap, ◌∙◌}
use Rattle.field.specs.Field.{pow}
use Rattle.correction.proofs.Filtering.{stripped-next}
use Rattle.correction.proofs.stripped.Goals as goal

pub loop-mark-preserved : goal.loop-mark-preserved
loop-mark-preserved c =
    stripped-next _ c.args.marks.now c.loop-mark.mark-index c.power_by-x.result c.loop-mark.t _ c.loop-mark-test.true c.loop-mark.invariant
    (c.power_by-x.ensures ∙ ap pow c.from.ensures) c.filtered-next.ensures
