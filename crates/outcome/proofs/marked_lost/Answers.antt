use Rattle.outcome.proofs.Records.{not-marked, marked}
use Rattle.outcome.proofs.marked_lost.Goals as goal

pub returns-then-a-ne0-clause-value : goal.returns-then-a-ne0-clause-value
returns-then-a-ne0-clause-value c =
    not-marked c.args.log.now c.args.receiver c.mark_lost-a.result c.mark_lost-a.ensures.value c.outcome_of.result c.if-a-ne0.true c.outcome_of.ensures

pub returns-clause-value : goal.returns-clause-value
returns-clause-value c =
    marked c.args.log.now c.args.receiver c.mark_lost-a.result c.mark_lost-a.ensures.value c.outcome_of-2.result c.if-a-ne0.false c.outcome_of-2.ensures
