use Rattle.reassembly.proofs.Counts.{all-kept, all_noted, start-bounded}
use native.Mathlib.Omega.{arith}
use Rattle.reassembly.proofs.forecast_for.Statement.{statement}
use Rattle.reassembly.proofs.forecast_for.Tie as tie

first-cause-requires : tie.Need-first_cause-requires
first-cause-requires c κs = c.requires.0.0

count-contents-requires : tie.Need-count_contents-requires
count-contents-requires c κs =
    let p = c.before.before in
    ((p.requires.0.1, p.requires.1.0.0, p.requires.1.0.1), ((omega arith, start-bounded 0 p.args.tally (omega arith) p.requires.1.1.1), p.requires.1.1.0))

returns : tie.Need-returns-then-first_cause-eq0
returns c =
    let a = c.before.before.before.args in
    let q = c.before.before.first_cause in
    all-kept a.withheld a.state a.range a.head a.marks a.causes a.tally q.result c.count_contents.result q.ensures c.before.if-first_cause-eq0.true c.count_contents.ensures

count-contents-requires-2 : tie.Need-count_contents-requires-2
count-contents-requires-2 c κs =
    let p = c.before.before in
    ((omega arith, p.requires.1.0.0, p.requires.1.0.1), ((omega arith, start-bounded 1 p.args.tally (omega arith) p.requires.1.1.1), p.requires.1.1.0))

returns-2 : tie.Need-returns
returns-2 c =
    let a = c.before.before.before.args in
    let q = c.before.before.first_cause in
    all_noted a.withheld a.state a.range a.head a.marks a.causes a.tally q.result c.count_contents-2.result q.ensures c.before.if-first_cause-eq0.false c.count_contents-2.ensures

pub forecast_for_spec : {M : Type 1} → statement M
forecast_for_spec = tie.close (tie.spec first-cause-requires count-contents-requires returns count-contents-requires-2 returns-2)
