use borrow.Author.Rules.{rules}
use native.Mathlib.Omega.{arith}
use mathlib.Core.Path.{ap}
use Rattle.latency.specs.Latency.{ticks, trial_with}
use Rattle.latency.proofs.Ticks.{ticks-most}
use Rattle.latency.proofs.Turns.{told-small}
use Rattle.latency.proofs.trial_of.Statement.{statement}
use Rattle.latency.proofs.trial_of.Tie as tie

mul-t6 : tie.Need-overflow_mul-result
mul-t6 c =
    let s = c.before.before in
    omega (arith, ticks-most s.args.n s.args.counts.now s.requires)

cast-t7 : tie.Need-overflow_cast-result
cast-t7 c =
    let s = c.before.before in
    omega (arith, ticks-most s.args.n s.args.counts.now s.requires)

cast-t8 : tie.Need-overflow_cast-result-2
cast-t8 c =
    let s = c.before.before.before in
    omega (arith, (told-small s.args.n s.args.counts.now s.requires s.args.v c.before.run-q.result c.before.run-q.ensures).0)

cast-t9 : tie.Need-overflow_cast-result-3
cast-t9 c =
    let s = c.before.before.before.before in
    omega (arith, (told-small s.args.n s.args.counts.now s.requires s.args.v c.before.before.run-q.result c.before.before.run-q.ensures).1)

cast-t10 : tie.Need-overflow_cast-result-4
cast-t10 c =
    let s = c.before.before.before.before.before in
    omega (arith, (told-small s.args.n s.args.counts.now s.requires s.args.v c.before.before.before.run-q.result c.before.before.before.run-q.ensures).2)

returns : tie.Need-returns
returns c =
    let s = c.before.before.before.before.before in
    ap (trial_with (ticks s.args.n s.args.counts.now)) c.before.before.before.run-q.ensures

pub trial_of_spec : {M : Type 1} → statement M
trial_of_spec = tie.close (tie.spec (λ c κs. search rules) mul-t6 cast-t7 cast-t8 cast-t9 cast-t10 returns)
