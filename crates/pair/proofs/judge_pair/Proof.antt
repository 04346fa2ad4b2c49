use Rattle.pair.proofs.Lowest.{pair-wrong}
use borrow.Author.Rules.{rules}
use Rattle.pair.proofs.judge_pair.Statement.{statement}
use Rattle.pair.proofs.judge_pair.Tie as tie

returns : tie.Need-returns
returns c =
    let b = c.before in
    let a = b.before in
    let s = a.before.before.before in
    pair-wrong s.args.r s.args.first.now s.args.second.now a.judge_copy-a.result b.judge_copy-b.result c.lower_of.result a.judge_copy-a.ensures.0 a.judge_copy-a.ensures.1 b.judge_copy-b.ensures.0 b.judge_copy-b.ensures.1 c.lower_of.ensures

pub judge_pair_spec : {M : Type 1} → statement M
judge_pair_spec = tie.close (tie.spec (λ c κs. search rules) (λ c κs. search rules) (λ c κs. search rules) returns)
