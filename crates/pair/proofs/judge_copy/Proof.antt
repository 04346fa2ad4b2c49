use Rattle.pair.proofs.Judging.{stream-number, reader-number}
use borrow.Author.Rules.{rules}
use Rattle.pair.proofs.judge_copy.Statement.{statement}
use Rattle.pair.proofs.judge_copy.Tie as tie

returns : tie.Need-returns-then-n-ne0
returns c =
    let w = c.before in
    let k = w.before in
    let s = k.before.before in
    stream-number s.args.m s.args.r s.args.y.now s.requires k.control_word-c.result k.control_word-c.ensures w.wrong_stream-n.result w.wrong_stream-n.ensures c.if-n-ne0.true

returns-2 : tie.Need-returns
returns-2 c =
    let e = c.before in
    let w = e.before in
    let k = w.before in
    let s = k.before.before in
    reader-number s.args.m s.args.r s.args.y.now s.requires k.control_word-c.result k.control_word-c.ensures w.wrong_stream-n.result w.wrong_stream-n.ensures e.if-n-ne0.false c.judge.result.number c.judge.result.wrong c.judge.ensures.0 c.judge.ensures.1

pub judge_copy_spec : {M : Type 1} → statement M
judge_copy_spec = tie.close (tie.spec (λ c κs. search rules) (λ c κs. search rules) returns (λ c κs. search rules) returns-2)
