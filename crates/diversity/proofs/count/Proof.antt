use native.Mathlib.Omega.{arith}
use Rattle.diversity.proofs.Choosing.{count-short, count_long, count-header}
use borrow.Author.Rules.{rules}
use Rattle.diversity.proofs.count.Statement.{statement}
use Rattle.diversity.proofs.count.Tie as tie

returns : tie.Need-returns-then-pdu-lt96
returns c = count-short _ c.if-pdu-lt96.true

returns-2 : tie.Need-returns-then-pdu-gt20480
returns-2 c = count_long _ c.if-pdu-gt20480.true

returns-3 : tie.Need-returns
returns-3 c =
    let k = c.before in
    let h = k.before.before in
    count-header h.before.before.before.before.args.pdu.now h.header_of-header.result _ (omega (arith, h.before.before.if-pdu-lt96.false)) (omega (arith, h.before.if-pdu-gt20480.false)) h.header_of-header.ensures k.correct.ensures.0

pub count_spec : {M : Type 1} → statement M
count_spec = tie.close (tie.spec returns returns-2 (λ c κs. search rules) (λ c. search rules) (λ c κs. search rules) returns-3)
