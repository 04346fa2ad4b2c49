use Rattle.batch.proofs.Calling.{state-call, sum-call, sum-right, each-call}
use native.Mathlib.Omega.{arith}
use borrow.Author.Rules.{rules}
use Rattle.batch.proofs.receive_with_ends.Statement.{statement}
use Rattle.batch.proofs.receive_with_ends.Tie as tie

returns : tie.Need-returns-then-number-ne0
returns c =
    let k = c.before.before in
    let a = k.before.before.before.before.before.before.args in
    state-call a.lengths.now a.carry.now a.pdus.now a.log.now a.ends.now a.receiver k.state_refusal-number.result k.state_refusal-number.ensures c.begun.result (λ q. omega (arith, q, c.before.if-number-ne0.true)) c.begun.ensures

returns-2 : tie.Need-returns-then-not-sums_to
returns-2 c =
    let t = c.before.before in
    let k = t.before.before in
    let a = k.before.before.before.before.before.before.args in
    sum-call a.lengths.now a.carry.now a.pdus.now a.log.now a.ends.now a.receiver k.state_refusal-number.result k.state_refusal-number.ensures (omega (arith, t.before.if-number-ne0.false)) t.sums_to.result t.sums_to.ensures c.begun-then-not-sums_to.result (c.before.if-not-sums_to.true) c.begun-then-not-sums_to.ensures

receive-each-requires : tie.Need-receive_each-requires
receive-each-requires c κs =
    let t = c.before.before.before.before.before in
    let k = t.before.before in
    let a = k.before.before.before.before.before.before.args in
    sum-right a.lengths.now a.carry.now a.pdus.now a.log.now a.ends.now a.receiver k.state_refusal-number.result k.state_refusal-number.ensures (omega (arith, t.before.if-number-ne0.false)) t.sums_to.result t.sums_to.ensures (c.before.before.before.before.if-not-sums_to.false)

returns-3 : tie.Need-returns
returns-3 c =
    let e = c.before.before.before.before.before.before.before.before in
    let t = e.before.before.before.before.before.before in
    let k = t.before.before in
    let a = k.before.before.before.before.before.before.args in
    each-call a.lengths.now a.carry.now a.pdus.now a.log.now a.ends.now a.receiver k.state_refusal-number.result k.state_refusal-number.ensures (omega (arith, t.before.if-number-ne0.false)) t.sums_to.result t.sums_to.ensures e.receive_each.result e.receive_each.new.carry e.receive_each.new.pdus e.receive_each.new.log e.receive_each.new.ends (e.before.before.before.before.before.if-not-sums_to.false) e.receive_each.ensures.0 e.receive_each.ensures.1

pub receive_with_ends_spec : {M : Type 1} → statement M
receive_with_ends_spec =
    tie.close (tie.spec (λ c κs. search rules) (λ c κs. search rules) returns (λ c κs. search rules) (λ c κs. search rules) returns-2 receive-each-requires
    (λ c. search rules) (λ c. search rules) (λ c. search rules) (λ c. search rules) returns-3)
