use Rattle.receiver.proofs.Calling.{state-call, carry-call, correction-call, corrected-call}
use Rattle.receiver.proofs.Rows.{usable}
use Rattle.correction.proofs.Answers.{corrected-allowed-with}
use native.Mathlib.Omega.{arith}
use mathlib.Core.Path.{sym, ◌∙◌}
use Prim.Native.Nat.{◌≤◌}
use lib.ListN.{length}
use borrow.Author.Rules.{rules}
use Rattle.receiver.proofs.receive_listed.Statement.{statement}
use Rattle.receiver.proofs.receive_listed.Tie as tie

returns : tie.Need-returns-then-wrong_state
returns c =
    let w = c.before.before in
    let s = w.before.before.before.before.before in
    let a = s.args in
    state-call a.marks.now a.carry.now a.pdu.now a.log.now a.r a.m s.requires w.wrong_state.result w.wrong_state.ensures c.refused.result c.before.if-wrong_state.true c.refused.ensures

returns-2 : tie.Need-returns-then-carry-lt4096
returns-2 c =
    let w = c.before.before.before in
    let s = w.before.before.before.before.before in
    let a = s.args in
    carry-call a.marks.now a.carry.now a.pdu.now a.log.now a.r a.m s.requires w.wrong_state.result w.wrong_state.ensures c.before.before.if-wrong_state.false c.refused-then-carry-lt4096.result (omega (arith, c.before.if-carry-lt4096.true)) c.refused-then-carry-lt4096.ensures

receive-or-restore-requires : tie.Need-receive_or_restore-requires
receive-or-restore-requires c κs =
    let g = c.before.before.before.before in
    let k = g.before.before.before.before in
    let e = k.before.before.before.before in
    let w = e.before.before in
    let s = w.before.before.before in
    let a = s.args in
    let size : length c.before.before.before.before.before.before.before.correct_marked-answer.new.pdu ≤ 20480 = omega (arith, c.before.before.before.before.before.before.before.correct_marked-answer.auto.pdu, corrected-allowed-with a.marks.now a.pdu.now _ (sym c.before.before.before.before.before.before.before.correct_marked-answer.ensures.0 ∙ c.in-Corrected.is)) in
    (s.requires, (usable a.r a.m a.carry.now s.requires (sym c.before.before.before.before.before.before.before.before.before.before.before.before.wrong_state.ensures ∙ c.before.before.before.before.before.before.before.before.before.before.before.if-wrong_state.false) c.before.before.before.before.before.before.before.before.before.before.if-carry-lt4096.false, size))

returns-3 : tie.Need-returns-in-Corrected
returns-3 c =
    let f = c.before.before.before.before.before.before in
    let g = f.before.before.before.before.before in
    let k = g.before.before.before.before in
    let h = k.before.before in
    let e = h.before.before in
    let w = e.before.before in
    let s = w.before.before.before in
    let a = s.args in
    corrected-call a.marks.now a.carry.now a.pdu.now a.log.now a.r a.m s.requires c.before.before.before.before.before.before.before.before.before.before.before.before.before.before.before.before.before.before.before.wrong_state.result c.before.before.before.before.before.before.before.before.before.before.before.before.before.before.before.before.before.before.before.wrong_state.ensures c.before.before.before.before.before.before.before.before.before.before.before.before.before.before.before.before.before.before.if-wrong_state.false c.before.before.before.before.before.before.before.before.before.before.before.before.before.before.before.before.before.if-carry-lt4096.false _ f.receive_or_restore.result c.before.before.before.before.before.before.before.before.before.before.before.before.before.before.correct_marked-answer.new.pdu c.before.before.before.before.before.before.before.before.before.before.before.before.before.before.before.before.header_of-before.result f.receive_or_restore.new.carry f.receive_or_restore.new.pdu f.receive_or_restore.new.log (λ i. (w.before.slice_known-2-1.given i).fits) (sym c.before.before.before.before.before.before.before.before.before.before.before.before.before.before.correct_marked-answer.ensures.0 ∙ c.in-Corrected.is) c.before.before.before.before.before.before.before.before.before.before.before.before.before.before.before.before.header_of-before.ensures c.before.before.before.before.before.before.before.before.before.before.before.before.before.before.correct_marked-answer.ensures.1 f.receive_or_restore.ensures.0 f.receive_or_restore.ensures.1

returns-4 : tie.Need-returns-in-Refused
returns-4 c =
    let g = c.before.before in
    let k = g.before.before.before.before in
    let h = k.before.before in
    let e = h.before.before in
    let w = e.before.before in
    let s = w.before.before in
    let a = s.args in
    correction-call a.marks.now a.carry.now a.pdu.now a.log.now a.r a.m s.requires c.before.before.before.before.before.before.before.before.before.wrong_state.result c.before.before.before.before.before.before.before.before.before.wrong_state.ensures c.before.before.before.before.before.before.before.before.if-wrong_state.false c.before.before.before.before.before.before.before.if-carry-lt4096.false _ c.refused-in-Refused.result c.before.before.before.before.correct_marked-answer.new.pdu (sym c.before.before.before.before.correct_marked-answer.ensures.0 ∙ c.before.in-Refused.is) c.before.before.before.before.correct_marked-answer.ensures.1 c.refused-in-Refused.ensures

pub receive_listed_spec : {M : Type 1} → statement M
receive_listed_spec =
    tie.close (tie.spec (λ c κs. search rules) (λ c κs. search rules) returns (λ c κs. search rules) returns-2 (λ c κs. search rules) (λ c κs. search rules)
    (λ c. search rules) receive-or-restore-requires (λ c. search rules) (λ c κs. search rules) (λ c. search rules) (λ c. search rules) (λ c. search rules)
    returns-3 (λ c. search rules) returns-4)
