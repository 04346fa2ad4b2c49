-- An empty record is lost, a refused one is passed over, and of an accepted one the corrected bytes are counted.
use Rattle.std.proofs.Common.{arith}
use Rattle.outcome.proofs.Records.{empty-record, refused-record, accepted-record}
use Rattle.outcome.proofs.of_record.Goals as goal

pub returns-then-pdu-eq0 : goal.returns-then-pdu-eq0
returns-then-pdu-eq0 c =
    let a = c.args in
    let h = c.marked_lost in
    let t = empty-record a.marks.now a.carry.now a.pdu.now a.log.now a.receiver h.result _ c.if-pdu-eq0.true h.ensures.value h.ensures.log_after in
    record { value = t.0; carry_after = t.1.0; pdu_after = t.1.1.0; log_after = t.1.1.1 }

pub returns-then-r-ne0 : goal.returns-then-r-ne0
returns-then-r-ne0 c =
    let a = c.args in
    let h = c.receive_marked-r in
    let p = c.passed_over-lost in
    let t = refused-record a.marks.now a.carry.now a.pdu.now a.log.now a.receiver c.if-pdu-eq0.false h.result _ _ _ h.ensures.value h.ensures.carry_after h.ensures.pdu_after h.ensures.log_after _ h.auto.pdu
    c.outcome_of.result p.result _ (λ q. omega (arith, q, c.if-r-ne0.true)) c.outcome_of.ensures p.ensures.value p.ensures.log_after in
    record { value = t.0; carry_after = t.1.0; pdu_after = t.1.1.0; log_after = t.1.1.1 }

pub returns : goal.returns
returns c =
    let a = c.args in
    let h = c.receive_marked-r in
    let t = accepted-record a.marks.now a.carry.now a.pdu.now a.log.now a.receiver c.if-pdu-eq0.false h.result _ _ _ h.ensures.value h.ensures.carry_after h.ensures.pdu_after h.ensures.log_after _ h.auto.pdu
    c.outcome_of-2.result c.header_of-before.result c.header_of-after.result c.difference-corrected.result (omega (arith, c.if-r-ne0.false))
    c.header_of-before.ensures c.header_of-after.ensures c.difference-corrected.ensures c.outcome_of-2.ensures in
    record { value = t.0; carry_after = t.1.0; pdu_after = t.1.1.0; log_after = t.1.1.1 }
