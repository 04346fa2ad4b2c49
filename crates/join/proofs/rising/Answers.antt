use Rattle.std.proofs.Common.{ℕ, ◌≡◌, ◌<◌, ◌+◌, length, drop, refl, sym, ap, ◌∙◌, arith}
use Rattle.join.specs.Join.{counted_from, rising_after, rising}
use Rattle.join.specs.Scan.{numbers}
use Rattle.join.proofs.Scanning.{numbers-next}
use Rattle.join.proofs.Order.{rising_none, rising-first, rising-stop, rising-next, rising-end}
use Rattle.join.proofs.rising.Goals as goal
use Rattle.join.proofs.rising.Goals.{then-is_packet+else-n-last, else-is_packet}

pub returns-then-log-start : goal.returns-then-log-start
returns-then-log-start c = rising_none c.args.log.now c.next_packet-start.result c.next_packet-start.ensures.log_value c.if-log-start.true

pub loop-i-init : goal.loop-i-init
loop-i-init c =
    let s = c.next_packet-start in
    let h : s.result < length c.args.log.now = omega arith in
    rising-first c.args.log.now s.result s.ensures.log_value c.number-first.result _ h (s.ensures.result_value h) c.number-first.ensures.0 refl

pub returns-then-n-last : goal.returns-then-n-last
returns-then-n-last c =
    let l = c.loop-i in
    let f = c.number-first.result in
    rising-stop c.args.log.now l.i f l.last c.counted-n.result c.loop-i-test.true (sym c.is_packet.ensures ∙ c.if-is_packet.true) (c.counted-n.ensures ∙ ap (counted_from f) c.number.ensures.0) c.if-n-last.true
    ∙ l.invariant

pub loop-i-preserved : goal.loop-i-preserved
loop-i-preserved c =
    let l = c.loop-i in
    let f = c.number-first.result in
    let step : (last : ℕ) → c.if-is_packet.last ≡ last → rising_after f last (numbers (drop (l.i + 1) c.args.log.now)) ≡ rising (numbers c.args.log.now) → rising_after f c.if-is_packet.last (numbers (drop (l.i + 1) c.args.log.now)) ≡ rising (numbers c.args.log.now) = λ last e h. rw e h in
    elim c.if-is_packet.branch [
      | then-is_packet+else-n-last w ↦ step _ w.last-is (rising-next c.args.log.now l.i f l.last w.counted-n.result c.loop-i-test.true (sym c.is_packet.ensures ∙ w.if-is_packet.true) (w.counted-n.ensures ∙ ap (counted_from f) w.number.ensures.0) _ w.if-n-last.false refl ∙ l.invariant)
      | else-is_packet w ↦ step _ w.last-is (ap (rising_after f l.last) (numbers-next c.args.log.now l.i c.loop-i-test.true (sym c.is_packet.ensures ∙ w.if-is_packet.false)) ∙ l.invariant)
    ]

pub returns : goal.returns
returns c = rising-end c.args.log.now c.loop-i.i c.number-first.result c.loop-i.last c.loop-i-test.false ∙ c.loop-i.invariant
