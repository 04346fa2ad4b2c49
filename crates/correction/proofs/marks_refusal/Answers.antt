use Rattle.std.proofs.Common.{◌+◌, ℕ, List, drop, ap, sym, arith, ◌∙◌}
use Rattle.correction.specs.Marks.{is_marked}
use Rattle.correction.proofs.MarkLists.{marks-from, many-refused, over-refused, repeated-refused, marks-taken}
use Rattle.correction.proofs.marks_refusal.Goals as goal

pub returns-then-marks-gt8 : goal.returns-then-marks-gt8
returns-then-marks-gt8 c = many-refused _ (omega arith)

pub returns-then-at-gt95 : goal.returns-then-at-gt95
returns-then-at-gt95 c = over-refused c.args.marks.now c.loop-k.k (omega arith) c.loop-k.invariant c.loop-k-test.true (omega arith)

pub returns-then-is_marked : goal.returns-then-is_marked
returns-then-is_marked c =
    let marks = c.args.marks.now in
    repeated-refused marks c.loop-k.k (omega arith) c.loop-k.invariant c.loop-k-test.true
    (sym c.if-is_marked.true ∙ c.is_marked.ensures ∙ ap (λ (ms : List ℕ). is_marked ms c.from-at.result) (marks-from marks (c.loop-k.k + 1)) ∙ ap (is_marked (drop (c.loop-k.k + 1) marks)) c.from-at.ensures)

pub returns : goal.returns
returns c = marks-taken c.args.marks.now c.loop-k.k (omega arith) c.loop-k.invariant c.loop-k-test.false
