use Rattle.reassembly.specs.Reassembly.{nothing}
use Rattle.reassembly.specs.Run.{partial_of, first_cause}
use Rattle.reassembly.proofs.Laws.{same_outcome, same-room, did_nothing}
use Rattle.reassembly.proofs.Whole.{begun-none, begun-some}
use native.Mathlib.Omega.{arith}
use mathlib.Core.Path.{◌≡◌, sym, ◌∙◌}
use borrow.Author.Rules.{rules}
use Rattle.reassembly.proofs.begin.Statement.{statement}
use Rattle.reassembly.proofs.begin.Tie as tie

first-cause-requires : tie.Need-first_cause-cause-requires
first-cause-requires c κs = c.before.requires.0

returns : tie.Need-returns-then-cause-eq0
returns c =
    let p = c.before.before.before in
    let a = p.args in
    let q = c.before.first_cause-cause in
    let e : (first_cause a.state a.range a.head) ≡ 0 = sym q.ensures ∙ c.if-cause-eq0.true in
    λ cs h z. same_outcome (begun-none (first_cause a.state a.range a.head) (partial_of a.state.held a.state.number cs) e) (did_nothing (record { held = a.state.held; number = a.state.number; at = 0 }) cs a.log.now h z)

drop-noted-requires : tie.Need-drop_noted-requires
drop-noted-requires c κs =
    let p = c.before.before.before.before in
    let a = p.args in
    let q = c.before.before.first_cause-cause in
    (omega arith, same-room 0 a.log.now (begun-some (first_cause a.state a.range a.head) q.result nothing q.ensures c.before.if-cause-eq0.false) p.requires.1)

returns-2 : tie.Need-returns
returns-2 c =
    let p = c.before.before.before.before.before.before.before in
    let a = p.args in
    let q = c.before.before.before.before.before.first_cause-cause in
    λ cs h z. same_outcome (begun-some (first_cause a.state a.range a.head) q.result (partial_of a.state.held a.state.number cs) q.ensures c.before.before.before.before.if-cause-eq0.false) (c.before.before.drop_noted.ensures cs)

pub begin_spec : {M : Type 1} → statement M
begin_spec = tie.close (tie.spec first-cause-requires returns drop-noted-requires (λ c. search rules) returns-2)
