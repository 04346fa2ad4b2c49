use Rattle.std.proofs.Common.{◌≡◌, ◌∙◌, true, sym, arith}
use Rattle.pdu.specs.Reading.{wrong_locator}
use Rattle.pdu.proofs.Any.{any-start, any_next}
use Rattle.pdu.proofs.Lowest.{lowest-found, lowest-none}
use Rattle.pdu.proofs.first_wrong.Goals as goal

pub loop-k-init : goal.loop-k-init
loop-k-init c = any-start _

pub returns-then-wrong_locator : goal.returns-then-wrong_locator
returns-then-wrong_locator c =
    let a = c.args in
    let l = c.loop-k in
    let e : wrong_locator a.width a.c a.y.now l.k ≡ true = sym c.wrong_locator.ensures ∙ c.if-wrong_locator.true in
    lowest-found (wrong_locator a.width a.c a.y.now) a.c.nop l.k (omega arith) e l.invariant

pub loop-k-preserved : goal.loop-k-preserved
loop-k-preserved c =
    let a = c.args in
    any_next (wrong_locator a.width a.c a.y.now) c.loop-k.k c.loop-k.invariant (sym c.wrong_locator.ensures ∙ c.if-wrong_locator.false)

pub returns : goal.returns
returns c = let a = c.args in lowest-none (wrong_locator a.width a.c a.y.now) a.c.nop c.loop-k.k (omega arith) c.loop-k.invariant
