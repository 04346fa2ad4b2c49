use native.Mathlib.Omega.{arith}
use mathlib.Core.Path.{ap, sym, ◌∙◌}
use Prim.Native.Nat.{◌<◌}
use lib.ListN.{length}
use Rattle.join.proofs.Refusing.{no-core, core-falls, core-rises}
use mathlib.Core.Bool.{not}
use borrow.Author.Rules.{rules}
use Rattle.join.proofs.out_of_order.Statement.{statement}
use Rattle.join.proofs.out_of_order.Tie as tie

returns : tie.Need-returns-then-core-next_packet
returns c =
    let a = c.before.before.before.before.args in
    let s = c.before.next_packet in
    no-core a.core.now a.enhanced.now s.result s.ensures.1.0 c.if-core-next_packet.true

returns-2 : tie.Need-returns-then-not-rising
returns-2 c =
    let a = c.before.before.before.before.before.before.args in
    let s = c.before.before.before.next_packet in
    let h : s.result < length a.core.now = omega arith in
    core-falls a.core.now a.enhanced.now s.result s.ensures.1.0 h (s.ensures.1.1 h) (sym c.before.rising.ensures ∙ c.if-not-rising.true)

returns-3 : tie.Need-returns
returns-3 c =
    let a = c.before.before.before.before.before.before.before.args in
    let s = c.before.before.before.before.next_packet in
    let h : s.result < length a.core.now = omega arith in
    ap not c.rising-2.ensures
    ∙ core-rises a.core.now a.enhanced.now s.result s.ensures.1.0 h (s.ensures.1.1 h) (sym c.before.before.rising.ensures ∙ c.before.if-not-rising.false)

pub out_of_order_spec : {M : Type 1} → statement M
out_of_order_spec = tie.close (tie.spec (λ c κs. search rules) returns (λ c κs. search rules) returns-2 (λ c κs. search rules) returns-3)
