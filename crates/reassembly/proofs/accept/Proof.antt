use mathlib.Core.Bool.{true, false}
use Rattle.reassembly.proofs.Whole.{begin-room, first_small, first_plain, rest-room, accept-did}
use native.Mathlib.Omega.{arith}
use mathlib.Core.Path.{◌≡◌}
use Prim.Native.Nat.{ℕ}
use mathlib.Core.List.{List}
use Rattle.reassembly.proofs.accept.Statement.{statement}
use Rattle.reassembly.proofs.accept.Tie as tie

begin-requires : tie.Need-begin-first-requires
begin-requires c κs =
    let p = c.before.before.before.before in
    let a = p.args in
    (p.requires.0, begin-room a.state a.range a.head a.carry.now a.withheld a.marks a.causes a.pdu.now p.requires.1.0.0 p.requires.1.0.1 p.requires.1.1.0 a.log.now p.requires.1.1.1.1)

withhold-requires : tie.Need-withhold-requires
withhold-requires c κs =
    let p = c.before.before.before.before.before.before.before.before.before.before in
    let a = p.args in
    let first = c.before.before.before.before.before.begin-first in
    let l : List ℕ = first.new.log in
    let did = first.ensures a.carry.now (omega arith) p.requires.1.0.1 in
    let e : a.withheld ≡ true = c.before.before.if-withheld.true in
    ((first_small a.state a.range a.head a.carry.now a.withheld a.marks a.causes a.pdu.now p.requires.1.0.0 p.requires.1.0.1 p.requires.1.1.0 a.log.now p.requires.1.1.1.1 l first.result first.auto.log did, first_plain a.state a.range a.head a.carry.now a.withheld a.marks a.causes a.pdu.now p.requires.1.0.0 p.requires.1.0.1 p.requires.1.1.0 a.log.now p.requires.1.1.1.1 l first.result first.auto.log did), (p.requires.1.1.0, (p.requires.1.1.1.0, rest-room a.state a.range a.head a.carry.now a.withheld a.marks a.causes a.pdu.now p.requires.1.0.0 p.requires.1.0.1 p.requires.1.1.0 a.log.now p.requires.1.1.1.1 l first.result first.auto.log did true e)))

same_length : tie.Need-shape_of-carry-then-withheld
same_length c = omega (arith, c.before.before.before.before.withhold.auto.carry)

same-length-2 : tie.Need-shape_of-log-then-withheld
same-length-2 c = omega (arith, c.before.before.before.before.before.before.before.before.before.before.begin-first.auto.log, c.before.before.before.before.withhold.auto.log)

returns : tie.Need-returns-then-withheld
returns c =
    let p = c.before.before.before.before.before.before.before.before.before.before.before.before.before.before.before in
    let a = p.args in
    let first = c.before.before.before.before.before.before.before.before.before.before.begin-first in
    let l : List ℕ = first.new.log in
    let did = first.ensures a.carry.now (omega arith) p.requires.1.0.1 in
    let e : a.withheld ≡ true = c.before.before.before.before.before.before.before.if-withheld.true in
    let q = c.before.before.before.before.withhold in
    accept-did a.state a.range a.head a.carry.now a.withheld a.marks a.causes a.pdu.now p.requires.1.0.0 p.requires.1.0.1 p.requires.1.1.0 a.log.now p.requires.1.1.1.1 l first.result first.auto.log did true e q.new.carry q.new.log q.result q.ensures

contents-requires : tie.Need-contents-requires
contents-requires c κs =
    let p = c.before.before.before.before.before.before.before.before.before.before in
    let a = p.args in
    let first = c.before.before.before.before.before.begin-first in
    let l : List ℕ = first.new.log in
    let did = first.ensures a.carry.now (omega arith) p.requires.1.0.1 in
    let e : a.withheld ≡ false = c.before.before.if-withheld.false in
    ((first_small a.state a.range a.head a.carry.now a.withheld a.marks a.causes a.pdu.now p.requires.1.0.0 p.requires.1.0.1 p.requires.1.1.0 a.log.now p.requires.1.1.1.1 l first.result first.auto.log did, first_plain a.state a.range a.head a.carry.now a.withheld a.marks a.causes a.pdu.now p.requires.1.0.0 p.requires.1.0.1 p.requires.1.1.0 a.log.now p.requires.1.1.1.1 l first.result first.auto.log did), (p.requires.1.1.0, (p.requires.1.1.1.0, rest-room a.state a.range a.head a.carry.now a.withheld a.marks a.causes a.pdu.now p.requires.1.0.0 p.requires.1.0.1 p.requires.1.1.0 a.log.now p.requires.1.1.1.1 l first.result first.auto.log did false e)))

same-length-3 : tie.Need-shape_of-carry
same-length-3 c = omega (arith, c.before.before.before.before.contents.auto.carry)

same-length-4 : tie.Need-shape_of-log
same-length-4 c = omega (arith, c.before.before.before.before.before.before.before.before.before.before.begin-first.auto.log, c.before.before.before.before.contents.auto.log)

returns-2 : tie.Need-returns
returns-2 c =
    let p = c.before.before.before.before.before.before.before.before.before.before.before.before.before.before.before in
    let a = p.args in
    let first = c.before.before.before.before.before.before.before.before.before.before.begin-first in
    let l : List ℕ = first.new.log in
    let did = first.ensures a.carry.now (omega arith) p.requires.1.0.1 in
    let e : a.withheld ≡ false = c.before.before.before.before.before.before.before.if-withheld.false in
    let q = c.before.before.before.before.contents in
    accept-did a.state a.range a.head a.carry.now a.withheld a.marks a.causes a.pdu.now p.requires.1.0.0 p.requires.1.0.1 p.requires.1.1.0 a.log.now p.requires.1.1.1.1 l first.result first.auto.log did false e q.new.carry q.new.log q.result q.ensures

pub accept_spec : {M : Type 1} → statement M
accept_spec = tie.close (tie.spec begin-requires withhold-requires same_length same-length-2 returns contents-requires same-length-3 same-length-4 returns-2)
