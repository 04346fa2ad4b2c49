use borrow.Author.Rules.{rules}
use native.Mathlib.Omega.{arith}
use Prim.Native.Nat.{◌<◌, ◌≤◌}
use Rattle.panel.proofs.Listing.{with-room, without-room}
use Rattle.panel.proofs.read_for.Statement.{statement}
use Rattle.panel.proofs.read_for.Tie as tie

returns : tie.Need-returns-then-room-c
returns c =
    let t = c.before.before.before in
    let i = t.before.before.before in
    let f = i.before.before.before.before.before in
    let h = f.before.before in
    let a = h.before.before.args in
    let short : a.room < f.read-r.result.control.nop = omega (arith, i.if-room-c.true) in
    without-room _ _ _ _ _ _ _ (λ i. (h.before.slice_known-1.given i).fits) h.header_of-before.ensures f.read-r.ensures.0 f.read-r.ensures.1 short
    t.put_front.ensures c.refused_reading.ensures

returns-2 : tie.Need-returns
returns-2 c =
    let f = c.before.before.before.before.before in
    let a = f.before.before.before.before.args in
    let room : f.read-r.result.control.nop ≤ a.room = omega (arith, c.if-room-c.false) in
    with-room _ _ _ _ f.read-r.ensures.0 f.read-r.ensures.1 room

pub read_for_spec : {M : Type 1} → statement M
read_for_spec =
    tie.close
    (tie.spec
    (λ c κs. search rules) (λ c κs. search rules) (λ c. search rules) (λ c. search rules) (λ c κs. search rules) (λ c κs. search rules) (λ c. search rules)
    returns
    (λ c. search rules)
    returns-2)
