use native.Mathlib.Omega.{arith}
use native.Mathlib.Numerals.{add-one}
use mathlib.Core.Path.{◌≡◌}
use Prim.Native.Nat.{suc, ◌+◌}
use Rattle.reassembly.specs.Tally.{counted}
use Rattle.reassembly.proofs.count_delivery.Statement.{statement}
use Rattle.reassembly.proofs.count_delivery.Tie as tie

missed-before-requires : tie.Need-missed_before-missed-requires
missed-before-requires c κs = c.requires.2

add-t4 : tie.Need-overflow_add-result
add-t4 c = omega (arith, c.before.before.requires.0)

add-t5 : tie.Need-overflow_add-result-2
add-t5 c = omega (arith, c.before.before.before.requires.1, c.before.before.missed_before-missed.ensures.1)

returns : tie.Need-returns
unfolding counted
returns c =
    let a = c.before.before.before.args in
    let one : a.t.delivered + 1 ≡ suc a.t.delivered = add-one a.t.delivered in
    let more = c.before.before.missed_before-missed.ensures.0 in
    λ i. record { delivered = one i; missing = a.t.missing + more i; last = a.n }

pub count_delivery_spec : {M : Type 1} → statement M
count_delivery_spec = tie.close (tie.spec missed-before-requires add-t4 add-t5 returns)
