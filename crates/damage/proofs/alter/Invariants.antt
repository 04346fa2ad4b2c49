use Rattle.std.proofs.Common.{◌≡◌, ◌+◌, ◌≤◌, drop}
use Rattle.header.specs.Header.{distance}
use Rattle.damage.proofs.alter.Given as goal

abbrev pub invariant-loop-place : goal.invariant-loop-place
invariant-loop-place l =
    (l.left + l.place ≤ l.places) × (drop l.place l.pdu ≡ drop l.place l.initial.pdu) × (distance l.pdu l.initial.pdu + l.left ≡ l.altered)
