use Rattle.std.proofs.Common.{◌≡◌, ◌-◌, ◌*◌}
use Rattle.noise.specs.Noise.{down}
use Rattle.noise.proofs.spread.Given as goal

abbrev pub invariant-loop : goal.invariant-loop
invariant-loop l = down (l.offset - l.counter) l.mask ≡ down l.offset (l.bits * 256)
