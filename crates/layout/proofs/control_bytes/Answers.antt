use Rattle.std.proofs.Common.{◌≡◌, ◌<◌, Bool, true, false, refl, arith}
use Rattle.std.specs.Int.{from_bool}
use Rattle.layout.specs.Control.{bit, control_bytes}
use Rattle.layout.proofs.control_bytes.Goals as goal

as_bit : (b : Bool) → from_bool b ≡ bit b
as_bit true = refl
as_bit false = refl

bit_lt : (b : Bool) → from_bool b < 2
bit_lt true = omega arith
bit_lt false = omega arith

pub byte11-requires : goal.byte11-requires
byte11-requires c = rw (c.from-pfirst.ensures, c.from-plast.ensures) (bit_lt c.args.c.pfirst, bit_lt c.args.c.plast)

pub returns : goal.returns
unfolding control_bytes
returns c = cc (as_bit c.args.c.pfirst, as_bit c.args.c.plast, as_bit c.args.c.flag)
