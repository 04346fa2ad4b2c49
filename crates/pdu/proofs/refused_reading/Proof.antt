use Prim.Native.Nat.{◌-◌}
use borrow.Author.Rules.{rules}
use Rattle.pdu.proofs.Assembling.{refused-parts}
use Rattle.pdu.proofs.refused_reading.Statement.{statement}
use Rattle.pdu.proofs.refused_reading.Tie as tie

returns : tie.Need-returns
returns c = refused-parts _ _ _ _ _ c.no_control-control.ensures c.before.before.nothing-none.ensures c.before.answered_fields-fields.ensures

pub refused_reading_spec : {M : Type 1} → statement M
refused_reading_spec = tie.close (tie.spec (λ c κs. search rules) (λ c κs. search rules) (λ c κs. search rules) returns)
