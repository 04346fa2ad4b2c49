use native.Mathlib.Omega.{arith}
use mathlib.Core.Path.{◌∙◌}
use Prim.Native.Nat.{◌-◌}
use borrow.Author.Rules.{rules}
use mathlib.Core.Path.{◌∙◌}
use Rattle.pdu.proofs.Restoring.{kept, put_back}
use Rattle.pdu.proofs.read_or_restore.Statement.{statement}
use Rattle.pdu.proofs.read_or_restore.Tie as tie

returns : tie.Need-returns-then-r-eq0
returns c =
    let j = c.before.before in
    (j.read_corrected-r.ensures, kept _ _ _ j.read_corrected-r.ensures (omega (arith, c.if-r-eq0.true)))

returns-2 : tie.Need-returns
returns-2 c =
    let f = c.before.before in
    let j = f.before.before.before.before.before in
    (j.read_corrected-r.ensures, f.put_front.ensures ∙ put_back _ _ _ j.read_corrected-r.ensures (omega (arith, f.before.before.before.if-r-eq0.false)))

pub read_or_restore_spec : {M : Type 1} → statement M
read_or_restore_spec = tie.close (tie.spec (λ c κs. search rules) (λ c. search rules) returns (λ c κs. search rules) (λ c. search rules) returns-2)
