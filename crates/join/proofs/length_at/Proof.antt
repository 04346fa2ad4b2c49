use native.Mathlib.Omega.{arith}
use mathlib.Core.Path.{ap, sym, ◌∙◌}
use Prim.Native.Nat.{ℕ}
use lib.ListN.{length}
use Rattle.join.proofs.Joining.{first-none, first-size}
use Rattle.join.specs.Scan.{partner}
use borrow.Author.Rules.{rules}
use Rattle.join.proofs.length_at.Statement.{statement}
use Rattle.join.proofs.length_at.Tie as tie

returns : tie.Need-returns-then-not-is_packet
returns c =
    let a = c.before.before.before.before.before.before.args in
    (ap length (first-none a.core.now a.enhanced.now a.i (omega arith) (sym c.before.is_packet.ensures ∙ c.if-not-is_packet.true)), omega arith)

returns-2 : tie.Need-returns
returns-2 c =
    let a = c.before.before.before.before.before.before.before.before.before.args in
    let e = c.before.before.run_end in (
      first-size a.core.now a.enhanced.now a.i (omega arith) e.result c.partner_length.result (omega arith) (omega arith)
          (sym c.before.before.before.before.is_packet.ensures ∙ c.before.before.before.if-not-is_packet.false) e.ensures.1
          (c.partner_length.ensures.0 ∙ ap (λ (n : ℕ). length (partner a.enhanced.now n)) c.before.number.ensures.0),
      omega arith,
    )

pub length_at_spec : {M : Type 1} → statement M
length_at_spec =
    tie.close (tie.spec (λ c. search rules) (λ c. search rules) (λ c κs. search rules) returns (λ c. search rules) (λ c κs. search rules) (λ c. search rules)
    (λ c κs. search rules) (λ c κs. search rules) (λ c. search rules) returns-2)
