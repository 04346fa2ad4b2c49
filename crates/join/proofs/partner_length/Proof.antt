use native.Mathlib.Omega.{arith}
use mathlib.Core.Path.{ap}
use lib.ListN.{length}
use Rattle.join.proofs.Joining.{partner-none, partner-size}
use borrow.Author.Rules.{rules}
use Rattle.join.proofs.partner_length.Statement.{statement}
use Rattle.join.proofs.partner_length.Tie as tie

returns : tie.Need-returns-then-enhanced-i
returns c = (ap length (partner-none c.before.before.before.before.args.enhanced.now c.before.before.before.before.args.n c.before.place_of-i.result c.before.place_of-i.ensures.1 c.if-enhanced-i.true), omega arith)

returns-2 : tie.Need-returns
returns-2 c =
    let a = c.before.before.before.before.before.args in
    let f = c.before.before.place_of-i in
    (partner-size a.enhanced.now a.n f.result f.ensures.1 c.run_end.result (omega arith) (omega arith) (omega arith) c.run_end.ensures.1, omega arith)

pub partner_length_spec : {M : Type 1} → statement M
partner_length_spec = tie.close (tie.spec (λ c κs. search rules) returns (λ c. search rules) (λ c κs. search rules) (λ c. search rules) returns-2)
