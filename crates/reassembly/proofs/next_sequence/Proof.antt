use borrow.Author.Tests.{eq-eqb, ne_eqb}
use native.Mathlib.Numerals.{add-one}
use Prim.Native.Nat.{suc}
use native.Mathlib.Omega.{arith}
use mathlib.Core.Path.{◌≡◌}
use borrow.Author.Rules.{rules}
use Rattle.reassembly.proofs.next_sequence.Statement.{statement}
use Rattle.reassembly.proofs.next_sequence.Tie as tie

returns : tie.Need-returns-then-next-range
returns c =
    let e : suc c.before.args.last ≡ c.before.args.range = omega (arith, c.if-next-range.true) in
    simp (eq-eqb _ _ e)

returns-2 : tie.Need-returns
returns-2 c =
    let e : suc c.before.args.last ≡ c.before.args.range → ⊥ = λ h. c.if-next-range.false (omega (arith, h)) in
    simp (ne_eqb _ _ e, add-one)

pub next_sequence_spec : {M : Type 1} → statement M
next_sequence_spec = tie.close (tie.spec (λ c. search rules) returns returns-2)
