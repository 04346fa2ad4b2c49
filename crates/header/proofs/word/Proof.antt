-- `header::word` meets its contract.
use native.Mathlib.Omega.{arith}
use mathlib.Core.Path.{ap, ◌∙◌}
use borrow.Author.Rules.{rules}
use Rattle.header.specs.Packed.{unpacked}
use Rattle.header.proofs.Lanes.{word-or, word_bytes}
use Rattle.header.proofs.word.Statement.{statement}
use Rattle.header.proofs.word.Tie as tie

returns : tie.Need-returns
returns c =
    let b₀ = c.before.before.before.before.before.before.before.before.before.before.before.before.before.before.wide in
    let b₁ = c.before.before.before.before.before.before.before.before.before.before.before.before.wide-2 in
    let b₂ = c.before.before.before.before.before.before.before.before.before.before.wide-3 in
    let b₃ = c.before.before.before.before.before.before.before.before.wide-4 in
    let b₄ = c.before.before.before.before.before.before.wide-5 in
    let b₅ = c.before.before.before.before.wide-6 in
    let b₆ = c.before.before.wide-7 in
    let b₇ = c.wide-8 in
    ap unpacked (word-or b₀.result b₁.result b₂.result b₃.result b₄.result b₅.result b₆.result b₇.result
    b₀.ensures.1 b₁.ensures.1 b₂.ensures.1 b₃.ensures.1 b₄.ensures.1 b₅.ensures.1 b₆.ensures.1)
    ∙ word_bytes c.before.before.before.before.before.before.before.before.before.before.before.before.before.before.before.before.before.args.header.now c.before.before.before.before.before.before.before.before.before.before.before.before.before.before.before.before.before.args.i (omega arith) b₀.ensures b₁.ensures b₂.ensures b₃.ensures b₄.ensures b₅.ensures b₆.ensures b₇.ensures

pub word_spec : {M : Type 1} → statement M
word_spec =
    tie.close (tie.spec (λ c. search rules) (λ c κs. search rules) (λ c. search rules) (λ c. search rules) (λ c κs. search rules) (λ c. search rules)
    (λ c. search rules) (λ c. search rules) (λ c κs. search rules) (λ c. search rules) (λ c. search rules) (λ c. search rules) (λ c κs. search rules)
    (λ c. search rules) (λ c. search rules) (λ c. search rules) (λ c κs. search rules) (λ c. search rules) (λ c. search rules) (λ c. search rules)
    (λ c κs. search rules) (λ c. search rules) (λ c. search rules) (λ c. search rules) (λ c κs. search rules) (λ c. search rules) (λ c. search rules)
    (λ c. search rules) (λ c κs. search rules) (λ c. search rules) returns)
