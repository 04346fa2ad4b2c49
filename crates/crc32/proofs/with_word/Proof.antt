use mathlib.Core.Path.{ap, sym, ◌∙◌}
use Prim.Native.Nat.{ℕ}
use borrow.Author.Rules.{rules}
use Prim.Native.Nat.{◌/◌, ◌%◌}
use Rattle.crc32.specs.Crc32.{crc32_byte}
use Rattle.crc32.proofs.Laws.{three-in, two_in, one_in}
use Rattle.crc32.proofs.with_word.Statement.{statement}
use Rattle.crc32.proofs.with_word.Tie as tie

returns : tie.Need-returns-then-count-eq3
returns c =
    let a = c.before.before.args in
    c.with_three.ensures ∙ sym (three-in a.register a.word c.before.if-count-eq3.true)

returns-2 : tie.Need-returns-then-count-eq2
returns-2 c =
    let d = c.before.before in
    let a = d.before.before.args in
    c.with_byte.ensures ∙ ap (λ (x : ℕ). crc32_byte x (a.word / 256 % 256)) d.with_byte-one.ensures
    ∙ sym (two_in a.register a.word d.before.if-count-eq3.false c.before.if-count-eq2.true)

returns-3 : tie.Need-returns
returns-3 c =
    let d = c.before in
    let a = d.before.before.args in
    d.with_byte-one.ensures ∙ sym (one_in a.register a.word d.before.if-count-eq3.false c.if-count-eq2.false)

pub with_word_spec : {M : Type 1} → statement M
with_word_spec = tie.close (tie.spec (λ c κs. search rules) returns (λ c κs. search rules) (λ c κs. search rules) returns-2 returns-3)
