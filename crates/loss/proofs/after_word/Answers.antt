-- A word of another kind counts nothing, and a packet's first counts one.
use Rattle.std.proofs.Common.{◌≡◌, ◌/◌, ◌%◌, ◌∙◌, ℕ, ap, sym, arith}
use Rattle.reassembly.specs.Tally.{counted}
use Rattle.loss.specs.Column.{tally_in, wrapped}
use Rattle.loss.proofs.Words.{not-counted, counts, sums}
use Rattle.loss.proofs.after_word.Goals as goal

pub returns-then-w-ne-PACKET : goal.returns-then-w-ne-PACKET
returns-then-w-ne-PACKET c =
    let s = c.split-w.ensures in
    sym (not-counted (tally_in c.args.l) c.args.word (λ e. omega (arith, s.0, s.1, s.2, s.3, e)))

pub returns : goal.returns
returns c =
    let t = tally_in c.args.l in
    let s = c.split-w.ensures in
    let high = c.split-w.result.high in
    let q : high ≡ c.args.word / 0x10000 = omega (arith, s.0, s.1, s.2, s.3) in
    sums t (high % 64) _ _ _ (omega arith) (omega arith) (omega arith) c.wrapping_add_u32.ensures.value c.missing_before.ensures.0 c.wrapping_add_u32-2.ensures.value
    ∙ ap (λ (x : ℕ). wrapped (counted (wrapped t) (x % 64))) q
    ∙ sym (counts t c.args.word (omega (arith, s.0, s.1, s.2, s.3)))
