use Rattle.std.proofs.Common.{◌≡◌, ◌++◌, ◌+◌, ◌*◌, ◌∙◌, List, ℕ, arith, length-append}
use Rattle.packet_log.proofs.Filling.{turn, word-in-first}
use Rattle.packet_log.proofs.put_words.Goals as goal

pub loop-k-preserved : goal.loop-k-preserved
loop-k-preserved c =
    λ rest.
    let a = c.args in
    let b : List ℕ = a.bytes.now in
    let k : ℕ = c.loop-k.k in
    let q : a.from + 3 * (k + 1) ≡ a.from + 3 * k + 3 = omega arith in
    rw q (turn c.loop-k.log (b ++ rest) _ a.at (a.from + 3 * k) k c.full_word.result
    (omega (arith, length-append b rest)) (omega arith) (c.full_word.ensures ∙ word-in-first b rest (a.from + 3 * k) (omega arith)) (c.loop-k.invariant rest))
