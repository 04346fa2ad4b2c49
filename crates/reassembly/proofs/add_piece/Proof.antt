use native.Mathlib.Omega.{arith}
use mathlib.Core.Path.{◌≡◌, refl}
use mathlib.Core.Bool.{true, false}
use Prim.Native.Nat.{◌+◌}
use Rattle.reassembly.specs.Count.{with_piece}
use Rattle.reassembly.proofs.add_piece.Statement.{statement}
use Rattle.reassembly.proofs.add_piece.Tie as tie

add_words : tie.Need-overflow_add-words
add_words c = let p = c.before.before.requires in omega (arith, p.0.words, p.1)

count-delivery-requires : tie.Need-count_delivery-requires
count-delivery-requires c κs =
    let b = c.before.before.before.before.requires.0 in
    (omega (arith, b.delivered), omega (arith, b.missing), b.last)

returns : tie.Need-returns-then-p
unfolding with_piece
returns c =
    let a = c.before.before.before.before.before.args in
    let t : a.p.delivers ≡ true = c.before.if-p.true in
    let e = c.count_delivery.ensures in
    rw t (λ i. record { words = a.x.words + a.p.words; tally = e i })

returns-2 : tie.Need-returns
unfolding with_piece
returns-2 c =
    let a = c.before.before.before.before.args in
    let f : a.p.delivers ≡ false = c.if-p.false in
    rw f refl

pub add_piece_spec : {M : Type 1} → statement M
add_piece_spec = tie.close (tie.spec add_words count-delivery-requires returns returns-2)
