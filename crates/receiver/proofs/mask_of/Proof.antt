use native.Mathlib.Omega.{arith}
use Rattle.receiver.specs.Entitling.{mask_of}
use borrow.Author.Rules.{rules}
use Rattle.receiver.proofs.mask_of.Statement.{statement}
use Rattle.receiver.proofs.mask_of.Tie as tie

add_low : tie.Need-overflow_add-low
add_low c = omega (arith, c.before.bit_of.ensures.1, c.bit_of-2.ensures.1)

add-low-2 : tie.Need-overflow_add-low-2
add-low-2 c = omega (arith, c.before.before.bit_of.ensures.1, c.before.bit_of-2.ensures.1, c.bit_of-3.ensures.1)

add-low-3 : tie.Need-overflow_add-low-3
add-low-3 c = omega (arith, c.before.before.before.bit_of.ensures.1, c.before.before.bit_of-2.ensures.1, c.before.bit_of-3.ensures.1, c.bit_of-4.ensures.1)

add-high : tie.Need-overflow_add-high
add-high c = omega (arith, c.before.before.before.before.before.bit_of.ensures.1, c.before.before.before.before.bit_of-2.ensures.1, c.before.before.before.bit_of-3.ensures.1, c.before.before.bit_of-4.ensures.1, c.before.bit_of-5.ensures.1, c.bit_of-6.ensures.1)

add-high-2 : tie.Need-overflow_add-high-2
add-high-2 c = omega (arith, c.before.before.before.before.before.before.bit_of.ensures.1, c.before.before.before.before.before.bit_of-2.ensures.1, c.before.before.before.before.bit_of-3.ensures.1, c.before.before.before.bit_of-4.ensures.1, c.before.before.bit_of-5.ensures.1, c.before.bit_of-6.ensures.1, c.bit_of-7.ensures.1)

add-high-3 : tie.Need-overflow_add-high-3
add-high-3 c = omega (arith, c.before.before.before.before.before.before.before.bit_of.ensures.1, c.before.before.before.before.before.before.bit_of-2.ensures.1, c.before.before.before.before.before.bit_of-3.ensures.1, c.before.before.before.before.bit_of-4.ensures.1, c.before.before.before.bit_of-5.ensures.1, c.before.before.bit_of-6.ensures.1, c.before.bit_of-7.ensures.1, c.bit_of-8.ensures.1)

add-result : tie.Need-overflow_add-result
add-result c = omega (arith, c.before.before.before.before.before.before.before.bit_of.ensures.1, c.before.before.before.before.before.before.bit_of-2.ensures.1, c.before.before.before.before.before.bit_of-3.ensures.1, c.before.before.before.before.bit_of-4.ensures.1, c.before.before.before.bit_of-5.ensures.1, c.before.before.bit_of-6.ensures.1, c.before.bit_of-7.ensures.1, c.bit_of-8.ensures.1)

returns : tie.Need-returns
unfolding mask_of
returns c = omega (arith, c.before.before.before.before.before.before.before.bit_of.ensures.0, c.before.before.before.before.before.before.bit_of-2.ensures.0, c.before.before.before.before.before.bit_of-3.ensures.0, c.before.before.before.before.bit_of-4.ensures.0, c.before.before.before.bit_of-5.ensures.0, c.before.before.bit_of-6.ensures.0, c.before.bit_of-7.ensures.0, c.bit_of-8.ensures.0)

pub mask_of_spec : {M : Type 1} → statement M
mask_of_spec =
    tie.close (tie.spec (λ c κs. search rules) (λ c κs. search rules) add_low (λ c κs. search rules) add-low-2 (λ c κs. search rules) add-low-3
    (λ c κs. search rules) (λ c κs. search rules) add-high (λ c κs. search rules) add-high-2 (λ c κs. search rules) add-high-3 add-result returns)
