-- `header::unpack` meets its contract, byte by byte.
use Rattle.header.specs.Packed.{unpacked}
use borrow.Author.Rules.{rules}
use Rattle.header.proofs.unpack.Statement.{statement}
use Rattle.header.proofs.unpack.Tie as tie

returns : tie.Need-returns
unfolding unpacked
returns c =
    simp (
      c.before.before.before.before.before.before.before.byte_from.ensures,
      c.before.before.before.before.before.before.byte_from-2.ensures,
      c.before.before.before.before.before.byte_from-3.ensures,
      c.before.before.before.before.byte_from-4.ensures,
      c.before.before.before.byte_from-5.ensures,
      c.before.before.byte_from-6.ensures,
      c.before.byte_from-7.ensures,
      c.byte_from-8.ensures,
    )

pub unpack_spec : {M : Type 1} → statement M
unpack_spec =
    tie.close (tie.spec (λ c κs. search rules) (λ c κs. search rules) (λ c κs. search rules) (λ c κs. search rules) (λ c κs. search rules)
    (λ c κs. search rules) (λ c κs. search rules) (λ c κs. search rules) returns)
