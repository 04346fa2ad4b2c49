use borrow.Author.Rules.{rules}
use Rattle.noise.proofs.Laws.{left_alone, put_back}
use Rattle.noise.proofs.reading_of.Statement.{statement}
use Rattle.noise.proofs.reading_of.Tie as tie

returns : tie.Need-returns-then-r-ne0
returns c = (c.before.before.before.before.read-r.ensures.0, left_alone _ _ _ c.before.before.before.before.read-r.ensures.0 c.before.before.before.before.read-r.ensures.1 c.if-r-ne0.true)

returns-2 : tie.Need-returns
returns-2 c = (c.before.before.before.before.before.before.before.before.before.read-r.ensures.0, put_back _ _ _ _ _ (λ i. (c.before.before.before.before.before.before.before.before.before.before.before.before.slice_known-1.given i).fits) c.before.before.before.before.before.before.before.before.before.before.before.header_of-before.ensures c.before.before.before.before.before.before.before.before.before.read-r.ensures.0 c.before.before.before.before.before.before.before.before.before.read-r.ensures.1 c.before.before.before.before.before.if-r-ne0.false c.before.before.put_front.ensures)

pub reading_of_spec : {M : Type 1} → statement M
reading_of_spec =
    tie.close (tie.spec (λ c κs. search rules) (λ c κs. search rules) (λ c. search rules) returns (λ c. search rules) (λ c κs. search rules) (λ c. search rules)
    returns-2)
