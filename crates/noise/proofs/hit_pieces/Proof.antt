use borrow.Author.Rules.{rules}
use Rattle.noise.proofs.Laws.{hits-by}
use Rattle.noise.proofs.hit_pieces.Statement.{statement}
use Rattle.noise.proofs.hit_pieces.Tie as tie

returns : tie.Need-returns
returns c = hits-by _ _ _ _ _ c.before.before.before.before.before.before.before.before.before.before.before.reading_of-r.ensures.0 c.before.before.before.before.before.before.before.before.before.before.before.reading_of-r.ensures.1 c.before.before.hit_all.ensures

pub hit_pieces_spec : {M : Type 1} → statement M
hit_pieces_spec = tie.close (tie.spec (λ c κs. search rules) (λ c. search rules) (λ c. search rules) (λ c κs. search rules) (λ c. search rules) returns)
