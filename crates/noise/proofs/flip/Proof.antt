use borrow.Author.Rules.{rules}
use Rattle.noise.proofs.Laws.{flipped-by}
use Rattle.noise.proofs.flip.Statement.{statement}
use Rattle.noise.proofs.flip.Tie as tie

returns : tie.Need-returns
returns c = flipped-by _ _ _ _ _ _ c.before.before.before.before.before.before.before.before.spread-mask.ensures c.before.before.before.before.before.before.flip_at.ensures c.before.before.flip_at-2.ensures

pub flip_spec : {M : Type 1} → statement M
flip_spec =
    tie.close (tie.spec (λ c κs. search rules) (λ c. search rules) (λ c κs. search rules) (λ c. search rules) (λ c. search rules) (λ c κs. search rules)
    (λ c. search rules) returns)
