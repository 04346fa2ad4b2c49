use borrow.Author.Rules.{rules}
use Rattle.writer.proofs.wrong_packets.Statement.{statement}
use Rattle.writer.proofs.wrong_packets.Tie as tie

returns : tie.Need-returns
returns c = rw (c.before.wrong_lengths-sum.ensures, c.wrong_unfinished-unfinished.ensures)

pub wrong_packets_spec : {M : Type 1} → statement M
wrong_packets_spec = tie.close (tie.spec (λ c κs. search rules) (λ c κs. search rules) returns)
