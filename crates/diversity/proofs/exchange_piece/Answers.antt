use Rattle.std.proofs.Common.{◌≡◌, arith}
use Rattle.diversity.proofs.Exchanging.{piece-stays, piece-goes}
use Rattle.diversity.proofs.exchange_piece.Goals as goal

pub returns-then-cause-eq0 : goal.returns-then-cause-eq0
returns-then-cause-eq0 c =
    let a = c.args in
    let z : a.cause ≡ 0 = omega (arith, c.if-cause-eq0.true) in
    record { first_after = piece-stays a.marks a.cause a.k a.first.now a.second.now z; second_after = piece-stays a.marks a.cause a.k a.second.now a.first.now z }

pub returns : goal.returns
returns c =
    let a = c.args in
    record {
      first_after = piece-goes a.marks a.cause a.k c.from-a.result c.from-e.result a.first.now a.second.now _ c.if-cause-eq0.false c.from-a.ensures c.from-e.ensures c.exchange.ensures.first_after;
      second_after = piece-goes a.marks a.cause a.k c.from-a.result c.from-e.result a.second.now a.first.now _ c.if-cause-eq0.false c.from-a.ensures c.from-e.ensures c.exchange.ensures.second_after;
    }
