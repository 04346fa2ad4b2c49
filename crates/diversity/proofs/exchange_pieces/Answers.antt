use Rattle.std.proofs.Common.{◌≡◌, ap, ◌∙◌, arith}
use Rattle.diversity.specs.Steps.{mixed, exchanged}
use Rattle.diversity.proofs.Exchanging.{exchanged-none, exchanged-more}
use Rattle.diversity.proofs.exchange_pieces.Goals as goal

pub loop-k-init : goal.loop-k-init
loop-k-init c =
    let a = c.args in
    record {
      first_so_far = exchanged-none a.marks a.causes a.first.now a.second.now;
      second_so_far = exchanged-none a.marks a.causes a.second.now a.first.now;
    }

pub loop-k-preserved : goal.loop-k-preserved
loop-k-preserved c =
    let a = c.args in
    let l = c.loop-k in
    let v = l.invariant in
    let e = c.exchange_piece.ensures in
    record {
      first_so_far = exchanged-more a.marks a.causes l.k a.first.now a.second.now l.first l.second _ v.first_so_far v.second_so_far e.first_after;
      second_so_far = exchanged-more a.marks a.causes l.k a.second.now a.first.now l.second l.first _ v.second_so_far v.first_so_far e.second_after;
    }

pub returns : goal.returns
returns c =
    let a = c.args in
    let e : c.loop-k.k ≡ a.nop = omega arith in
    let v = c.loop-k.invariant in
    record {
      first_after = v.first_so_far ∙ ap (λ n. mixed (exchanged a.marks a.causes n) a.first.now a.second.now) e;
      second_after = v.second_so_far ∙ ap (λ n. mixed (exchanged a.marks a.causes n) a.second.now a.first.now) e;
    }
