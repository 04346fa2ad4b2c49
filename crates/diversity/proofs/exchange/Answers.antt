use Rattle.std.proofs.Common.{◌≡◌, refl, sym, ap, ◌∙◌, length, arith}
use Rattle.diversity.specs.Steps.{mixed, in_places}
use Rattle.diversity.proofs.Exchanging.{within_none, within_more}
use Rattle.diversity.proofs.exchange.Goals as goal

pub loop-i-init : goal.loop-i-init
loop-i-init c =
    let a = c.args in
    record { first_so_far = within_none a.from a.first.now a.second.now; second_so_far = within_none a.from a.second.now a.first.now }

pub loop-i-preserved : goal.loop-i-preserved
loop-i-preserved c =
    let a = c.args in
    let l = c.loop-i in
    let v = l.invariant in
    let q : length a.first.now ≡ length a.second.now = omega arith in
    record {
      first_so_far = within_more a.from l.i a.first.now a.second.now l.first l.second _ (omega arith) (omega arith) q v.first_so_far v.second_so_far refl;
      second_so_far = within_more a.from l.i a.second.now a.first.now l.second l.first _ (omega arith) (omega arith) (sym q) v.second_so_far v.first_so_far refl;
    }

pub returns : goal.returns
returns c =
    let a = c.args in
    let e : c.loop-i.i ≡ a.to = omega arith in
    let v = c.loop-i.invariant in
    record {
      first_after = v.first_so_far ∙ ap (λ n. mixed (in_places a.from n) a.first.now a.second.now) e;
      second_after = v.second_so_far ∙ ap (λ n. mixed (in_places a.from n) a.second.now a.first.now) e;
    }
