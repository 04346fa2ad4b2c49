use Rattle.std.proofs.Common.{ℕ, List, [], ◌≡◌, sym, ap, ◌∙◌, length, drop, ◌+◌, arith}
use mathlib.Core.Path.{ap₂}
use Rattle.buffer.specs.Buffer.{put_at}
use Rattle.buffer.proofs.Laws.{put-put, put-nil}
use Rattle.join.proofs.Joining.{joined-next, joined-size, joined_end}
use Rattle.join.specs.Scan.{first_joined, joined_words}
use Rattle.join.proofs.put_joined.Goals as goal

pub put_at-at-requires-clause-core_in_bounds : goal.put_at-at-requires-clause-core_in_bounds
put_at-at-requires-clause-core_in_bounds c =
    let s = joined-size c.args.core.now c.args.enhanced.now c.loop-i.i c.loop-i-test.true in
    omega arith

pub loop-i-preserved : goal.loop-i-preserved
loop-i-preserved c =
    let l = c.loop-i in
    let a = c.args in
    let g = c.put_at-at in
    let first : List ℕ = first_joined a.enhanced.now (drop l.i a.core.now) in
    let rest : List ℕ = joined_words a.enhanced.now (drop (l.i + 1) a.core.now) in
    let s = joined-size a.core.now a.enhanced.now l.i c.loop-i-test.true in
    record {
      so_far = omega (arith, g.ensures.value);
      put = ap₂ (λ (r : List ℕ) (k : ℕ). put_at r k rest) g.ensures.res_after g.ensures.value
          ∙ put-put l.res l.at first rest (omega arith)
          ∙ ap (put_at l.res l.at) (sym (joined-next a.core.now a.enhanced.now l.i c.loop-i-test.true)) ∙ l.invariant.put;
    }

pub returns : goal.returns
returns c =
    let l = c.loop-i in
    let a = c.args in
    let e : joined_words a.enhanced.now (drop l.i a.core.now) ≡ [] = joined_end a.core.now a.enhanced.now l.i c.loop-i-test.false in
    record {
      value = omega (arith, ap length e);
      res_after = sym (put-nil l.res l.at) ∙ ap (put_at l.res l.at) (sym e) ∙ l.invariant.put;
    }
