use native.Mathlib.Omega.{arith}
use mathlib.Core.Path.{sym, ap, ◌∙◌}
use Prim.Native.Nat.{ℕ}
use Rattle.buffer.specs.Buffer.{put_at}
use Rattle.latency.specs.Latency.{waiting_from}
use Rattle.latency.proofs.Ticks.{ticks-most}
use Rattle.latency.proofs.Turns.{row-none}
use borrow.Author.Rules.{rules}
use Rattle.latency.proofs.show_from.Statement.{statement}
use Rattle.latency.proofs.show_from.Tie as tie

mul-shown-count : tie.Need-overflow_mul-counts
mul-shown-count c =
    let s = c.before.before in
    omega (arith, ticks-most s.args.n s.args.counts.now s.requires)

returns : tie.Need-returns-then-count-eq0
returns c =
    let a = c.before.before.before.before.args in
    let e = c.before.shown_count-count.ensures in
    (sym c.if-count-eq0.true ∙ e, row-none a.n a.counts.now a.v a.first _ a.row.now (sym e ∙ c.if-count-eq0.true))

returns-2 : tie.Need-returns
returns-2 c =
    let w = c.before.before in
    let k = w.before.before.before in
    let a = k.before.before.before.args in
    let e = k.shown_count-count.ensures in
    (e, w.show.ensures ∙ ap (λ (x : ℕ). put_at a.row.now 0 (waiting_from a.n a.counts.now a.v a.first x)) e)

pub show_from_spec : {M : Type 1} → statement M
show_from_spec = tie.close (tie.spec mul-shown-count (λ c κs. search rules) returns (λ c κs. search rules) (λ c. search rules) returns-2)
