use native.Mathlib.Omega.{arith}
use mathlib.Core.Path.{ap, ◌∙◌}
use Prim.Native.Nat.{ℕ}
use lib.ListN.{length}
use Rattle.latency.proofs.Counts.{every-tried}
use Rattle.latency.proofs.Reports.{shown_by, row_by}
use Rattle.latency.proofs.Turns.{count_most}
use borrow.Author.Rules.{rules}
use Rattle.latency.proofs.show_waiting.Statement.{statement}
use Rattle.latency.proofs.show_waiting.Tie as tie

show-from-requires : tie.Need-show_from-count-requires
show-from-requires c κs =
    let u = c.before.before in
    let a = u.before.before.before.args in
    every-tried a.mode a.stream a.counts.now _ _ u.spacing_for.ensures c.before.in-Every.is

cast-t14 : tie.Need-overflow_cast-result
cast-t14 c =
    let w = c.before.before in
    let u = w.before.before.before in
    let a = u.before.before.before.args in
    omega (
      arith,
      count_most _ a.counts.now (every-tried a.mode a.stream a.counts.now _ _ u.spacing_for.ensures c.before.before.before.before.in-Every.is)
          a.first (length a.row.now) _ w.show_from-count.ensures.0,
    )

returns : tie.Need-returns-in-Refused
returns c =
    let u = c.before in
    let a = u.before.before.before.args in
    let e = u.spacing_for.ensures in (
      shown_by a.mode a.stream a.counts.now _ _ e c.in-Refused.is a.first (length a.row.now),
      row_by a.mode a.stream a.counts.now _ _ e c.in-Refused.is a.v a.first a.row.now,
    )

returns-2 : tie.Need-returns-in-Every
returns-2 c =
    let w = c.before.before in
    let u = w.before.before.before in
    let a = u.before.before.before.args in
    let e = u.spacing_for.ensures in (
      ap (λ (x : ℕ). record { refusal = 0; count = x }) w.show_from-count.ensures.0
          ∙ shown_by a.mode a.stream a.counts.now _ _ e c.before.before.before.before.in-Every.is a.first (length a.row.now),
      w.show_from-count.ensures.1 ∙ row_by a.mode a.stream a.counts.now _ _ e c.before.before.before.before.in-Every.is a.v a.first a.row.now,
    )

pub show_waiting_spec : {M : Type 1} → statement M
show_waiting_spec =
    tie.close (tie.spec (λ c κs. search rules) (λ c. search rules) (λ c. search rules) show-from-requires cast-t14 returns (λ c. search rules) returns-2)
