use native.Mathlib.Omega.{arith}
use Prim.Native.Nat.{◌≤◌}
use lib.ListN.{length}
use Rattle.receiver.proofs.Taking.{Ready, needed, Weighed, too_short, too_many, accepts, run_fits, tally-fits, taken}
use borrow.Author.Rules.{rules}
use Rattle.receiver.proofs.receive_parsed.Statement.{statement}
use Rattle.receiver.proofs.receive_parsed.Tie as tie

-- what is known before the words are counted
ready : (w : tie.After-state_of-state) → let a = w.before.before.before.before.args in Ready a.r a.head a.y.now a.marks a.carry.now w.state_of-state.result
ready w = let p = w.before.before.before.before.requires in record { fine = p.0; whole = p.1; stated = w.state_of-state.ensures }

-- and once they are
abbrev weighed : (f : tie.After-forecast_for-count) → let t = f.before.before.before.before in let a = t.before.before.before.before.args in Weighed (ready t) a.range a.causes
weighed f =
    let g = f.before in
    let i = g.before in
    let s = i.before in
    record {
      services = s.services_at-services.result;
      in_force_here = s.services_at-services.ensures;
      withheld = i.is_withheld-withheld.result;
      withheld_here = i.is_withheld-withheld.ensures;
      before = g.tally_of.result;
      counted_before = g.tally_of.ensures;
      count = f.forecast_for-count.result;
      forecast = f.forecast_for-count.ensures;
    }

services-at-requires : tie.Need-services_at-services-requires
services-at-requires c κs = let p = c.before.before.before.before.requires in (p.0.sequence, p.0.services)

forecast-for-requires : tie.Need-forecast_for-count-requires
forecast-for-requires c κs = needed (ready c.before.before.before) c.tally_of.result c.tally_of.ensures

returns : tie.Need-returns-then-log-count
returns c =
    let f = c.before.before.before.before in
    let t = f.before.before.before.before in
    let a = t.before.before.before.before.args in
    too_short (ready t) (weighed f) a.log.now c.refused.result (omega (arith, c.before.if-log-count.true)) c.refused.ensures

returns-2 : tie.Need-returns-then-passes_limit
returns-2 c =
    let p = c.before.before in
    let f = p.before.before.before.before in
    let t = f.before.before.before.before in
    let a = t.before.before.before.before.args in
    too_many (ready t) (weighed f) a.log.now (omega (arith, p.before.if-log-count.false)) p.passes_limit.result p.passes_limit.ensures c.refused-then-passes_limit.result c.before.if-passes_limit.true c.refused-then-passes_limit.ensures

accept-requires : tie.Need-accept-run-requires
accept-requires c κs =
    let p = c.before.before.before in
    let f = p.before.before.before.before in
    let t = f.before.before.before.before in
    let a = t.before.before.before.before.args in
    accepts (ready t) (weighed f) a.log.now (omega (arith, p.before.if-log-count.false)) p.passes_limit.result p.passes_limit.ensures

accepted-requires : tie.Need-accepted-requires
accepted-requires c κs =
    let d = c.before.before.before.before.before in
    let e = d.before.before.before in
    let p = e.before in
    let f = p.before.before.before.before in
    let t = f.before.before.before.before in
    let a = t.before.before.before.before.args in
    let room : f.forecast_for-count.result.words ≤ length a.log.now = omega (arith, p.before.if-log-count.false) in (
      run_fits (ready t) (weighed f) a.log.now room p.passes_limit.result p.passes_limit.ensures e.if-passes_limit.false d.accept-run.new.carry d.accept-run.new.log d.accept-run.result d.accept-run.ensures,
      tally-fits (ready t) (weighed f) a.log.now room p.passes_limit.result p.passes_limit.ensures e.if-passes_limit.false d.accept-run.new.carry d.accept-run.new.log d.accept-run.result d.accept-run.ensures,
    )

returns-3 : tie.Need-returns
returns-3 c =
    let k = c.before in
    let d = k.before.before.before.before.before in
    let e = d.before.before.before in
    let p = e.before in
    let f = p.before.before.before.before in
    let t = f.before.before.before.before in
    let a = t.before.before.before.before.args in
    taken (ready t) (weighed f) a.log.now (omega (arith, p.before.if-log-count.false)) p.passes_limit.result p.passes_limit.ensures e.if-passes_limit.false d.accept-run.new.carry d.accept-run.new.log d.accept-run.result d.accept-run.ensures k.services_after-kept.result k.services_after-kept.ensures c.accepted.result c.accepted.ensures

pub receive_parsed_spec : {M : Type 1} → statement M
receive_parsed_spec =
    tie.close (tie.spec (λ c κs. search rules) services-at-requires (λ c κs. search rules) (λ c κs. search rules) forecast-for-requires (λ c κs. search rules)
    returns (λ c κs. search rules) (λ c κs. search rules) returns-2 accept-requires (λ c κs. search rules) accepted-requires (λ c. search rules)
    (λ c. search rules) returns-3)
