use mathlib.Core.Path.{◌≡◌, sym, ◌∙◌}
use mathlib.Core.Bool.{Bool, ◌&&◌}
use native.Mathlib.Omega.{arith}
use Rattle.diversity.proofs.Bytes.{and_comm}
use Rattle.pair.proofs.Calling.{both_true, not-both, early-call, Known, fine, first-long, second-long, both-call, first-call, second_call, neither-call}
use borrow.Author.Rules.{rules}
use Rattle.pair.proofs.receive_listed.Statement.{statement}
use Rattle.pair.proofs.receive_listed.Tie as tie

returns : tie.Need-returns-then-n-ne0
returns c =
    let n = c.before.before in
    let a = n.before.before.before.before.before.args in
    early-call a.carry.now a.first.now a.second.now a.log.now a.r n.listed_refusal-n.result c.before.if-n-ne0.true n.listed_refusal-n.ensures c.refused.result c.refused.ensures

-- what is known once correction was tried on both
known : (x : tie.After-is_corrected-two)
    → let d = x.before.before.before in
    let u = d.before.before in
    let e = u.before.before.before in
    let h = e.before.before in
    let g = h.before.before in
    let a = g.before.before.before.before.before.before.args in
    Known a.carry.now a.first.now a.second.now a.r a.m e.correct.result d.correct-2.result u.is_corrected-one.result x.is_corrected-two.result e.correct.new.pdu d.correct-2.new.pdu x.before.before.before.before.before.before.before.before.before.before.before.header_of-before.result h.header_of-other.result
known x =
    let d = x.before.before.before in
    let u = d.before.before in
    let e = u.before.before.before in
    let h = e.before.before in
    let g = h.before.before in
    let i = g.before.before in
    let n = i.before in
    record {
      listed = n.before.before.before.requires;
      free = sym x.before.before.before.before.before.before.before.before.before.before.before.before.before.listed_refusal-n.ensures ∙ x.before.before.before.before.before.before.before.before.before.before.before.before.if-n-ne0.false;
      answer = e.correct.ensures.0;
      answer' = d.correct-2.ensures.0;
      is = u.is_corrected-one.ensures;
      is' = x.is_corrected-two.ensures;
      after = e.correct.ensures.1;
      after' = d.correct-2.ensures.1;
      long = omega (arith, e.correct.auto.pdu);
      long' = omega (arith, d.correct-2.auto.pdu);
      before = x.before.before.before.before.before.before.before.before.before.before.before.header_of-before.ensures;
      before' = h.header_of-other.ensures;
      bytes = λ j. (n.before.slice_known-2-1.given j).fits;
      bytes' = λ j. (n.slice_known-3-1.given j).fits;
    }

-- whether each can be corrected
abbrev one : tie.After-is_corrected-two → Bool
one x = x.before.before.before.before.before.is_corrected-one.result

abbrev two : tie.After-is_corrected-two → Bool
two x = x.is_corrected-two.result

-- in whichever order it is asked
either_way : (x : tie.After-is_corrected-two) → (one x && two x) ≡ (two x && one x)
either_way x = and_comm (one x) (two x)

both-or-restore-requires : tie.Need-both_or_restore-requires
both-or-restore-requires c κs =
    let w = c.before.before.before.before.before.before in
    let k = known w.before in
    (k.listed, (fine k, first-long k (both_true (one w.before) (two w.before) _ w.if-one-two.true (simp (either_way w.before))).0))

returns-2 : tie.Need-returns-then-one-two
returns-2 c =
    let f = c.before.before.before.before.before.before.before.before in
    let w = f.before.before.before.before.before.before.before in
    let b = f.both_or_restore in
    both-call (known w.before) _ b.result b.new.carry b.new.first b.new.second b.new.log (both_true (one w.before) (two w.before) _ w.if-one-two.true (simp (either_way w.before))) b.ensures.0 b.ensures.1.0 b.ensures.1.1

receive-or-restore-requires : tie.Need-receive_or_restore-requires
receive-or-restore-requires c κs =
    let w = c.before.before.before.before in
    let k = known w.before.before in
    (k.listed, (fine k, first-long k w.if-one.true))

returns-3 : tie.Need-returns-then-one
returns-3 c =
    let f = c.before.before.before.before.before.before in
    let w = f.before.before.before.before.before in
    let b = f.receive_or_restore in
    first-call (known w.before.before) _ b.result b.new.carry b.new.pdu b.new.log w.if-one.true (not-both (one w.before.before) (two w.before.before) _ w.before.if-one-two.false (simp (either_way w.before.before)) w.if-one.true) b.ensures.0 b.ensures.1

receive-or-restore-requires-2 : tie.Need-receive_or_restore-requires-then-two
receive-or-restore-requires-2 c κs =
    let w = c.before.before.before.before in
    let k = known w.before.before.before in
    (k.listed, (fine k, second-long k w.if-two.true))

returns-4 : tie.Need-returns-then-two
returns-4 c =
    let f = c.before.before.before.before.before.before in
    let w = f.before.before.before.before.before in
    let b = f.receive_or_restore-then-two in
    second_call (known w.before.before.before) _ b.result b.new.carry b.new.pdu b.new.log w.before.if-one.false w.if-two.true b.ensures.0 b.ensures.1

returns-5 : tie.Need-returns
returns-5 c =
    let w = c.before in
    neither-call (known w.before.before.before) _ c.refused-2.result w.before.if-one.false w.if-two.false c.refused-2.ensures

pub receive_listed_spec : {M : Type 1} → statement M
receive_listed_spec =
    tie.close (tie.spec (λ c κs. search rules) (λ c κs. search rules) returns (λ c κs. search rules) (λ c κs. search rules) (λ c κs. search rules)
    (λ c κs. search rules) (λ c κs. search rules) (λ c κs. search rules) both-or-restore-requires (λ c. search rules) (λ c. search rules) (λ c. search rules)
    (λ c. search rules) returns-2 receive-or-restore-requires (λ c. search rules) (λ c. search rules) (λ c. search rules) (λ c. search rules) returns-3
    receive-or-restore-requires-2 (λ c. search rules) (λ c. search rules) (λ c. search rules) (λ c. search rules) returns-4 (λ c κs. search rules)
    (λ c. search rules) (λ c. search rules) returns-5)
