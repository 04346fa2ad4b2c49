use native.Mathlib.Omega.{arith}
use mathlib.Core.Path.{◌≡◌, ap, sym, ◌∙◌}
use lib.ListN.{length}
use borrow.Author.Rules.{rules}
use Rattle.header.specs.Header.{is_code_word, all_zero}
use Rattle.correction.proofs.Answers.{answer-clean, answer-far, answer-wrong, answer-corrected}
use Rattle.correction.proofs.decode.Statement.{statement}
use Rattle.correction.proofs.decode.Tie as tie

-- where the function begins, seen from the syndromes and from the candidate
abbrev begin : tie.After-syndromes_by-s → tie.Start
begin c = c.before.before.before.before.before.before.before

abbrev start : tie.After-candidate-fixed → tie.Start
start c = begin c.before.before.before.before.before

long : (c : tie.After-candidate-fixed) → length (start c).args.header ≡ 96
long c = (start c).well_formed.0.1.0.1

returns : tie.Need-returns-then-all_zero
unfolding is_code_word
returns c =
    let s = c.before.before in
    let b = begin s in
    answer-clean _ _ b.requires.1.0 (omega arith) b.requires.0 (ap all_zero (sym s.syndromes_by-s.ensures) ∙ sym c.before.all_zero.ensures ∙ c.if-all_zero.true)

candidate-requires : tie.Need-candidate-fixed-requires
candidate-requires c κs =
    let s = c.before.before.before.before in
    ((begin s).requires.0, (s.syndromes_by-s.ensures, ((begin s).requires.1.0, ((begin s).requires.1.1, search rules))))

adopted-requires : tie.Need-adopted-with_marks-requires
adopted-requires c κs = (start c.before.before).requires.1.1

returns-2 : tie.Need-returns-then-spare-unmarked
returns-2 c =
    let p = c.before.before in
    let d = p.before in
    let a = d.before.before.before in
    let k = a.before.before.before in
    let r = answer-far _ _ (start k).requires.1.0 (long k) (start k).requires.0 _ _ k.candidate-fixed.ensures a.adopted-with_marks.ensures _ d.difference-unmarked.ensures _ p.spare.ensures (omega (arith, c.before.if-spare-unmarked.true)) in
    (c.refused.ensures.0 ∙ r.0, c.refused.ensures.1 ∙ r.1)

returns-3 : tie.Need-returns-then-is_code_word_by
returns-3 c =
    let t = c.before.before.before in
    let w = t.before in
    let q = w.before.before.before.before in
    let p = q.before in
    let d = p.before in
    let a = d.before.before.before in
    let k = a.before.before.before in
    answer-corrected _ _ (start k).requires.1.0 (long k) (start k).requires.0 _ _ k.candidate-fixed.ensures a.adopted-with_marks.ensures _ d.difference-unmarked.ensures _ p.spare.ensures
    _ c.difference-n.ensures (omega (arith, q.if-spare-unmarked.false)) (sym w.is_code_word_by.ensures ∙ t.if-is_code_word_by.true)

returns-4 : tie.Need-returns
returns-4 c =
    let w = c.before.before in
    let p = w.before.before.before.before.before in
    let d = p.before in
    let a = d.before.before.before in
    let k = a.before.before.before in
    let r = answer-wrong _ _ (start k).requires.1.0 (long k) (start k).requires.0 _ _ k.candidate-fixed.ensures a.adopted-with_marks.ensures _ d.difference-unmarked.ensures _ p.spare.ensures
    (sym w.is_code_word_by.ensures ∙ c.before.if-is_code_word_by.false) in
    (c.refused-2.ensures.0 ∙ r.0, c.refused-2.ensures.1 ∙ r.1)

pub decode_spec : {M : Type 1} → statement M
decode_spec =
    tie.close (tie.spec (λ c κs. search rules) (λ c κs. search rules) (λ c κs. search rules) (λ c κs. search rules) returns candidate-requires adopted-requires
    (λ c κs. search rules) (λ c κs. search rules) (λ c. search rules) (λ c κs. search rules) returns-2 (λ c κs. search rules) (λ c κs. search rules) returns-3
    (λ c κs. search rules) returns-4)
