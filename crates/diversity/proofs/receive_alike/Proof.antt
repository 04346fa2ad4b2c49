use mathlib.Core.Path.{subst}
use Rattle.reassembly.specs.Holder.{Come}
use Rattle.receiver.specs.Steps.{Takes}
use Rattle.diversity.proofs.Alike.{alike-length, few, marked-first, marked-second, parsed-first, come-here}
use borrow.Author.Rules.{rules}
use Rattle.diversity.proofs.receive_alike.Statement.{statement}
use Rattle.diversity.proofs.receive_alike.Tie as tie

marks-of-requires : tie.Need-marks_of-marks-requires
marks-of-requires c κs =
    let w = c.before.before in
    let s = w.before.before.before.before in
    few s.args.m c.before.control_word-c.result s.args.first.now s.args.second.now c.before.control_word-c.ensures s.requires.1.1.0 s.requires.1.1.1

causes-of-requires : tie.Need-causes_of-causes-requires
causes-of-requires c κs =
    let k = c.before in
    let w = k.before.before.before in
    let s = w.before.before.before in
    marked-first s.args.m c.before.before.control_word-c.result s.args.first.now s.args.second.now c.before.before.control_word-c.ensures s.requires.1.1.0 s.requires.1.1.1 c.marks_of-marks.result c.marks_of-marks.ensures

pair-causes-requires : tie.Need-pair_causes-both-requires
pair-causes-requires c κs =
    let g = c.before.before in
    let k = g.before.before in
    let w = k.before.before.before in
    let s = w.before in (
      (
        marked-first s.args.m c.before.before.before.control_word-c.result s.args.first.now s.args.second.now c.before.before.before.control_word-c.ensures s.requires.1.1.0 s.requires.1.1.1 c.before.marks_of-marks.result c.before.marks_of-marks.ensures,
        marked-second s.args.m c.before.before.before.control_word-c.result s.args.first.now s.args.second.now c.before.before.before.control_word-c.ensures s.requires.1.1.0 s.requires.1.1.1 c.before.marks_of-marks.result c.before.marks_of-marks.ensures,
      ),
      c.causes_of-causes.ensures,
    )

receive-exchanged-requires : tie.Need-receive_exchanged-requires
receive-exchanged-requires c κs =
    let h = c.before.before.before.before in
    let g = h.before.before.before.before.before in
    let k = g.before.before in
    let w = k.before.before.before in
    let s = w in (
      s.requires.0,
      (
        parsed-first s.args.m c.before.before.before.before.before.before.before.before.before.control_word-c.result s.args.first.now s.args.second.now c.before.before.before.before.before.before.before.before.before.control_word-c.ensures s.requires.1.1.0 s.requires.1.1.1 c.before.before.before.before.before.before.before.marks_of-marks.result c.before.before.before.before.before.before.before.marks_of-marks.ensures h.head_of-head.result h.head_of-head.ensures s.requires.1.0,
        alike-length s.args.first.now s.args.second.now s.requires.1.1.1,
      ),
    )

returns : tie.Need-returns
returns c =
    let f = c.before.before.before.before.before.before.before.before in
    let h = f.before.before.before.before.before in
    let p = h.before.before in
    let g = p.before.before.before in
    let k = g.before.before in
    let w = k.before.before.before in
    let s = w in
    let a = s.args in
    let d = f.receive_exchanged in
    let come = come-here a.m c.before.before.before.before.before.before.before.before.before.before.before.before.before.before.before.before.before.before.control_word-c.result a.first.now a.second.now c.before.before.before.before.before.before.before.before.before.before.before.before.before.before.before.before.before.before.control_word-c.ensures s.requires.1.1.0 s.requires.1.1.1 c.before.before.before.before.before.before.before.before.before.before.before.before.before.before.before.before.marks_of-marks.result c.before.before.before.before.before.before.before.before.before.before.before.before.before.before.before.before.marks_of-marks.ensures h.head_of-head.result h.head_of-head.ensures a.r.register c.before.before.before.before.before.before.before.before.before.before.before.before.before.before.before.causes_of-causes.result c.before.before.before.before.before.before.before.before.before.before.before.before.before.before.pair_causes-both.result c.before.before.before.before.before.before.before.before.before.before.before.before.before.before.before.causes_of-causes.ensures c.before.before.before.before.before.before.before.before.before.before.before.before.before.before.pair_causes-both.ensures in
    (subst (λ (x : Come). Takes a.m.sequences x a.r a.carry.now a.log.now d.result d.new.carry d.new.log) come d.ensures.0, d.ensures.1)

pub receive_alike_spec : {M : Type 1} → statement M
receive_alike_spec =
    tie.close (tie.spec (λ c κs. search rules) (λ c. search rules) marks-of-requires causes-of-requires pair-causes-requires (λ c κs. search rules)
    receive-exchanged-requires (λ c. search rules) (λ c. search rules) (λ c. search rules) (λ c. search rules) returns)
