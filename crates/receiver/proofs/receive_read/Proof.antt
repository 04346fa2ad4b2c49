use mathlib.Core.Path.{sym, ap, subst, ◌∙◌}
use Rattle.reassembly.specs.Holder.{Come}
use Rattle.reassembly.specs.Run.{Parsed}
use Rattle.reassembly.specs.declared.Head.{Head}
use Rattle.receiver.proofs.Parsing.{all-marked, parsed}
use Rattle.receiver.specs.Steps.{come_of, Takes}
use Rattle.receiver.proofs.Saying.{same-come}
use borrow.Author.Rules.{rules}
use Rattle.receiver.proofs.receive_read.Statement.{statement}
use Rattle.receiver.proofs.receive_read.Tie as tie

marks-of-requires : tie.Need-marks_of-marks-requires
marks-of-requires c κs = c.before.before.before.requires.1.0.1

causes-of-requires : tie.Need-causes_of-causes-requires
causes-of-requires c κs =
    let s = c.before.before.before.before.before in
    all-marked s.args.m s.args.c s.args.y.now s.requires.1.0.1 s.requires.1.1 c.before.marks_of-marks.result c.before.marks_of-marks.ensures

receive-parsed-requires : tie.Need-receive_parsed-requires
receive-parsed-requires c κs =
    let h = c.before.before in
    let k = h.before.before.before in
    let s = k.before.before.before.before in
    let a = s.args in
    let marks = k.marks_of-marks.result in
    (s.requires.0, subst (λ (x : Head). Parsed x a.y.now marks) (sym h.head_of-head.ensures) (parsed a.m a.c a.y.now s.requires.1.0.1 s.requires.1.1 marks k.marks_of-marks.ensures s.requires.1.0.0))

returns : tie.Need-returns
returns c =
    let f = c.before.before.before.before in
    let h = f.before.before.before in
    let g = h.before in
    let k = g.before.before in
    let a = k.before.before.before.before.args in
    let come = ap (λ (x : Head). come_of x k.marks_of-marks.result g.causes_of-causes.result a.y.now) h.head_of-head.ensures ∙ same-come a.r.register a.m.width a.c a.y.now k.marks_of-marks.result g.causes_of-causes.result k.marks_of-marks.ensures g.causes_of-causes.ensures in
    subst (λ (d : Come). Takes a.m.sequences d a.r a.carry.now a.log.now f.receive_parsed.result f.receive_parsed.new.carry f.receive_parsed.new.log) come f.receive_parsed.ensures

pub receive_read_spec : {M : Type 1} → statement M
receive_read_spec =
    tie.close (tie.spec marks-of-requires (λ c. search rules) causes-of-requires (λ c κs. search rules) receive-parsed-requires (λ c. search rules)
    (λ c. search rules) returns)
