use Rattle.reassembly.proofs.Counts.{all-withheld, all_shown, words-bounded}
use native.Mathlib.Omega.{arith}
use borrow.Author.Rules.{rules}
use mathlib.Core.Path.{subst, sym}
use Rattle.reassembly.specs.Count.{Bounded}
use Rattle.reassembly.proofs.count_contents.Statement.{statement}
use Rattle.reassembly.proofs.count_contents.Tie as tie

add-words-requires : tie.Need-add_words-requires
add-words-requires c κs = (c.before.requires.1.0.0, omega arith)

count-continuing-requires : tie.Need-count_continuing-requires
count-continuing-requires c κs =
    let p = c.before.before in
    let w = c.add_words in
    ((p.requires.0.0, p.requires.0.1, subst (Bounded 0) (sym w.ensures) (words-bounded p.args.x 1 p.requires.1.0.0 (omega arith) p.requires.1.0.1)), p.requires.1.1)

returns : tie.Need-returns-then-withheld
returns c =
    let w = c.before in
    let a = w.before.before.args in
    let q = c.count_continuing in
    all-withheld a.withheld a.head a.marks a.causes a.held a.x w.add_words.result q.result w.before.if-withheld.true w.add_words.ensures q.ensures

add-count-psd : tie.Need-overflow_add-from
add-count-psd c = search rules

sub-count-psd : tie.Need-overflow_sub-from
sub-count-psd c = omega (arith, c.before.before.before.requires.0.2, c.before.from.ensures)

count-psd-requires : tie.Need-count_psd-extra-requires
count-psd-requires c κs = omega (arith, c.before.from.ensures)

add-words-requires-2 : tie.Need-add_words-requires-2
add-words-requires-2 c κs = (c.before.before.before.before.requires.1.0.0, c.count_psd-extra.ensures.1)

count-pieces-requires : tie.Need-count_pieces-requires
count-pieces-requires c κs =
    let p = c.before.before.before.before.before in
    let w = c.add_words-2 in
    ((p.requires.0.0, p.requires.0.1, subst (Bounded 0) (sym w.ensures) (words-bounded p.args.x c.before.count_psd-extra.result p.requires.1.0.0 c.before.count_psd-extra.ensures.1 p.requires.1.0.1)), p.requires.1.1)

returns-2 : tie.Need-returns
returns-2 c =
    let w = c.before in
    let x = w.before in
    let l = x.before.before in
    let a = l.before.before.args in
    let q = c.count_pieces in
    all_shown a.withheld a.head a.marks a.causes a.held a.x w.add_words-2.result q.result l.from.result x.count_psd-extra.result l.before.if-withheld.false l.from.ensures x.count_psd-extra.ensures.0 w.add_words-2.ensures q.ensures

pub count_contents_spec : {M : Type 1} → statement M
count_contents_spec =
    tie.close (tie.spec add-words-requires count-continuing-requires returns (λ c. omega arith) (λ c κs. search rules) add-count-psd sub-count-psd
    count-psd-requires add-words-requires-2 count-pieces-requires returns-2)
