use mathlib.Core.Path.{◌∙◌}
use native.Mathlib.Omega.{arith}
use Rattle.reassembly.proofs.Counts.{none-counted, no-piece-counted, piece-counted, count_small, bounded-more}
use borrow.Author.Rules.{rules}
use Rattle.reassembly.proofs.count_continuing.Statement.{statement}
use Rattle.reassembly.proofs.count_continuing.Tie as tie

returns : tie.Need-returns-then-held-eq0
returns c =
    let a = c.before.args in
    none-counted a.head a.marks a.causes a.held a.x c.if-held-eq0.true

returns-2 : tie.Need-returns-then-head-eq0
returns-2 c =
    let a = c.before.before.before.args in
    no-piece-counted a.head a.marks a.causes a.held a.x c.before.before.if-held-eq0.false c.if-head-eq0.true

add_a : tie.Need-overflow_add-a
add_a c = search rules

sub-count-piece : tie.Need-overflow_sub-e
sub-count-piece c =
    let p = c.before.before.before.before.before.before.before in
    let some = c.before.before.before.before.if-head-eq0.false in
    omega (arith, p.requires.1 0 (omega (arith, some)), c.before.before.before.from-a.ensures, c.before.before.from-e.ensures)

count-piece-requires : tie.Need-count_piece-p-requires
count-piece-requires c κs =
    let p = c.before.before.before.before.before.before.before in
    (search rules, p.requires.0.0)

add-piece-requires : tie.Need-add_piece-requires
add-piece-requires c κs =
    let p = c.before.before.before.before.before.before.before.before.before in
    let t = c.before.count_piece-p in
    (bounded-more 0 63 p.args.x (omega arith) p.requires.0.2, rw t.ensures (count_small _ _ _ _ _).0)

returns-3 : tie.Need-returns
returns-3 c =
    let k = c.before.before in
    let n = k.before in
    let e = n.before.before in
    let l = e.before in
    let p = l.before.before.before.before in
    let a = p.args in
    let t = k.count_piece-p in
    let q = c.before.piece_number-n in
    c.add_piece.ensures
    ∙ piece-counted a.head a.marks a.causes a.held a.x l.before.before.before.if-held-eq0.false l.before.if-head-eq0.false l.from-a.result e.from-e.result q.result n.ends_here-ends.result l.from-a.ensures e.from-e.ensures n.ends_here-ends.ensures t.result t.ensures q.ensures

pub count_continuing_spec : {M : Type 1} → statement M
count_continuing_spec =
    tie.close (tie.spec returns returns-2 (λ c. omega arith) (λ c κs. search rules) add_a (λ c. omega arith) (λ c κs. search rules) (λ c. search rules)
    (λ c κs. search rules) (λ c. omega arith) sub-count-piece count-piece-requires (λ c κs. omega arith) add-piece-requires returns-3)
