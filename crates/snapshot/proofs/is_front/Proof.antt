use native.Mathlib.Omega.{arith}
use mathlib.Core.Path.{◌≡◌, sym, ap, ◌∙◌}
use borrow.Author.Rules.{rules}
use mathlib.Core.List.{List}
use Prim.Native.Nat.{ℕ}
use lib.ListN.{length, take}
use Rattle.snapshot.specs.Snapshot.{head_words}
use Rattle.snapshot.specs.Steps.{kinds}
use Rattle.snapshot.proofs.Calls.{head_few, taken_back, front-not, front-yes}
use Rattle.snapshot.proofs.is_front.Statement.{statement}
use Rattle.snapshot.proofs.is_front.Tie as tie

-- the receiver's first words, and what was written
abbrev head : tie.Start → List ℕ
head s = head_words (kinds s.args.register s.args.programs) s.args.r

abbrev begun : tie.After-put_head-n → tie.Start
begun p = p.before.before.before

written : (p : tie.After-put_head-n) → take p.put_head-n.result p.put_head-n.new.words ≡ head (begun p)
written p = taken_back _ p.put_head-n.new.words (head (begun p)) p.put_head-n.result p.put_head-n.ensures.0 p.put_head-n.ensures.1

put-head-requires : tie.Need-put_head-n-requires
put-head-requires c κs = head_few (kinds c.before.before.args.register c.before.before.args.programs) c.before.before.args.r

array-share-prefix-head : tie.Need-slice_bounds-head-end
array-share-prefix-head c =
    let s = begun c.before in
    omega (arith, c.before.put_head-n.ensures.0, c.before.put_head-n.auto.words, head_few (kinds s.args.register s.args.programs) s.args.r)

slice-aggregate-begins : tie.Need-slice_bounds-begins-end
slice-aggregate-begins c =
    let p = c.before.before in
    p.put_head-n.ensures.0 ∙ ap length (sym (written p))

returns : tie.Need-returns-then-not-begins
returns c =
    let g = c.before in
    let p = g.before.before.before in
    let a = (begun p).args in
    front-not a.words.now (kinds a.register a.programs) a.r (take p.put_head-n.result p.put_head-n.new.words) (written p) g.begins.result g.begins.ensures (c.if-not-begins.true)

returns-2 : tie.Need-returns
returns-2 c =
    let g = c.before.before.before in
    let p = g.before.before.before in
    let a = (begun p).args in
    front-yes a.words.now (kinds a.register a.programs) a.r (take p.put_head-n.result p.put_head-n.new.words) (written p) g.begins.result g.begins.ensures p.put_head-n.result c.is_rest.result (c.before.before.if-not-begins.false) p.put_head-n.ensures.0 c.is_rest.ensures

pub is_front_spec : {M : Type 1} → statement M
is_front_spec =
    tie.close (tie.spec (λ c. search rules) put-head-requires array-share-prefix-head slice-aggregate-begins (λ c κs. search rules) returns (λ c. search rules)
    (λ c κs. search rules) returns-2)
