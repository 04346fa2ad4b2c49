use native.Mathlib.Omega.{arith}
use mathlib.Core.Path.{◌≡◌, sym, ap, ◌∙◌}
use lib.ListN.{length, take}
use borrow.Author.Rules.{rules}
use Rattle.snapshot.specs.Snapshot.{count_words}
use Rattle.snapshot.specs.Steps.{begins_with}
use Rattle.snapshot.proofs.Calls.{taken_back}
use Rattle.snapshot.proofs.Counts.{counts-few}
use Rattle.snapshot.proofs.Reading.{same-begins, same_not}
use Rattle.snapshot.proofs.is_counts.Statement.{statement}
use Rattle.snapshot.proofs.is_counts.Tie as tie

abbrev begun : tie.After-counts_length-n → tie.Start
begun c = c.before.before.before.before.before

-- the words that were written
written : (c : tie.After-counts_length-n) → take c.counts_length-n.result c.before.before.put_counts.new.words ≡ count_words (begun c).args.r
written c = taken_back _ c.before.before.put_counts.new.words (count_words (begun c).args.r) c.counts_length-n.result c.counts_length-n.ensures.0 c.before.before.put_counts.ensures

put-counts-requires : tie.Need-put_counts-requires
put-counts-requires c κs = omega (arith, counts-few c.before.before.args.r)

returns : tie.Need-returns-then-words-n
returns c =
    let n = c.before in
    let a = (begun n).args in
    same_not (count_words a.r) a.words.now (λ e. omega (arith, c.if-words-n.true, n.counts_length-n.ensures.0))

slice-aggregate-begins : tie.Need-slice_bounds-begins-end
slice-aggregate-begins c =
    let n = c.before.before in
    n.counts_length-n.ensures.0 ∙ ap length (sym (written n))

returns-2 : tie.Need-returns
returns-2 c =
    let n = c.before.before.before in
    let a = (begun n).args in
    c.begins.ensures
    ∙ ap (λ l. begins_with l a.words.now) (written n)
    ∙ same-begins (count_words a.r) a.words.now (omega (arith, c.before.before.if-words-n.false, n.counts_length-n.ensures.0))

pub is_counts_spec : {M : Type 1} → statement M
is_counts_spec =
    tie.close (tie.spec (λ c. search rules) put-counts-requires (λ c κs. search rules) returns (λ c. search rules) slice-aggregate-begins (λ c κs. search rules)
    returns-2)
