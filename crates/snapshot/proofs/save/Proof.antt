-- `snapshot::save` meets its contract.
use native.Mathlib.Omega.{arith}
use mathlib.Core.Path.{◌≡◌, sym}
use Prim.Native.Nat.{◌+◌, ◌/◌}
use lib.ListN.{length, take}
use Rattle.snapshot.proofs.Calls.{save-early, save-short, save-late, held_fits, bytes_count, saved-length, save-refused, save-done}
use borrow.Author.Rules.{rules}
use Rattle.snapshot.proofs.save.Statement.{statement}
use Rattle.snapshot.proofs.save.Tie as tie

-- what was known where the words are counted, and where the state was judged
abbrev counted : tie.After-put_head-at → tie.After-counts_length
counted p = p.before.before.before

abbrev state : tie.After-counts_length → tie.After-state_refusal-n
state n = n.before.before.before.before

abbrev begun : tie.After-state_refusal-n → tie.Start
begun q = q.before.before.before

-- the held bytes are there
held : (n : tie.After-counts_length) → length (take (begun (state n)).args.r.held (begun (state n)).args.carry.now) ≡ (begun (state n)).args.r.held
held n =
    let q = state n in
    let a = (begun q).args in
    held_fits a.carry.now a.words.now a.r q.state_refusal-n.result q.state_refusal-n.ensures n.before.before.before.if-n-ne0.false

returns : tie.Need-returns-then-n-ne0
returns c =
    let q = c.before.before in
    let a = q.before.before.before.args in
    save-refused a.carry.now a.words.now a.r q.state_refusal-n.result c.not_saved.result (save-early a.carry.now a.words.now a.r q.state_refusal-n.result q.state_refusal-n.ensures c.before.if-n-ne0.true) c.before.if-n-ne0.true c.not_saved.ensures

returns-2 : tie.Need-returns-then-words-count
returns-2 c =
    let n = c.before.before in
    let q = state n in
    let a = (begun q).args in
    save-refused a.carry.now a.words.now a.r 26 c.not_saved-then-words-count.result (save-short a.carry.now a.words.now a.r q.state_refusal-n.result q.state_refusal-n.ensures n.before.before.before.if-n-ne0.false (omega (arith, c.before.if-words-count.true, n.before.head_length-head.ensures.0, n.counts_length.ensures.0))) (λ z. omega arith) c.not_saved-then-words-count.ensures

slice-aggregate-put-bytes : tie.Need-slice_bounds-put_bytes-end
slice-aggregate-put-bytes c = sym (held (counted c.before.before.before))

put-bytes-requires : tie.Need-put_bytes-requires
put-bytes-requires c κs =
    let p = c.before.before.before.before in
    let n = counted c.before.before.before in
    omega (arith, c.before.before.before.put_head-at.ensures.0, c.before.before.before.put_head-at.auto.words, n.before.head_length-head.ensures.0, p.before.if-words-count.false, held n)

put-counts-requires : tie.Need-put_counts-requires
put-counts-requires c κs =
    let b = c.before.before.before in
    let p = b.before.before.before.before.before in
    let n = counted c.before.before.before.before.before.before.before in
    omega (arith, c.before.before.before.before.before.before.before.put_head-at.ensures.0, c.before.before.before.before.before.before.before.put_head-at.auto.words, b.put_bytes.auto.words, n.before.head_length-head.ensures.0, n.counts_length.ensures.0, p.before.if-words-count.false)

returns-3 : tie.Need-returns
returns-3 c =
    let k = c.before.before in
    let b = k.before.before.before.before in
    let p = b.before.before.before.before.before in
    let n = counted c.before.before.before.before.before.before.before.before.before.before in
    let q = state n in
    let a = (begun q).args in
    let h = n.before.head_length-head in
    let l = p.before.if-words-count.false in
    let z = n.before.before.before.if-n-ne0.false in
    let w = bytes_count a.carry.now a.words.now a.r q.state_refusal-n.result q.state_refusal-n.ensures z in
    save-done a.carry.now a.words.now a.r c.before.before.before.before.before.before.before.before.before.before.put_head-at.new.words b.put_bytes.new.words k.put_counts.new.words c.before.before.before.before.before.before.before.before.before.before.put_head-at.result (c.before.before.before.before.before.before.before.before.before.before.put_head-at.result + (a.r.held + 2) / 3)
    (omega (arith, l, h.ensures.0, c.before.before.before.before.before.before.before.before.before.before.put_head-at.ensures.0))
    c.before.before.before.before.before.before.before.before.before.before.put_head-at.ensures.0
    (omega (arith, w))
    c.before.before.before.before.before.before.before.before.before.before.put_head-at.ensures.1
    b.put_bytes.ensures
    k.put_counts.ensures
    (h.result + (a.r.held + 2) / 3 + n.counts_length.result)
    (save-late a.carry.now a.words.now a.r q.state_refusal-n.result q.state_refusal-n.ensures z (omega (arith, l, h.ensures.0, n.counts_length.ensures.0)))
    (omega (arith, h.ensures.0, n.counts_length.ensures.0, saved-length a.carry.now a.words.now a.r q.state_refusal-n.result q.state_refusal-n.ensures z))

pub save_spec : {M : Type 1} → statement M
save_spec =
    tie.close (tie.spec (λ c κs. search rules) (λ c κs. search rules) returns (λ c. search rules) (λ c κs. search rules) (λ c. search rules) (λ c. search rules)
    (λ c κs. search rules) (λ c. search rules) (λ c κs. search rules) returns-2 (λ c κs. search rules) slice-aggregate-put-bytes put-bytes-requires
    (λ c. search rules) put-counts-requires (λ c. search rules) (λ c. search rules) returns-3)
