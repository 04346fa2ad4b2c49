-- `snapshot::load` meets its contract.
use native.Mathlib.Omega.{arith}
use mathlib.Core.Path.{sym, ◌∙◌}
use lib.Seq.{length-take-le}
use borrow.Author.Rules.{rules}
use Rattle.snapshot.proofs.Calls.{load-refused, carry-short, words-wrong, load-held, load-rest, load-done}
use Rattle.snapshot.proofs.load.Statement.{statement}
use Rattle.snapshot.proofs.load.Tie as tie

-- where the function begins
abbrev begun : tie.After-place_of-end → tie.Start
begun p = p.before.before.before.before.before.before.before.before.before.before

returns : tie.Need-returns-then-carry-lt4096
returns c =
    let a = c.before.before.before.before.args in
    load-refused a.words.now a.carry.now 2 c.not_loaded.result (carry-short a.words.now a.carry.now (omega arith)) (λ z. omega arith) c.not_loaded.ensures

returns-2 : tie.Need-returns-then-is_wrong
returns-2 c =
    let w = c.before.before in
    let o = w.before.before in
    let a = o.before.before.before.args in
    load-refused a.words.now a.carry.now 25 c.not_loaded-then-is_wrong.result (words-wrong a.words.now a.carry.now (omega arith) (sym w.is_wrong.ensures ∙ c.before.if-is_wrong.true)) (λ z. omega arith) c.not_loaded-then-is_wrong.ensures

slice-aggregate-take-bytes : tie.Need-slice_bounds-take_bytes-end
slice-aggregate-take-bytes c =
    let p = c.before.before in
    sym (length-take-le c.before.place_of-end.result (begun c.before).args.words.now c.before.place_of-end.ensures.1)

take-bytes-requires : tie.Need-take_bytes-requires
take-bytes-requires c κs =
    let p = c.before.before.before in
    let l = p.before in
    let x = l.before.before in
    let w = x.before.before in
    let o = w.before.before in
    let a = (begun c.before.before).args in
    (load-held a.words.now w.receiver_in-r.result c.before.before.before.before.before.has.result l.has-2.result w.receiver_in-r.ensures c.before.before.before.before.before.has.ensures l.has-2.ensures a.carry.now (omega arith) (sym c.before.before.before.before.before.before.before.is_wrong.ensures ∙ x.if-is_wrong.false) c.before.before.before.head_length-from.result c.before.before.before.head_length-from.ensures.0 c.before.before.place_of-end.result c.before.before.place_of-end.ensures.0 c.before.before.place_of-end.ensures.1, load-rest a.words.now w.receiver_in-r.result c.before.before.before.before.before.has.result l.has-2.result w.receiver_in-r.ensures c.before.before.before.before.before.has.ensures l.has-2.ensures a.carry.now (omega arith) (sym c.before.before.before.before.before.before.before.is_wrong.ensures ∙ x.if-is_wrong.false) c.before.before.before.head_length-from.result c.before.before.before.head_length-from.ensures.0 c.before.before.place_of-end.result c.before.before.place_of-end.ensures.0 c.before.before.place_of-end.ensures.1)

returns-3 : tie.Need-returns
returns-3 c =
    let t = c.before.before in
    let p = t.before.before.before.before in
    let l = p.before in
    let x = l.before.before in
    let w = x.before.before in
    let o = w.before.before in
    let a = (begun c.before.before.before.before.before).args in
    load-done a.words.now w.receiver_in-r.result c.before.before.before.before.before.before.before.before.has.result l.has-2.result w.receiver_in-r.ensures c.before.before.before.before.before.before.before.before.has.ensures l.has-2.ensures a.carry.now (omega arith) (sym c.before.before.before.before.before.before.before.before.before.before.is_wrong.ensures ∙ x.if-is_wrong.false) c.before.before.before.before.before.before.head_length-from.result c.before.before.before.before.before.before.head_length-from.ensures.0 c.before.before.before.before.before.place_of-end.result c.before.before.before.before.before.place_of-end.ensures.0 c.before.before.before.before.before.place_of-end.ensures.1 t.take_bytes.new.carry t.take_bytes.ensures

pub load_spec : {M : Type 1} → statement M
load_spec =
    tie.close (tie.spec (λ c κs. search rules) returns (λ c κs. search rules) (λ c κs. search rules) (λ c κs. search rules) returns-2 (λ c κs. search rules)
    (λ c κs. search rules) (λ c κs. search rules) (λ c κs. search rules) slice-aggregate-take-bytes (λ c. search rules) take-bytes-requires (λ c. search rules)
    returns-3)
