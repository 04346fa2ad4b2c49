use native.Mathlib.Omega.{arith}
use mathlib.Core.Path.{◌≡◌, refl, sym, ap, ◌∙◌}
use mathlib.Core.List.{List}
use Prim.Native.Nat.{ℕ, ◌-◌}
use lib.ListN.{length, drop, length-drop}
use lib.Seq.{take_all, length-take-le}
use borrow.Author.Rules.{rules}
use Rattle.packet_log.specs.Log.{same_list}
use Rattle.snapshot.specs.Snapshot.{count_words}
use Rattle.snapshot.proofs.Calls.{form-not, form-yes}
use Rattle.snapshot.proofs.is_form.Statement.{statement}
use Rattle.snapshot.proofs.is_form.Tie as tie

-- the words from the place on
counts-test : (c : tie.After-is_counts)
    → c.is_counts.result ≡ same_list (count_words c.before.before.before.before.args.r) (drop c.before.before.place_of-end.result c.before.before.before.before.args.words.now)
counts-test c =
    let p = c.before.before in
    let a = p.before.before.args in
    let e : List ℕ = drop p.place_of-end.result a.words.now in
    c.is_counts.ensures ∙ ap (same_list (count_words a.r)) (take_all (length a.words.now - p.place_of-end.result) e (omega (arith, length-drop p.place_of-end.result a.words.now)))

returns : tie.Need-returns-then-not-is_counts
returns c =
    let q = c.before in
    let p = q.before.before in
    let s = p.before.before in
    form-not s.args.words.now s.args.r _ _ s.requires refl refl p.place_of-end.result p.place_of-end.ensures.0 p.place_of-end.ensures.1 q.is_counts.result (counts-test q) (c.if-not-is_counts.true)

slice-aggregate-is-front : tie.Need-slice_bounds-is_front-end
slice-aggregate-is-front c =
    let p = c.before.before.before.before in
    sym (length-take-le c.before.before.before.place_of-end.result p.before.args.words.now c.before.before.before.place_of-end.ensures.1)

returns-2 : tie.Need-returns
returns-2 c =
    let h = c.before in
    let d = h.before.before.before in
    let q = d.before in
    let p = q.before.before in
    let s = p.before in
    form-yes s.args.words.now s.args.r h.before.has.result h.has-2.result s.requires h.before.has.ensures h.has-2.ensures c.before.before.before.before.before.before.place_of-end.result c.before.before.before.before.before.before.place_of-end.ensures.0 c.before.before.before.before.before.before.place_of-end.ensures.1 c.before.before.before.before.is_counts.result (counts-test c.before.before.before.before) c.is_front.result (c.before.before.before.if-not-is_counts.false) c.is_front.ensures

pub is_form_spec : {M : Type 1} → statement M
is_form_spec =
    tie.close (tie.spec (λ c κs. search rules) (λ c. search rules) (λ c. search rules) (λ c. search rules) (λ c. search rules) (λ c κs. search rules) returns
    slice-aggregate-is-front (λ c κs. search rules) (λ c κs. search rules) (λ c κs. search rules) returns-2)
