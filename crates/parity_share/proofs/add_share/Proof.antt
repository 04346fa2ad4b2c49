-- `parity_share::add_share` meets its contract: a byte's share is the byte times the share of 1.
use native.Mathlib.Omega.{arith}
use mathlib.Core.Path.{sym, ap, ◌∙◌}
use Prim.Native.Nat.{ℕ}
use Rattle.header.specs.Packed.{unpacked, times_all}
use borrow.Author.Rules.{rules}
use Rattle.parity_share.proofs.Places.{in-message, share-added, share-refused}
use Rattle.parity_share.proofs.Linear.{packed-sum}
use Rattle.parity_share.proofs.add_share.Statement.{statement}
use Rattle.parity_share.proofs.add_share.Tie as tie

returns : tie.Need-returns-then-refusal-ne0
returns c =
    let r = c.before.place_refusal-refusal in
    let a = c.before.before.args in
    (r.ensures, share-refused a.parity a.place a.byte (λ z. c.if-refusal-ne0.true (r.ensures ∙ z)))

share-of-one-requires : tie.Need-share_of_one-requires
share-of-one-requires c κs = in-message c.before.before.args.place (sym c.before.place_refusal-refusal.ensures ∙ c.if-refusal-ne0.false)

returns-2 : tie.Need-returns
returns-2 c =
    let w = c.before.before.before.before.wide in
    let o = c.before.before.before.before.before.share_of_one in
    let t = c.before.before.before.before.before.before in
    let r = t.before.place_refusal-refusal in
    let f = t.before.before in
    let a = f.args in (
      r.ensures,
      c.unpack-next.ensures
          ∙ packed-sum a.byte f.ranges.byte.fits a.parity a.place c.before.word.result o.result c.before.before.before.by_byte-share.result
          (omega arith) c.before.word.ensures o.ensures
          (c.before.before.before.by_byte-share.ensures ∙ ap (λ (n : ℕ). times_all n (unpacked o.result)) w.ensures.0)
          ∙ share-added a.parity a.place a.byte (sym r.ensures ∙ t.if-refusal-ne0.false),
    )

pub add_share_spec : {M : Type 1} → statement M
add_share_spec =
    tie.close (tie.spec (λ c κs. search rules) returns share-of-one-requires (λ c κs. search rules) (λ c κs. search rules) (λ c. search rules)
    (λ c κs. search rules) (λ c κs. search rules) returns-2)
