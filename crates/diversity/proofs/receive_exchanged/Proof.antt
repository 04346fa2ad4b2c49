use mathlib.Core.Path.{sym, ap₂, subst, ◌∙◌}
use mathlib.Core.List.{List}
use Prim.Native.Nat.{ℕ}
use Rattle.receiver.specs.Steps.{come_of, Takes}
use Rattle.diversity.specs.Steps.{mixed, exchanged}
use Rattle.diversity.proofs.Alike.{parsed-long}
use Rattle.diversity.proofs.Mixing.{mixed-long, mixed-back}
use borrow.Author.Rules.{rules}
use Rattle.diversity.proofs.receive_exchanged.Statement.{statement}
use Rattle.diversity.proofs.receive_exchanged.Tie as tie

receive-parsed-requires : tie.Need-receive_parsed-a-requires
receive-parsed-requires c κs =
    let x = c.before.before.before.before.before.before.before in
    let s = x.before.before.before.before.before.before in
    let a = s.args in
    (s.requires.0, parsed-long a.head a.first.now c.before.before.before.before.before.before.exchange_pieces.new.first a.marks (sym (mixed-long _ _ _ _ c.before.before.before.before.before.before.exchange_pieces.ensures.0)) s.requires.1.0)

exchange-pieces-requires-2 : tie.Need-exchange_pieces-requires-2
exchange-pieces-requires-2 c κs =
    let f = c.before.before.before.before.before.before in
    let x = f.before.before.before.before.before.before.before.before in
    let s = x.before.before.before.before.before.before in
    let a = s.args in
    let one = mixed-long _ _ _ _ c.before.before.before.before.before.before.before.before.before.before.before.before.before.exchange_pieces.ensures.0 in
    let two = mixed-long _ _ _ _ c.before.before.before.before.before.before.before.before.before.before.before.before.before.exchange_pieces.ensures.1 in
    ((parsed-long a.head a.first.now c.before.before.before.before.before.before.before.before.before.before.before.before.before.exchange_pieces.new.first a.marks (sym one) s.requires.1.0).marked, one ∙ s.requires.1.1 ∙ sym two)

returns : tie.Need-returns
returns c =
    let g = c.before.before.before.before in
    let f = g.before.before.before.before.before.before.before in
    let x = f.before.before.before.before.before.before.before.before in
    let s = x.before.before.before.before.before.before in
    let a = s.args in
    let y = a.first.now in
    let z = a.second.now in
    let t = exchanged a.marks a.causes a.head.nop in
    let d = f.receive_parsed-a in
    let e = c.before.before.before.before.before.before.before.before.before.before.before.before.before.before.before.before.before.before.exchange_pieces.ensures in (
      subst (λ (l : List ℕ). Takes a.range (come_of a.head a.marks a.both l) a.r a.carry.now a.log.now d.result d.new.carry d.new.log) e.0 d.ensures,
      (g.exchange_pieces-2.ensures.0 ∙ ap₂ (mixed t) e.0 e.1 ∙ mixed-back t y z, g.exchange_pieces-2.ensures.1 ∙ ap₂ (mixed t) e.1 e.0 ∙ mixed-back t z y),
    )

pub receive_exchanged_spec : {M : Type 1} → statement M
receive_exchanged_spec =
    tie.close (tie.spec (λ c κs. search rules) receive-parsed-requires exchange-pieces-requires-2 (λ c. search rules) (λ c. search rules) (λ c. search rules)
    (λ c. search rules) returns)
