use native.Mathlib.Omega.{arith}
use mathlib.Core.Path.{◌≡◌, ap, sym, ◌∙◌}
use Prim.Native.Nat.{ℕ, ◌-◌}
use borrow.Author.Rules.{rules}
use mathlib.Core.Bool.{true, false}
use lib.Dec.{leb, ltb}
use borrow.Author.Tests.{lt-ltb, le-ltb, le-leb, lt-leb, not-true, not-false}
use Rattle.expansion.specs.declared.Interpreted.{Interpreted}
use Rattle.pdu.specs.Reading.{fields_of, wrong_locator, any_below, wrong_flags, wrong_la, wrong_displacement}
use Rattle.pdu.proofs.Lowest.{any-lowest}
use Rattle.pdu.proofs.Numbers.{number-7, number-8, number-9, number-10, number-11, number-12, number-0}
use Rattle.pdu.proofs.judge.Statement.{statement}
use Rattle.pdu.proofs.judge.Tie as tie

sequence-right : (e : tie.Else-m-c) → leb e.before.before.before.before.args.m.sequences e.before.before.before.before.args.c.sequence ≡ false
sequence-right e = lt-leb e.before.before.before.before.args.m.sequences e.before.before.before.before.args.c.sequence (omega (arith, e.if-m-c.false))

flags-right : (e : tie.Else-wrong_flags) → wrong_flags e.before.before.before.before.before.before.args.c ≡ false
flags-right e = sym e.before.wrong_flags.ensures ∙ e.if-wrong_flags.false

la-right : (e : tie.Else-wrong_la) → wrong_la e.before.before.before.before.before.before.before.before.args.m.width e.before.before.before.before.before.before.before.before.args.c e.before.before.before.before.before.before.before.before.args.y.now ≡ false
la-right e = sym e.before.wrong_la.ensures ∙ e.if-wrong_la.false

fields-same : (e : tie.After-struct_known-3-1)
    → e.before.before.expansion_of-x.result.values ≡ fields_of e.before.before.before.before.before.before.before.before.before.before.before.args.m.width e.before.before.before.before.before.before.before.before.before.before.before.args.c e.before.before.before.before.before.before.before.before.before.before.before.args.y.now
fields-same e = e.before.before.expansion_of-x.ensures.2

fields-right : (e : tie.Else-not-fields) → (fields_of e.before.before.before.before.before.before.before.before.before.before.before.before.args.m.width e.before.before.before.before.before.before.before.before.before.before.before.before.args.c e.before.before.before.before.before.before.before.before.before.before.before.before.args.y.now).right ≡ true
fields-right e = ap (λ (x : Interpreted). x.right) (sym (fields-same e.before)) ∙ not-false _ e.if-not-fields.false

none-wrong : (e : tie.Else-k-c) → any_below e.before.before.before.before.before.before.before.before.before.before.before.before.before.before.before.args.c.nop (wrong_locator e.before.before.before.before.before.before.before.before.before.before.before.before.before.before.before.args.m.width e.before.before.before.before.before.before.before.before.before.before.before.before.before.before.before.args.c e.before.before.before.before.before.before.before.before.before.before.before.before.before.before.before.args.y.now) ≡ false
none-wrong e =
    let a = e.before.before.before.before.before.before.before.before.before.before.before.before.before.before.before.args in
    let w = e.before.before.first_wrong-k in
    any-lowest (wrong_locator a.m.width a.c a.y.now) a.c.nop ∙ ap (λ (k : ℕ). ltb k a.c.nop) (sym w.ensures) ∙ le-ltb w.result a.c.nop e.if-k-c.false

returns : tie.Need-returns-then-m-c
returns c = let a = c.before.before.before.before.before.args in number-7 a.m a.c a.y.now (le-leb a.m.sequences a.c.sequence (omega (arith, c.before.if-m-c.true))) _ _ c.plain.ensures.0 c.plain.ensures.1

returns-2 : tie.Need-returns-then-wrong_flags
returns-2 c = let a = c.before.before.before.before.before.before.before.args in
    let e1 = c.before.before.before in
    number-8 a.m a.c a.y.now (sequence-right e1) (sym c.before.before.wrong_flags.ensures ∙ c.before.if-wrong_flags.true) _ _ c.plain-then-wrong_flags.ensures.0 c.plain-then-wrong_flags.ensures.1

returns-3 : tie.Need-returns-then-wrong_la
returns-3 c = let a = c.before.before.before.before.before.before.before.before.before.args in
    let e2 = c.before.before.before in
    number-9 a.m a.c a.y.now (sequence-right e2.before.before) (flags-right e2) (sym c.before.before.wrong_la.ensures ∙ c.before.if-wrong_la.true) _ _ c.plain-then-wrong_la.ensures.0 c.plain-then-wrong_la.ensures.1

returns-4 : tie.Need-returns-then-not-fields
returns-4 c = let a = c.before.before.before.before.before.before.before.before.before.before.before.before.before.args in
    let e3 = c.before.before.before.before.before in
    let e2 = e3.before.before in
    number-10 a.m a.c a.y.now (sequence-right e2.before.before) (flags-right e2) (la-right e3)
    (ap (λ (x : Interpreted). x.right) (sym (fields-same c.before.before)) ∙ not-true _ c.before.if-not-fields.true) _ _ c.plain-then-not-fields.ensures.0 c.plain-then-not-fields.ensures.1

returns-5 : tie.Need-returns-then-k-c
returns-5 c = let a = c.before.before.before.before.before.before.before.before.before.before.before.before.before.before.before.args in
    let e4 = c.before.before.before in
    let e3 = e4.before.before.before.before in
    let e2 = e3.before.before in
    let w = c.before.before.first_wrong-k in
    number-11 a.m a.c a.y.now (sequence-right e2.before.before) (flags-right e2) (la-right e3) (fields-right e4)
    (any-lowest (wrong_locator a.m.width a.c a.y.now) a.c.nop ∙ ap (λ (k : ℕ). ltb k a.c.nop) (sym w.ensures) ∙ lt-ltb w.result a.c.nop c.if-k-c.true) w.result w.ensures

returns-6 : tie.Need-returns-then-wrong_displacement
returns-6 c = let a = c.before.before.before.before.before.before.before.before.before.before.before.before.before.before.before.before.before.before.args in
    let e5 = c.before.before.before in
    let e4 = e5.before.before.before in
    let e3 = e4.before.before.before.before in
    let e2 = e3.before.before in
    number-12 a.m a.c a.y.now (sequence-right e2.before.before) (flags-right e2) (la-right e3) (fields-right e4) (none-wrong e5)
    (ap (wrong_displacement a.m.width a.c a.y.now) (sym (fields-same e4.before)) ∙ sym c.before.before.wrong_displacement.ensures ∙ c.before.if-wrong_displacement.true) _ _ c.plain-then-wrong_displacement.ensures.0 c.plain-then-wrong_displacement.ensures.1

returns-7 : tie.Need-returns
returns-7 c = let a = c.before.before.before.before.before.before.before.before.before.before.before.before.before.before.before.before.before.before.args in
    let e5 = c.before.before.before in
    let e4 = e5.before.before.before in
    let e3 = e4.before.before.before.before in
    let e2 = e3.before.before in
    number-0 a.m a.c a.y.now (sequence-right e2.before.before) (flags-right e2) (la-right e3) (fields-right e4) (none-wrong e5)
    (ap (wrong_displacement a.m.width a.c a.y.now) (sym (fields-same e4.before)) ∙ sym c.before.before.wrong_displacement.ensures ∙ c.before.if-wrong_displacement.false) _ _ c.plain-2.ensures.0 c.plain-2.ensures.1

pub judge_spec : {M : Type 1} → statement M
judge_spec =
    tie.close (tie.spec (λ c κs. search rules) returns (λ c κs. search rules) (λ c κs. search rules) returns-2 (λ c κs. search rules) (λ c κs. search rules)
    returns-3 (λ c κs. search rules) (λ c κs. search rules) returns-4 (λ c κs. search rules) returns-5 (λ c κs. search rules) (λ c κs. search rules) returns-6
    (λ c κs. search rules) returns-7)
