use borrow.Author.Rules.{rules}
use native.Mathlib.Omega.{arith}
use mathlib.Core.Path.{◌≡◌, ap, sym, ◌∙◌}
use Prim.Native.Nat.{ℕ, ◌+◌, ◌-◌, ◌≤◌, ◌<◌}
use lib.ListN.{length}
use mathlib.Core.List.{List}
use mathlib.Core.Path.{subst}
use Prim.Native.Nat.{◌/◌}
use Rattle.expansion.specs.Expansion.{septets_at, interpreted_as, fields_from, more_bytes}
use Rattle.expansion.specs.declared.Interpreted.{Interpreted}
use Rattle.expansion.proofs.Interpreting.{Left, left-start, left_end, left-order, left-unknown, left-class-zero, left_cut, left-next}
use Rattle.expansion.proofs.interpret.Statement.{statement}
use Rattle.expansion.proofs.interpret.Tie as tie

abbrev invariant-loop : tie.invariant-loop-i
invariant-loop pdu at n v₀ next₀ i₀ v next i = (i ≤ n) × Left (septets_at pdu at n) v next i

abbrev decreases-loop : tie.decreases-loop-i
decreases-loop pdu at n v₀ next₀ i₀ v next i = n - i

abbrev septets : tie.Start invariant-loop decreases-loop → List ℕ
septets c = septets_at c.args.pdu.now c.args.at c.args.n

inside : (c : tie.After-septet-b invariant-loop decreases-loop) → c.before.before.loop-i.i < length (septets c.before.before.before.before.before)
inside c = omega (arith, c.before.before.before.before.before.requires.1, c.before.loop-i-test.true)

loop-holds : tie.Need-loop-i-init invariant-loop decreases-loop
loop-holds c =
    (omega arith, ap (λ (v : Interpreted). interpreted_as v (fields_from 0 0 (septets c.before.before))) c.nothing-v.ensures ∙ left-start (septets c.before.before))

returns : tie.Need-returns-then-id-next invariant-loop decreases-loop
returns c =
    let s = c.before.before in
    let p = s.before.before in
    c.nothing.ensures ∙ left-order (septets p.before.before.before) _ _ _ _ (inside s) p.loop-i.invariant.1 s.septet-b.ensures.0 c.before.if-id-next.true

returns-2 : tie.Need-returns-then-not-known invariant-loop decreases-loop
returns-2 c =
    let e = c.before.before in
    let s = e.before in
    let p = s.before.before in
    left-unknown (septets p.before.before.before) _ _ _ _ (inside s) p.loop-i.invariant.1 s.septet-b.ensures.0 e.if-id-next.false (sym c.before.known.ensures ∙ c.if-not-known.true)

returns-3 : tie.Need-returns-then-b-eq0 invariant-loop decreases-loop
returns-3 c =
    let k = c.before.before.before in
    let e = k.before in
    let s = e.before in
    let p = s.before.before in
    c.nothing-then-b-eq0.ensures
    ∙ left-class-zero (septets p.before.before.before) _ _ _ _ (inside s) p.loop-i.invariant.1 s.septet-b.ensures.0 e.if-id-next.false
    (sym k.known.ensures ∙ c.before.before.if-not-known.false) c.before.if-b-eq0.true

returns-4 : tie.Need-returns-then-n-i invariant-loop decreases-loop
returns-4 c =
    let m = c.before.before in
    let z = m.before in
    let k = z.before.before in
    let e = k.before in
    let s = e.before in
    let p = s.before.before in
    c.nothing-then-n-i.ensures
    ∙ left_cut (septets p.before.before.before) _ _ _ _ (inside s) p.loop-i.invariant.1 s.septet-b.ensures.0 e.if-id-next.false
    (sym k.known.ensures ∙ z.before.if-not-known.false) z.if-b-eq0.false
    (omega (arith, c.before.if-n-i.true, m.more_bytes-m.ensures.0, p.before.before.before.requires.1))

add-i : tie.Need-overflow_add-i-in-loop-i-5 invariant-loop decreases-loop
add-i c =
    let m = c.before.before.before.before.before in
    let s = m.before.before.before.before.before in
    let p = s.before.before in
    omega (arith, p.before.before.before.requires.0.1, s.before.loop-i-test.true, m.more_bytes-m.ensures.1)

add-i-2 : tie.Need-overflow_add-i-in-loop-i-6 invariant-loop decreases-loop
add-i-2 c =
    let m = c.before.before.before.before.before in
    let s = m.before.before.before.before.before in
    let p = s.before.before in
    omega (arith, p.before.before.before.requires.0.1, s.before.loop-i-test.true, m.more_bytes-m.ensures.1)

loop-less : tie.Need-loop-i-smaller invariant-loop decreases-loop
loop-less c =
    let m = c.before.before.before.before.before in
    let s = m.before.before.before.before.before in
    let p = s.before.before in
    omega (arith, p.before.before.before.requires.0.1, s.before.loop-i-test.true, m.more_bytes-m.ensures.1)

loop-again : tie.Need-loop-i-preserved invariant-loop decreases-loop
loop-again c =
    let f = c.before.before.before.before in
    let m = f.before in
    let z = m.before in
    let k = z.before.before in
    let e = k.before in
    let s = e.before in
    let p = s.before.before in
    let n : f.before.more_bytes-m.result ≡ more_bytes (s.septet-b.result / 16) s.septet-b.result = m.more_bytes-m.ensures.0 in
    let h : p.loop-i.i + 1 + m.more_bytes-m.result ≤ p.before.before.before.args.n = f.if-n-i.false in (
      h,
      subst (λ (x : ℕ). Left (septets p.before.before.before) c.absorbed-w.result (s.septet-b.result / 16 + 1) (p.loop-i.i + 1 + x)) (sym n)
          (left-next (septets p.before.before.before) _ _ _ _ (inside s) p.loop-i.invariant.1 s.septet-b.ensures.0 e.if-id-next.false
          (sym k.known.ensures ∙ z.before.if-not-known.false) z.if-b-eq0.false
          (omega (arith, h, n, p.before.before.before.requires.1)) _ _ _ c.before.before.before.septet-r0.ensures.0 c.before.before.septet-r1.ensures.0 c.before.septet-r2.ensures.0
          _ c.absorbed-w.ensures),
    )

returns-5 : tie.Need-returns invariant-loop decreases-loop
returns-5 c =
    left_end (septets c.before.before.before.before) _ _ c.before.loop-i.i (omega (arith, c.before.before.before.before.requires.1)) c.before.loop-i.invariant.1

pub interpret_spec : {M : Type 1} → statement M
interpret_spec =
    tie.close (tie.spec invariant-loop decreases-loop
    (λ c κs. search rules) loop-holds (λ c κs. search rules) (λ c κs. search rules) returns (λ c κs. search rules) returns-2 (λ c κs. search rules) returns-3
    (λ c κs. search rules) (λ c. search rules) (λ c. search rules) (λ c κs. search rules) returns-4 (λ c. search rules) (λ c κs. search rules)
    (λ c. search rules) (λ c κs. search rules) (λ c. search rules) (λ c κs. search rules) (λ c κs. search rules) (λ c. search rules) add-i add-i-2 loop-less
    loop-again returns-5)
