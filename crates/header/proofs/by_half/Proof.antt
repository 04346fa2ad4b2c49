-- `header::by_half` meets its contract: the word times 1, 2, 4 and 8, and sums of these.
use native.Mathlib.Omega.{arith}
use mathlib.Core.Path.{◌≡◌, ap, sym, ◌∙◌}
use Prim.Native.Nat.{ℕ, ◌+◌, ◌≤◌}
use borrow.Author.Rules.{rules}
use lib.Dec.{lit<}
use Rattle.field.specs.Field.{times_a}
use Rattle.header.specs.Packed.{unpacked, times_all}
use Rattle.header.proofs.Lanes.{none, once, twice, joined}
use Rattle.header.proofs.by_half.Statement.{statement}
use Rattle.header.proofs.by_half.Tie as tie

abbrev w : tie.After-doubled-d → ℕ
w p = p.before.before.before.args.w

one : (p : tie.After-doubled-d) → unpacked (w p) ≡ times_all 1 (unpacked (w p))
one p = once (w p)

two : (p : tie.After-doubled-d) → unpacked p.before.before.doubled-b.result ≡ times_all 2 (unpacked (w p))
unfolding times_a
two p = twice (w p) (w p) p.before.before.doubled-b.result 1 (lit< tt) p.before.before.doubled-b.ensures (one p)

four : (p : tie.After-doubled-d) → unpacked p.before.doubled-c.result ≡ times_all 4 (unpacked (w p))
unfolding times_a
four p = twice (w p) p.before.before.doubled-b.result p.before.doubled-c.result 2 (lit< tt) p.before.doubled-c.ensures (two p)

eight : (p : tie.After-doubled-d) → unpacked p.doubled-d.result ≡ times_all 8 (unpacked (w p))
unfolding times_a
eight p = twice (w p) p.before.doubled-c.result p.doubled-d.result 4 (lit< tt) p.doubled-d.ensures (four p)

past : (n a : ℕ) → a ≤ n → (n ≡ a → ⊥) → a + 1 ≤ n
past n a h e = omega arith

fifteen : (c : tie.In_default) → c.before.before.before.before.args.n ≡ 15
fifteen c =
    let n = c.before.before.before.before.args.n in
    let h : 15 ≤ n = past n 14 (past n 13 (past n 12 (past n 11 (past n 10 (past n 9 (past n 8 (past n 7 (past n 6 (past n 5 (past n 4 (past n 3 (past n 2 (past n 1 (past n 0 (omega arith) c.in_default.in_default-own.rest.0.0.0.0.0.0.0.0.0.0.0.0.0.0.1) c.in_default.in_default-own.rest.0.0.0.0.0.0.0.0.0.0.0.0.0.1) c.in_default.in_default-own.rest.0.0.0.0.0.0.0.0.0.0.0.0.1) c.in_default.in_default-own.rest.0.0.0.0.0.0.0.0.0.0.0.1) c.in_default.in_default-own.rest.0.0.0.0.0.0.0.0.0.0.1) c.in_default.in_default-own.rest.0.0.0.0.0.0.0.0.0.1) c.in_default.in_default-own.rest.0.0.0.0.0.0.0.0.1) c.in_default.in_default-own.rest.0.0.0.0.0.0.0.1) c.in_default.in_default-own.rest.0.0.0.0.0.0.1) c.in_default.in_default-own.rest.0.0.0.0.0.1) c.in_default.in_default-own.rest.0.0.0.0.1) c.in_default.in_default-own.rest.0.0.0.1) c.in_default.in_default-own.rest.0.0.1) c.in_default.in_default-own.rest.0.1) c.in_default.in_default-own.rest.1 in
    omega (arith, h)

-- one arm of the match: the half byte is k, and the result the word times k
arm : (p : tie.After-doubled-d) (x k n : ℕ) → n ≡ k → unpacked x ≡ times_all k (unpacked (w p)) → unpacked x ≡ times_all n (unpacked (w p))
arm p x k n e h = h ∙ ap (λ (m : ℕ). times_all m (unpacked (w p))) (sym e)

returns-14 : tie.Need-returns-in-13
returns-14 c = let p = c.before in arm p _ 13 _ c.in-13.is (joined (w p) _ _ 12 1 (joined (w p) _ _ 8 4 (eight p) (four p)) (one p))

pub by_half_spec : {M : Type 1} → statement M
by_half_spec =
    tie.close (tie.spec (λ c κs. search rules) (λ c κs. search rules) (λ c κs. search rules)
    (λ c. let p = c.before in arm p _ 0 _ c.in-0.is (none (w p)))
    (λ c. let p = c.before in arm p _ 1 _ c.in-1.is (one p))
    (λ c. let p = c.before in arm p _ 2 _ c.in-2.is (two p))
    (λ c. let p = c.before in arm p _ 3 _ c.in-3.is (joined (w p) _ _ 2 1 (two p) (one p)))
    (λ c. let p = c.before in arm p _ 4 _ c.in-4.is (four p))
    (λ c. let p = c.before in arm p _ 5 _ c.in-5.is (joined (w p) _ _ 4 1 (four p) (one p)))
    (λ c. let p = c.before in arm p _ 6 _ c.in-6.is (joined (w p) _ _ 4 2 (four p) (two p)))
    (λ c. let p = c.before in arm p _ 7 _ c.in-7.is (joined (w p) _ _ 6 1 (joined (w p) _ _ 4 2 (four p) (two p)) (one p)))
    (λ c. let p = c.before in arm p _ 8 _ c.in-8.is (eight p))
    (λ c. let p = c.before in arm p _ 9 _ c.in-9.is (joined (w p) _ _ 8 1 (eight p) (one p)))
    (λ c. let p = c.before in arm p _ 10 _ c.in-10.is (joined (w p) _ _ 8 2 (eight p) (two p)))
    (λ c. let p = c.before in arm p _ 11 _ c.in-11.is (joined (w p) _ _ 10 1 (joined (w p) _ _ 8 2 (eight p) (two p)) (one p)))
    (λ c. let p = c.before in arm p _ 12 _ c.in-12.is (joined (w p) _ _ 8 4 (eight p) (four p)))
    returns-14
    (λ c. let p = c.before in arm p _ 14 _ c.in-14.is (joined (w p) _ _ 12 2 (joined (w p) _ _ 8 4 (eight p) (four p)) (two p)))
    (λ c. let p = c.before in arm p _ 15 _ (fifteen c)
    (joined (w p) _ _ 14 1 (joined (w p) _ _ 12 2 (joined (w p) _ _ 8 4 (eight p) (four p)) (two p)) (one p))))
