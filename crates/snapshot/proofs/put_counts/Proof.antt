-- `snapshot::put_counts` meets its contract: five words one after the other, or none.
use native.Mathlib.Omega.{arith}
use mathlib.Core.Path.{◌≡◌, refl, ap, ap₂, sym, ◌∙◌}
use mathlib.Core.List.{◌∷◌}
use Prim.Native.Nat.{ℕ, ◌+◌, ◌≤◌, ◌<◌}
use lib.ListN.{length, length-set}
use borrow.Author.Rules.{rules}
use Rattle.buffer.specs.Buffer.{put_at}
use Rattle.buffer.proofs.Laws.{put-nil}
use Rattle.snapshot.proofs.Counts.{counts-none, counts_some}
use Rattle.snapshot.proofs.Filling.{five-put}
use Rattle.snapshot.proofs.put_counts.Statement.{statement}
use Rattle.snapshot.proofs.put_counts.Tie as tie

some : (e : tie.Else-r-eq0) → e.args.r.delivered ≡ 0 → ⊥
some e z = omega (arith, e.if-r-eq0.false)

-- there is room for five
room : (e : tie.Else-r-eq0) → e.args.at + 5 ≤ length e.args.words.now
room e = omega (arith, e.requires, ap length (counts_some e.args.r (some e)))

fit : (e : tie.Else-r-eq0) (k : ℕ) → k < 5 → e.args.at + k < length e.args.words.now
fit e k h = omega (arith, room e)

returns : tie.Need-returns-then-r-eq0
returns c =
    let a = c.before.before.before.args in
    sym (ap (put_at a.words.now a.at) (counts-none a.r (omega (arith, c.if-r-eq0.true))) ∙ put-nil a.words.now a.at)

slice-write-words-2 : tie.Need-bounds-words-at-2
slice-write-words-2 c = simp length-set (fit c.before.before 1 (omega arith))

slice-write-words-3 : tie.Need-bounds-words-at-3
slice-write-words-3 c = simp length-set (fit c.before.before.before 2 (omega arith))

slice-write-words-4 : tie.Need-bounds-words-at-4
slice-write-words-4 c = simp length-set (fit c.before.before.before.before 3 (omega arith))

add-words-4 : tie.Need-overflow_add-words-4
add-words-4 c = omega (arith, room c.before.before.before.before.before)

mul-words-5 : tie.Need-offset_bounds-words-at-5
mul-words-5 c = omega (arith, room c.before.before.before.before.before)

slice-write-words-5 : tie.Need-bounds-words-at-5
slice-write-words-5 c = simp length-set (fit c.before.before.before.before.before 4 (omega arith))

returns-2 : tie.Need-returns
returns-2 c =
    let d = c.before in
    let u = d.before in
    let b = u.before in
    let h = b.before in
    let e = h.before in
    let a = e.args in
    five-put a.words.now a.at h.high_word.result b.low_word.result u.high_word-2.result d.low_word-2.result c.last_word.result (room e)
    ∙ ap (put_at a.words.now a.at) (
    ap₂ ◌∷◌ h.high_word.ensures (ap₂ ◌∷◌ b.low_word.ensures (ap₂ ◌∷◌ u.high_word-2.ensures (ap₂ ◌∷◌ d.low_word-2.ensures (ap₂ ◌∷◌ c.last_word.ensures refl)))) ∙ sym (counts_some a.r (some e))
    )

pub put_counts_spec : {M : Type 1} → statement M
put_counts_spec =
    tie.close (tie.spec returns (λ c κs. search rules) (λ c. omega (arith, room c.before)) (λ c. omega (arith, room c.before)) (λ c κs. search rules)
    (λ c. omega (arith, room c.before.before)) (λ c. omega (arith, room c.before.before)) slice-write-words-2 (λ c κs. search rules)
    (λ c. omega (arith, room c.before.before.before)) (λ c. omega (arith, room c.before.before.before)) slice-write-words-3 (λ c κs. search rules)
    (λ c. omega (arith, room c.before.before.before.before)) (λ c. omega (arith, room c.before.before.before.before)) slice-write-words-4
    (λ c κs. search rules) add-words-4 mul-words-5 slice-write-words-5 (λ c. search rules) returns-2)
