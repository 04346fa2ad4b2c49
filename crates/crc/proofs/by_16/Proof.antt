-- `crc::by_16` meets its contract.
use mathlib.Core.Path.{refl, ap, ap₂, ◌∙◌}
use mathlib.Core.List.{List}
use native.Mathlib.Omega.{arith}
use Prim.Native.Nat.{ℕ, ◌+◌}
use lib.ListN.{drop}
use borrow.Author.Rules.{rules}
use Rattle.crc.specs.Ring.{shifts, val, horner, next_high, next_low}
use Rattle.crc.proofs.Ring.{next-again}
use Rattle.crc.proofs.by_16.Statement.{statement}
use Rattle.crc.proofs.by_16.Tie as tie

returns-2 : tie.Need-returns
returns-2 c =
    let k = c.before.before.before.before.before.before in
    let s = k.before in
    let b : List ℕ = s.args.bytes.now in
    c.by_32-2.ensures
    ∙ ap₂ (λ (x y : ℕ). shifts 8 (horner (val x y) (drop (s.args.from + 16) b)))
    (c.before.before.next_high.ensures.0 ∙ ap (next_high s.args.h s.args.l) c.before.before.before.before.word-a.ensures)
    (c.before.next_low.ensures.0 ∙ ap (next_low s.args.h s.args.l) c.before.before.before.word-b.ensures)
    ∙ next-again _ b s.args.h s.args.l s.args.from s.ranges.h.fits s.ranges.l.fits (λ i. (k.shared_slice_known-1.given i).fits) refl (omega arith)

pub by_16_spec : {M : Type 1} → statement M
by_16_spec =
    tie.close (tie.spec (λ c. search rules) (λ c κs. search rules) (λ c. search rules) (λ c κs. search rules) (λ c. search rules) (λ c κs. search rules)
    (λ c κs. search rules) (λ c κs. search rules) (λ c. search rules) (λ c κs. search rules) returns-2)
