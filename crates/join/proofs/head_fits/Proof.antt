use native.Mathlib.Omega.{arith}
use mathlib.Core.Path.{ap, sym, ◌∙◌}
use Prim.Native.Nat.{ℕ}
use Rattle.join.proofs.Tests.{data-first, note-fits}
use Rattle.join.specs.Scan.{head_fits_as}
use borrow.Author.Rules.{rules}
use Rattle.join.proofs.head_fits.Statement.{statement}
use Rattle.join.proofs.head_fits.Tie as tie

returns : tie.Need-returns-in-0
returns c = c.packet_fits.ensures ∙ ap (λ (k : ℕ). head_fits_as k c.before.before.args.h c.before.before.args.l) (sym c.before.in-0.is)

returns-2 : tie.Need-returns-in-1
returns-2 c = data-first c.before.args.h c.before.args.l ∙ ap (λ (k : ℕ). head_fits_as k c.before.args.h c.before.args.l) (sym c.in-1.is)

returns-3 : tie.Need-returns-in-2
returns-3 c = c.psd_fits.ensures ∙ ap (λ (k : ℕ). head_fits_as k c.before.before.args.h c.before.before.args.l) (sym c.before.in-2.is)

returns-4 : tie.Need-returns-in_default
returns-4 c = note-fits c.before.args.h c.before.args.l c.before.args.k (omega arith)

pub head_fits_spec : {M : Type 1} → statement M
head_fits_spec = tie.close (tie.spec (λ c κs. search rules) (λ c κs. search rules) returns returns-2 returns-3 returns-4)
