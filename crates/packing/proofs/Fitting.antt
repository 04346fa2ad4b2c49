-- What it means that pieces fit.
use mathlib.Core.Path.{◌≡◌}
use mathlib.Core.Bool.{true, false}
use Prim.Native.Nat.{ℕ, suc, ◌+◌, ◌-◌, ◌≤◌}
use native.Mathlib.Numerals.{add-one}
use lib.Dec.{leb}
use borrow.Author.Tests.{leb-true, le-leb}
use Rattle.bits.proofs.Tests.{both}
use Rattle.packing.specs.Packing.{overhead, most_pieces, fit, part_after}

module _ (width extra size k used : ℕ) where
  pub fit-most : fit width extra size k used ≡ true → k ≤ most_pieces width extra
  unfolding fit
  fit-most e = leb-true k (most_pieces width extra) (both (leb k (most_pieces width extra)) (leb (overhead width extra k + used) size) e).0

  pub fit-room : fit width extra size k used ≡ true → overhead width extra k + used ≤ size
  unfolding fit
  fit-room e = leb-true (overhead width extra k + used) size (both (leb k (most_pieces width extra)) (leb (overhead width extra k + used) size) e).1

  pub fit-within : k ≤ most_pieces width extra → leb (overhead width extra k + used) size ≡ fit width extra size k used
  unfolding fit
  fit-within h = rw (le-leb k (most_pieces width extra) h)

  pub fit-past : leb k (most_pieces width extra) ≡ false → false ≡ fit width extra size k used
  unfolding fit
  fit-past e = rw e

  pub part_none : fit width extra size (k + 1) (used + 2) ≡ false → 0 ≡ part_after width extra size k used
  unfolding part_after
  part_none e = let f : fit width extra size (suc k) (used + 2) ≡ false = rw (add-one k) at e in rw f

  pub part-some : fit width extra size (k + 1) (used + 2) ≡ true → size - (overhead width extra (k + 1) + used + 1) ≡ part_after width extra size k used
  unfolding part_after
  part-some e = let f : fit width extra size (suc k) (used + 2) ≡ true = rw (add-one k) at e in rw (f, add-one k)
