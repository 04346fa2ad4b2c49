-- What is packed once a packet does not fit whole, or none is left.
use Rattle.std.proofs.Common.{◌≡◌, ◌+◌, ◌<◌, ◌≤◌, ◌∙◌, ◌∷◌, ℕ, suc, true, false, length, ap, sym, arith, length-set}
use Rattle.std.proofs.Math.ListN.{set}
use Rattle.buffer.specs.Buffer.{put_at}
use Rattle.buffer.proofs.Laws.{put-cons}
use Rattle.packing.specs.Packing.{fit, wholes, part}
use Rattle.packing.proofs.Packs.{wholes_left, part_left, one-whole, same-part, no_whole, last-part, none-whole, none-part, finished}
use Rattle.packing.proofs.Fitting.{fit-most, fit-room}
use Rattle.packing.proofs.Limit.{most-small}
use Rattle.packing.proofs.pack.Goals as goal

pub returns-then-not-fits : goal.returns-then-not-fits
returns-then-not-fits c =
    let a = c.args in
    let ls = a.lengths.now in
    let l = c.loop-i in
    let n : ℕ = c.remainder-n.result in
    let w = c.with_part in
    let h : l.i < length ls = omega arith in
    let t : fit a.width a.extra a.size (l.i + 1) (l.used + n + 1) ≡ false = rw c.from.ensures at (sym c.fits.ensures ∙ c.if-not-fits.true) in
    let q : c.part_after-part.result ≡ part a.width a.extra a.size a.sent ls = c.part_after-part.ensures
    ∙ sym (last-part a.width a.extra a.size ls l.i l.used l.gone n h c.remainder-n.ensures.0 t) ∙ l.invariant.part in
    let r = finished l.out _ (wholes a.width a.extra a.size a.sent ls) _ w.result.lengths l.i _ c.part_after-part.result w.result.ended w.result.part w.result.nop
    (no_whole a.width a.extra a.size ls l.i l.used l.gone n h c.remainder-n.ensures.0 t) l.invariant.left l.invariant.count q (w.ensures.ended_value, w.ensures.nop_value) in
    record { ended_value = r.0; part_value = r.1.0; nop_value = r.1.1.0; lengths_value = r.1.1.1 }

pub loop-i-preserved : goal.loop-i-preserved
loop-i-preserved c =
    let a = c.args in
    let ls = a.lengths.now in
    let l = c.loop-i in
    let n : ℕ = c.remainder-n.result in
    let used : ℕ = l.used + n + 1 in
    let h : l.i < length ls = omega arith in
    let e = c.remainder-n.ensures.0 in
    let t : fit a.width a.extra a.size (l.i + 1) used ≡ true = rw c.from.ensures at (sym c.fits.ensures ∙ c.if-not-fits.false) in
    let u : l.used + (c.from-in-loop-i.result + 1) ≡ used = omega arith in
    let w : wholes_left a.width a.extra a.size ls l.i l.used l.gone ≡ n ∷ wholes_left a.width a.extra a.size ls (l.i + 1) used 0 = one-whole a.width a.extra a.size ls l.i l.used l.gone n h e t in
    let left : put_at l.out l.i (n ∷ wholes_left a.width a.extra a.size ls (l.i + 1) used 0) ≡ put_at _ 0 (wholes a.width a.extra a.size a.sent ls) = rw w at l.invariant.left in
    let count : l.i + suc (length (wholes_left a.width a.extra a.size ls (l.i + 1) used 0)) ≡ length (wholes a.width a.extra a.size a.sent ls) = rw w at l.invariant.count in record {
      few = omega (arith, fit-most a.width a.extra a.size (l.i + 1) used t, most-small a.width a.extra);
      places = length-set l.out l.i n ∙ l.invariant.places;
      room = omega (arith, fit-room a.width a.extra a.size (l.i + 1) used t);
      left = ap (λ (x : ℕ). put_at (set l.out l.i n) (l.i + 1) (wholes_left a.width a.extra a.size ls (l.i + 1) x 0)) u
          ∙ put-cons l.out (wholes_left a.width a.extra a.size ls (l.i + 1) used 0) l.i n (omega arith)
          ∙ left;
      count = ap (λ (x : ℕ). l.i + 1 + length (wholes_left a.width a.extra a.size ls (l.i + 1) x 0)) u ∙ omega (arith, count);
      part = ap (λ (x : ℕ). part_left a.width a.extra a.size ls (l.i + 1) x 0) u ∙ sym (same-part a.width a.extra a.size ls l.i l.used l.gone n h e t) ∙ l.invariant.part;
    }

pub returns : goal.returns
returns c =
    let a = c.args in
    let ls = a.lengths.now in
    let l = c.loop-i in
    let w = c.with_part-2 in
    let h : length ls ≤ l.i = omega arith in
    let e : length ls ≡ l.i = omega arith in
    let q : 0 ≡ part a.width a.extra a.size a.sent ls = sym (none-part a.width a.extra a.size ls l.i l.used l.gone h) ∙ l.invariant.part in
    let r = finished l.out _ (wholes a.width a.extra a.size a.sent ls) _ w.result.lengths l.i _ 0 w.result.ended w.result.part w.result.nop
    (none-whole a.width a.extra a.size ls l.i l.used l.gone h) l.invariant.left l.invariant.count q (rw e at w.ensures.ended_value, rw e at w.ensures.nop_value) in
    record { ended_value = r.0; part_value = r.1.0; nop_value = r.1.1.0; lengths_value = r.1.1.1 }
