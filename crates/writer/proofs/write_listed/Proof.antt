use Rattle.writer.proofs.Composed.{composed, prefix-long}
use Rattle.writer.proofs.Accepted.{Fine, fine, enough, few, fits, la-fits, sent-within, part_small, ended-few}
use Rattle.writer.specs.Writing.{expansion_of, extra_of, ended_of, part_of, placed_lengths, advanced}
use Rattle.packing.proofs.Limit.{most-small}
use Rattle.packing.specs.Packing.{overhead, wholes, part, piece_lengths}
use Rattle.pieces.specs.Pieces.{total}
use Rattle.layout.specs.Locators.{locator_size}
use Rattle.modes.proofs.Listable.{Listable, listable}
use Rattle.expansion.specs.declared.Fields.{Fields}
use Rattle.expansion.specs.Writing.{expansion_bytes}
use lib.ListN.{length-drop}
use lib.Dec.{ltb}
use native.Mathlib.Omega.{arith}
use mathlib.Core.Path.{◌≡◌, refl, ap, ap₂, sym, ◌∙◌}
use Prim.Native.Nat.{ℕ, ◌+◌, ◌≤◌}
use lib.ListN.{length, take, drop}
use borrow.Author.Rules.{rules}
use Rattle.writer.proofs.write_listed.Statement.{statement}
use Rattle.writer.proofs.write_listed.Tie as tie

-- the call is one that no row turns down
fine-at : (s : tie.Start) → Fine s.args.s s.args.psd.now s.args.lengths.now s.args.bytes.now (length s.args.pdu.now) s.args.m s.args.w
fine-at s = fine s.args.s s.args.psd.now s.args.lengths.now s.args.bytes.now (length s.args.pdu.now) s.args.m s.args.w s.requires.1

listed_at : (s : tie.Start) → Listable s.args.w.mode s.args.w.stream s.args.m
listed_at s = listable s.args.w.mode s.args.w.stream s.args.m s.requires.0

-- the expansion bytes
x-length : (e : tie.After-expansion_bytes-x) → let a = e.before.before.before.before.before.before.args in e.expansion_bytes-x.result.length ≡ length (expansion_of a.s a.psd.now a.lengths.now a.bytes.now (length a.pdu.now))
x-length e = e.expansion_bytes-x.ensures.0.0 ∙ ap (λ (y : Fields). length (expansion_bytes y)) e.before.fields_for-fields.ensures

x-bytes : (e : tie.After-expansion_bytes-x) → let a = e.before.before.before.before.before.before.args in take e.expansion_bytes-x.result.length e.expansion_bytes-x.result.bytes ≡ expansion_of a.s a.psd.now a.lengths.now a.bytes.now (length a.pdu.now)
x-bytes e = e.expansion_bytes-x.ensures.1 ∙ ap expansion_bytes e.before.fields_for-fields.ensures

x-small : (e : tie.After-expansion_bytes-x) → let a = e.before.before.before.before.before.before.args in e.expansion_bytes-x.result.length + length a.psd.now ≤ 128
x-small e = let f = (fine-at e.before.before.before.before.before.before).extra in let l = (listed_at e.before.before.before.before.before.before).limit in omega (arith, f, l, x-length e)

-- what is packed
packed-with : {X : Type 0} (e : tie.After-pack-p) (g : ℕ → X) → let a = e.before.before.before.before.before.before.before.before.args in g (e.before.before.expansion_bytes-x.result.length + length a.psd.now) ≡ g (extra_of a.s a.psd.now a.lengths.now a.bytes.now (length a.pdu.now))
packed-with e g = let a = e.before.before.before.before.before.before.before.before.args in ap (λ (k : ℕ). g (k + length a.psd.now)) (x-length e.before.before)

p-ended : (e : tie.After-pack-p) → let a = e.before.before.before.before.before.before.before.before.args in e.pack-p.result.ended ≡ ended_of a.s a.psd.now a.lengths.now a.bytes.now (length a.pdu.now) a.m a.w
p-ended e = let a = e.before.before.before.before.before.before.before.before.args in e.pack-p.ensures.0 ∙ packed-with e (λ k. length (wholes a.m.width k (length a.pdu.now) a.w.sent a.lengths.now))

p-part : (e : tie.After-pack-p) → let a = e.before.before.before.before.before.before.before.before.args in e.pack-p.result.part ≡ part_of a.s a.psd.now a.lengths.now a.bytes.now (length a.pdu.now) a.m a.w
p-part e = let a = e.before.before.before.before.before.before.before.before.args in e.pack-p.ensures.1.0 ∙ packed-with e (λ k. part a.m.width k (length a.pdu.now) a.w.sent a.lengths.now)

p-nop : (e : tie.After-pack-p) → let a = e.before.before.before.before.before.before.before.before.args in e.pack-p.result.nop ≡ length (placed_lengths a.s a.psd.now a.lengths.now a.bytes.now (length a.pdu.now) a.m a.w)
p-nop e = let a = e.before.before.before.before.before.before.before.before.args in e.pack-p.ensures.1.1.0 ∙ packed-with e (λ k. length (piece_lengths a.m.width k (length a.pdu.now) a.w.sent a.lengths.now))

p-lengths : (e : tie.After-pack-p) → let a = e.before.before.before.before.before.before.before.before.args in take e.pack-p.result.nop e.pack-p.result.lengths ≡ placed_lengths a.s a.psd.now a.lengths.now a.bytes.now (length a.pdu.now) a.m a.w
p-lengths e = let a = e.before.before.before.before.before.before.before.before.args in e.pack-p.ensures.1.1.1 ∙ packed-with e (λ k. piece_lengths a.m.width k (length a.pdu.now) a.w.sent a.lengths.now)

-- the place of the first piece
first-at : (e : tie.After-overhead-first) → let a = e.before.before.before.before.before.before.before.before.before.before.args in e.overhead-first.result ≡ overhead a.m.width (extra_of a.s a.psd.now a.lengths.now a.bytes.now (length a.pdu.now)) (length (placed_lengths a.s a.psd.now a.lengths.now a.bytes.now (length a.pdu.now) a.m a.w))
first-at e = let a = e.before.before.before.before.before.before.before.before.before.before.args in e.overhead-first.ensures.0 ∙ ap₂ (λ (i j : ℕ). overhead a.m.width (i + length a.psd.now) j) (x-length e.before.before.before.before) (p-nop e.before.before)

cast-fields-for : tie.Need-overflow_cast-size
cast-fields-for c = let h = (fine-at c.before.before.before.before).short in omega (arith, h)

fields-for-requires : tie.Need-fields_for-fields-requires
fields-for-requires c κs = let h = (fine-at c.before.before.before.before).long in omega (arith, h)

pack-requires : tie.Need-pack-p-requires
pack-requires c κs = let h = x-small c.before in (omega (arith, h), (fine-at c.before.before.before.before.before.before.before).short)

add-overhead : tie.Need-overflow_add-x-2
add-overhead c = let h = x-small c.before.before.before in omega (arith, h)

overhead-requires : tie.Need-overhead-first-requires
overhead-requires c κs = let h = x-small c.before.before.before in omega (arith, h)

cast-control-with : tie.Need-overflow_cast-first
cast-control-with c =
    let a = c.before.before.before.before.before.before.before.before.before.before.before.args in
    let h = la-fits a.s a.psd.now a.lengths.now a.bytes.now (length a.pdu.now) a.m a.w (fine-at c.before.before.before.before.before.before.before.before.before.before.before) (listed_at c.before.before.before.before.before.before.before.before.before.before.before).limit in
    omega (arith, h, first-at c.before)

control-with-requires : tie.Need-control_with-c-requires
control-with-requires c κs = (fine-at c.before.before.before.before.before.before.before.before.before.before.before).number

array-share-prefix-expansion : tie.Need-slice_bounds-expansion-end
array-share-prefix-expansion c = prefix-long _ _ _ (x-bytes c.before.before.before.before.before.before.before.before.before.before) (x-length c.before.before.before.before.before.before.before.before.before.before)

slice-aggregate-put-contents : tie.Need-slice_bounds-put_contents-end
slice-aggregate-put-contents c = x-length c.before.before.before.before.before.before.before.before.before.before.before ∙ sym (ap length (x-bytes c.before.before.before.before.before.before.before.before.before.before.before))

array-share-prefix-placed : tie.Need-slice_bounds-placed-end
array-share-prefix-placed c = prefix-long _ _ _ (p-lengths c.before.before.before.before.before.before.before.before.before.before) (p-nop c.before.before.before.before.before.before.before.before.before.before)

slice-aggregate-put-contents-2 : tie.Need-slice_bounds-put_contents-end-2
slice-aggregate-put-contents-2 c = p-nop c.before.before.before.before.before.before.before.before.before.before.before ∙ sym (ap length (p-lengths c.before.before.before.before.before.before.before.before.before.before.before))

put-contents-requires : tie.Need-put_contents-requires
put-contents-requires c κs =
    let a = c.before.before.before.before.before.before.before.before.before.before.before.before.before.before.before.before.before.before.before.before.args in
    let f = fine-at c.before.before.before.before.before.before.before.before.before.before.before.before.before.before.before.before.before.before.before.before in
    let p = c.before.before.before.before.before.before.before.before.before.before.before.before.pack-p.result in
    let x = c.before.before.before.before.before.before.before.before.before.before.before.before.before.before.expansion_bytes-x.result in
    let pl : take p.nop p.lengths ≡ placed_lengths a.s a.psd.now a.lengths.now a.bytes.now (length a.pdu.now) a.m a.w = p-lengths c.before.before.before.before.before.before.before.before.before.before.before.before in
    let xb : take x.length x.bytes ≡ expansion_of a.s a.psd.now a.lengths.now a.bytes.now (length a.pdu.now) = x-bytes c.before.before.before.before.before.before.before.before.before.before.before.before.before.before in
    let r : 14 + locator_size a.m.width (length (take p.nop p.lengths)) + length (take x.length x.bytes) + length a.psd.now + total (take p.nop p.lengths) + length (take p.nop p.lengths) ≤ length a.pdu.now = rw (pl, xb) (fits a.s a.psd.now a.lengths.now a.bytes.now (length a.pdu.now) a.m a.w f) in
    let n : length (take p.nop p.lengths) ≤ 64 = rw pl (omega (arith, few a.s a.psd.now a.lengths.now a.bytes.now (length a.pdu.now) a.m a.w f, most-small a.m.width (extra_of a.s a.psd.now a.lengths.now a.bytes.now (length a.pdu.now)))) in
    let t : a.w.sent + total (take p.nop p.lengths) ≤ length a.bytes.now = rw pl (omega (arith, enough a.s a.psd.now a.lengths.now a.bytes.now (length a.pdu.now) a.m a.w f, length-drop a.w.sent a.bytes.now, sent-within a.s a.psd.now a.lengths.now a.bytes.now (length a.pdu.now) a.m a.w f)) in
    (r, (n, omega (arith, f.short), t))

advance-requires : tie.Need-advance-next-requires
advance-requires c κs =
    let a = c.before.before.before.before.before.before.before.before.before.before.before.before.before.before.before.before.before.before.before.before.before.before.before.before.before.before.before.args in
    let f = fine-at c.before.before.before.before.before.before.before.before.before.before.before.before.before.before.before.before.before.before.before.before.before.before.before.before.before.before.before in
    let e = ended-few a.s a.psd.now a.lengths.now a.bytes.now (length a.pdu.now) a.m a.w f in
    let p = part_small a.s a.psd.now a.lengths.now a.bytes.now (length a.pdu.now) a.m a.w f in
    ((f.sequence, (listed_at c.before.before.before.before.before.before.before.before.before.before.before.before.before.before.before.before.before.before.before.before.before.before.before.before.before.before.before).most, f.number, f.sent), (omega (arith, e, p-ended c.before.before.before.before.before.before.before.before.before.before.before.before.before.before.before.before.before.before.before), omega (arith, p, p-part c.before.before.before.before.before.before.before.before.before.before.before.before.before.before.before.before.before.before.before)))

returns : tie.Need-returns
returns c =
    let a = c.before.before.before.before.before.before.before.before.before.before.before.before.before.before.before.before.before.before.before.before.before.before.before.before.before.before.before.before.before.args in
    let f = fine-at c.before.before.before.before.before.before.before.before.before.before.before.before.before.before.before.before.before.before.before.before.before.before.before.before.before.before.before.before.before in
    let p = c.before.before.before.before.before.before.before.before.before.before.before.before.before.before.before.before.before.before.before.before.before.pack-p.result in
    let x = c.before.before.before.before.before.before.before.before.before.before.before.before.before.before.before.before.before.before.before.before.before.before.before.expansion_bytes-x.result in
    let e : c.before.advance-next.result ≡ advanced a.m a.w p.ended p.part = c.before.advance-next.ensures in
    let pe : p.ended ≡ ended_of a.s a.psd.now a.lengths.now a.bytes.now (length a.pdu.now) a.m a.w = p-ended c.before.before.before.before.before.before.before.before.before.before.before.before.before.before.before.before.before.before.before.before.before in
    let pp : p.part ≡ part_of a.s a.psd.now a.lengths.now a.bytes.now (length a.pdu.now) a.m a.w = p-part c.before.before.before.before.before.before.before.before.before.before.before.before.before.before.before.before.before.before.before.before.before in
    (rw (e, pe, pp), composed a.s a.psd.now a.lengths.now a.bytes.now (length a.pdu.now) a.m a.w f p.nop p.part c.before.before.before.before.before.before.before.before.before.before.before.before.before.before.before.before.before.before.before.overhead-first.result (ltb 0 x.length) c.before.before.before.before.before.before.before.before.before.before.before.before.before.before.before.before.before.control_with-c.result c.before.before.before.before.before.before.before.before.before.before.before.before.before.before.before.before.control_bytes-control.result (take x.length x.bytes) (take p.nop p.lengths) (drop a.w.sent a.bytes.now) c.before.before.before.before.before.before.before.before.put_contents.new.pdu c.before.before.before.before.write_parity.new.pdu (x-bytes c.before.before.before.before.before.before.before.before.before.before.before.before.before.before.before.before.before.before.before.before.before.before.before) (p-lengths c.before.before.before.before.before.before.before.before.before.before.before.before.before.before.before.before.before.before.before.before.before) refl (p-nop c.before.before.before.before.before.before.before.before.before.before.before.before.before.before.before.before.before.before.before.before.before) (p-part c.before.before.before.before.before.before.before.before.before.before.before.before.before.before.before.before.before.before.before.before.before) (first-at c.before.before.before.before.before.before.before.before.before.before.before.before.before.before.before.before.before.before.before) (ap (ltb 0) (x-length c.before.before.before.before.before.before.before.before.before.before.before.before.before.before.before.before.before.before.before.before.before.before.before)) c.before.before.before.before.before.before.before.before.before.before.before.before.before.before.before.before.before.control_with-c.ensures c.before.before.before.before.before.before.before.before.before.before.before.before.before.before.before.before.control_bytes-control.ensures c.before.before.before.before.before.before.before.before.put_contents.ensures c.before.before.before.before.write_parity.ensures.1)

pub write_listed_spec : {M : Type 1} → statement M
write_listed_spec =
    tie.close (tie.spec cast-fields-for fields-for-requires (λ c κs. search rules) (λ c. search rules) pack-requires add-overhead overhead-requires
    (λ c. search rules) cast-control-with control-with-requires (λ c κs. search rules) array-share-prefix-expansion slice-aggregate-put-contents
    (λ c. search rules) array-share-prefix-placed slice-aggregate-put-contents-2 (λ c. search rules) put-contents-requires (λ c κs. search rules)
    advance-requires (λ c. search rules) (λ c. search rules) returns)
