-- What an accepted call sends is what a reader takes.
use mathlib.Core.Path.{◌≡◌, refl, sym, ap, subst, ◌∙◌}
use mathlib.Core.Logic.{◌⊎◌, inl, inr}
use mathlib.Core.Bool.{Bool, true, false, not, ◌&&◌, ◌||◌, cond}
use mathlib.Core.List.{List, [], ◌∷◌}
use Prim.Native.Nat.{ℕ, zero, suc, ◌+◌, ◌<◌, ◌≤◌}
use native.Mathlib.Omega.{arith}
use lib.Dec.{eqb, ltb, leb, T}
use borrow.Author.Tests.{ltb-false, leb-false, eqb-true, eqb-false, eq-eqb, ne_eqb, not-false}
use lib.ListN.{length, get_or, drop, get_or-map}
use Rattle.refusal.specs.Refusal.{any_of}
use Rattle.modes.specs.Modes.{listing}
use Rattle.modes.specs.declared.Mode.{Mode}
use Rattle.modes.specs.declared.Listing.TheVariants.{Listed}
use Rattle.modes.proofs.Listable.{listable}
use Rattle.layout.specs.Control.{InWidth}
use Rattle.layout.specs.declared.ControlWord.{ControlWord}
use Rattle.layout.proofs.LocatorLaw.{roof}
use Rattle.expansion.specs.Writing.{InRange}
use Rattle.settings.specs.Settings.{broken_rules, wrong_values, fields_for}
use Rattle.settings.specs.declared.Settings.{Settings}
use Rattle.expansion.specs.declared.Fields.{Fields}
use Rattle.packing.specs.Packing.{overhead, part, piece_lengths, part_from}
use Rattle.packing.proofs.Limit.{most-small, one_piece}
use Rattle.packing.proofs.Bounds.{Bytes, Positive, kept, some-placed}
use Rattle.contents.proofs.Putting.{cut-count, cut-lengths}
use Rattle.pdu.proofs.ReadBack.{Sendable}
use Rattle.writer.specs.Writing.{wrong_lengths, wrong_unfinished, no_room, extra_of, placed_lengths, pieces_of, control_for}
use Rattle.writer.specs.declared.Writer.{Writer}
use Rattle.writer.proofs.Accepted.{Fine, overhead-fits, enough, few}
use Rattle.writer.proofs.Judging.{none-at, first-fails, second-fails}

-- ---- settings that no row turns down are within their widths

both-not : (a b : Bool) → (a && b) ≡ false → a ≡ true → b ≡ false
both-not true b e h = e
both-not false b e h = absurd (subst T (sym h) tt)

module _ (stream : ℕ) (s : Settings) (size : ℕ) (rules : any_of (broken_rules s size) ≡ false) (values : any_of (wrong_values stream s) ≡ false) where
  pub record Levels : Type 0 where
    pub blend : s.blend < 4
    pub gain : s.gain < 32
    pub common : s.common < 64
    pub latency : s.latency < 8
    pub program : s.programmed ≡ true → s.program < 8
    pub access : s.typed ≡ true → s.access < 2
    pub ptype : s.typed ≡ true → s.ptype < 256
    pub services : s.serviced ≡ true → s.services < 8
    pub marker : s.serviced ≡ true → s.marker < 2097152

  pub levels : Levels
  levels =
      let b = leb-false 3 s.blend (none-at (wrong_values stream s) 0 values) in
      let g = ltb-false 31 s.gain (none-at (wrong_values stream s) 3 values) in
      let c = ltb-false 63 s.common (none-at (wrong_values stream s) 4 values) in
      let l = ltb-false 7 s.latency (none-at (wrong_values stream s) 5 values) in
      record {
        blend = omega (arith, b);
        gain = omega (arith, g);
        common = omega (arith, c);
        latency = omega (arith, l);
        program = λ t. let q = ltb-false 7 s.program (both-not s.programmed (ltb 7 s.program) (none-at (wrong_values stream s) 7 values) t) in omega (arith, q);
        access = λ t. let q = ltb-false 1 s.access (both-not s.typed (ltb 1 s.access) (none-at (wrong_values stream s) 8 values) t) in omega (arith, q);
        ptype = λ t. let q = ltb-false 255 s.ptype (both-not s.typed (ltb 255 s.ptype) (none-at (wrong_values stream s) 9 values) t) in omega (arith, q);
        services = λ t. let q = ltb-false 7 s.services (both-not s.serviced (ltb 7 s.services) (none-at (wrong_values stream s) 10 values) t) in omega (arith, q);
        marker = λ t. let q = ltb-false 2097151 s.marker (both-not s.serviced (ltb 2097151 s.marker) (none-at (wrong_values stream s) 11 values) t) in omega (arith, q);
      }

  -- class is 1, and a displacement has room
  class-one : s.classed ≡ true → s.class ≡ 1
  class-one t = eqb-true s.class 1 (not-false (eqb s.class 1) (both-not s.classed (not (eqb s.class 1)) (none-at (broken_rules s size) 0 rules) t))

  displacement-fits : s.displaced ≡ true → size ≤ 16384
  displacement-fits t = ltb-false 16384 size (both-not s.displaced (ltb 16384 size) (none-at (broken_rules s size) 6 rules) t)

  -- the fields that are sent
  pub in-range : 1 ≤ size → InRange (fields_for s size)
  unfolding fields_for
  in-range h = record {
    class = λ t. let q = class-one t in (omega (arith, q), omega (arith, q));
    program = λ t. program-small s.programmed refl;
    displacement = λ t d. let q = displacement-fits d in omega (arith, q, h);
    ptype = λ t. (levels.access t, levels.ptype t);
    services = λ t. (levels.services t, levels.marker t);
  }
    where
      program-small : (b : Bool) → s.programmed ≡ b → cond b s.program 0 < 8
      program-small true e = levels.program e
      program-small false e = omega arith

-- ---- packets

none-placed : (m : Mode) (extra size s : ℕ) (ls : List ℕ) → extra ≤ 128 → wrong_unfinished s ls ≡ false → no_room m extra size ls ≡ false → length (piece_lengths m.width extra size s ls) ≡ 0
    → (ltb 0 s ≡ false) × (ltb 0 (part m.width extra size s ls) ≡ false)
unfolding part_from
none-placed m extra size s [] h u r e = (u, refl)
none-placed m extra size s (n ∷ ls) h u r e =
    let q = ltb-false size (overhead m.width extra 1 + 2) r in
    let p = some-placed m.width extra size s n ls q (one_piece m.width extra h) in
    absurd (omega (arith, p, e))

-- every packet offered has bytes left
bytes_left : (s : ℕ) (ls : List ℕ) → wrong_lengths ls ≡ false → wrong_unfinished s ls ≡ false → Bytes s ls
bytes_left s [] r u = tt
bytes_left s (n ∷ ls) r u =
    let e = first-fails (eqb n 0) (ltb 4096 n || wrong_lengths ls) r in
    let t = second-fails (ltb 4096 n) (wrong_lengths ls) (second-fails (eqb n 0) (ltb 4096 n || wrong_lengths ls) r) in
    (longer (ltb 0 s) refl u, bytes_left 0 ls t (none-sent-yet ls))
  where
    longer : (b : Bool) → ltb 0 s ≡ b → (b && leb n s) ≡ false → s < n
    longer true q h = leb-false n s h
    longer false q h =
        let z = ltb-false 0 s q in
        let y = eqb-false n 0 (first-fails (eqb n 0) (ltb 4096 n || wrong_lengths ls) r) in
        more n y (omega arith)
      where
        more : (n : ℕ) → (n ≡ 0 → ⊥) → s ≤ 0 → s < n
        more zero y z = absurd (y refl)
        more (suc n) y z = omega arith

    none-sent-yet : (ls : List ℕ) → wrong_unfinished 0 ls ≡ false
    none-sent-yet [] = refl
    none-sent-yet (n ∷ ls) = refl

positive-at : (ns : List ℕ) (k : ℕ) → Positive ns → k < length ns → 0 < get_or ns k 0
positive-at [] k p h = absurd (omega arith)
positive-at (n ∷ ns) zero p h = p.0
positive-at (n ∷ ns) (suc k) p h = positive-at ns k p.1 (omega arith)

-- ---- the call

module _ (settings : Settings) (psd lengths bytes : List ℕ) (size : ℕ) (m : Mode) (w : Writer) (f : Fine settings psd lengths bytes size m w) (l : listing w.mode w.stream ≡ Listed m) where
  abbrev x : Fields
  x = fields_for settings size

  abbrev ns : List ℕ
  ns = placed_lengths settings psd lengths bytes size m w

  abbrev ps : List (List ℕ)
  ps = pieces_of settings psd lengths bytes size m w

  abbrev c : ControlWord
  c = control_for settings psd lengths bytes size m w

  same_count : length ps ≡ length ns
  same_count = cut-count ns (drop w.sent bytes)

  -- PSD and expansion are within every mode's limit
  pub extra-small : extra_of settings psd lengths bytes size ≤ 128
  extra-small = let b = (listable w.mode w.stream m l).limit in omega (arith, f.extra, b)

  widths : InWidth c
  widths =
      let b = listable w.mode w.stream m l in
      let v = levels w.stream settings size f.rules f.values in
      let n = few settings psd lengths bytes size m w f in
      let k = most-small m.width (extra_of settings psd lengths bytes size) in
      record {
        mode = omega (arith, b.last);
        stream = omega (arith, b.core);
        sequence = omega (arith, f.sequence, b.most);
        blend = v.blend;
        gain = v.gain;
        common = v.common;
        latency = v.latency;
        start = omega arith;
        nop = omega (arith, n, k);
      }

  -- with no piece, no packet is offered, and none is unfinished
  no-flags : length ps ≡ 0 → (c.pfirst ≡ false) × (c.plast ≡ false)
  no-flags e = none-placed m (extra_of settings psd lengths bytes size) size w.sent lengths extra-small f.unfinished f.room (sym same_count ∙ e)

  pub positive : Positive ns
  positive = (kept m.width (extra_of settings psd lengths bytes size) size w.sent lengths (overhead-fits settings psd lengths bytes size m w f)).bytes (bytes_left w.sent lengths f.right f.unfinished)

  pub sendable : Sendable m c x psd ps size
  unfolding fields_for
  sendable = record {
    listed = l;
    widths = widths;
    sequence = f.sequence;
    count = sym same_count;
    none = no-flags;
    la = omega arith;
    flag = refl;
    fields = in-range w.stream settings size f.rules f.values (omega (arith, f.long));
    bytes = λ k h.
        let e : length (get_or ps k []) ≡ get_or ns k 0 = sym (get_or-map length ps k []) ∙ ap (λ (r : List ℕ). get_or r k 0) (cut-lengths ns (drop w.sent bytes) (enough settings psd lengths bytes size m w f)) in
        let p = positive-at ns k positive (omega (arith, h, same_count)) in
        omega (arith, e, p);
    displaced = λ d. last_byte (x.programmed && x.displaced) d;
    short = roofed (listable w.mode w.stream m l).width;
  }
    where
      last_byte : (b : Bool) → b ≡ true → cond b x.displacement 0 + 1 ≡ size
      last_byte true e = omega (arith, f.long)
      last_byte false e = absurd (subst T (sym e) tt)

      roofed : (m.width ≡ 12) ⊎ (m.width ≡ 16) → size ≤ roof m.width
      roofed (inl e) = let t : eqb m.width 16 ≡ false = ne_eqb m.width 16 (λ q. absurd (omega (arith, e, q))) in rw t (f.narrow e)
      roofed (inr e) = let t : eqb m.width 16 ≡ true = eq-eqb m.width 16 e in rw t (omega (arith, f.short))
