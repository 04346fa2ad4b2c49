-- Document 00, demand 2: reading a PDU that an accepted call wrote gives its fields, PSD and pieces, every CRC right; its header is a
-- code word; and with at most four of the first 96 bytes altered it is the same.
use mathlib.Core.Path.{◌≡◌, refl, sym, ap, subst, ◌∙◌}
use mathlib.Core.Bool.{Bool, true, false, cond}
use mathlib.Core.List.{List, [], ◌++◌, append_assoc}
use Prim.Native.Nat.{ℕ, ◌+◌, ◌-◌}
use native.Mathlib.Omega.{arith}
use lib.Dec.{eqb}
use borrow.Author.Tests.{eqb-true, eqb-false}
use lib.ListN.{length, get_or, take, drop, replicate, length-append, length-replicate, length-drop, take-append-drop}
use lib.Seq.{slice, length-take-le}
use Rattle.algebra.specs.Places.{All}
use Rattle.algebra.proofs.Places.{all_join}
use Rattle.refusal.specs.Refusal.{first_of}
use Rattle.modes.specs.Modes.{listing}
use Rattle.modes.specs.declared.Mode.{Mode}
use Rattle.modes.specs.declared.Listing.{Listing}
use Rattle.modes.specs.declared.Listing.TheVariants.{Listed, Refused}
use Rattle.modes.proofs.Listable.{listable}
use Rattle.header.specs.Header.{is_code_word, remainder, parity_of}
use Rattle.header.proofs.Unique.{written-code-word, all-bytes, all_take, all_drop, bytes-all}
use Rattle.header.proofs.Division.{parity-length, remainder-bytes}
use Rattle.header.proofs.Lengths.{length-allowed, parity-written}
use Rattle.correction.specs.Correction.{Near, corrected_pdu}
use Rattle.correction.proofs.Theorem.{corrects, corrects-with}
use Rattle.layout.specs.Control.{control_at, control_bytes}
use Rattle.layout.specs.declared.ControlWord.{ControlWord}
use Rattle.layout.specs.Locators.{locator_size}
use Rattle.settings.specs.Settings.{fields_for}
use Rattle.settings.specs.declared.Settings.{Settings}
use Rattle.packing.specs.Packing.{overhead}
use Rattle.contents.specs.Contents.{contents}
use Rattle.pdu.specs.Reading.{fields_of, psd_of, judged, width_of, read_number}
use Rattle.pdu.proofs.Restoring.{corrected-number}
use Rattle.pdu.specs.PieceRead.{PieceRead}
use Rattle.pdu.proofs.ReadBack.{Sendable, control-back, accepted-back, width_back, fields_back, psd-place, psd-bytes, pieces-read, read-accepted, answer-fields, answer-psd}
use Rattle.writer.specs.Writing.{expansion_of, extra_of, writer_tests, placed_lengths, pieces_of, control_for, written, pdu_of, accepted_answer, refused_write, answer_in, pdu_in, write_answer, written_pdu}
use Rattle.writer.specs.RoundTrip.{Bytes, Altered, ReadBack, RoundTrip, Demand2}
use Rattle.writer.specs.declared.Writer.{Writer}
use Rattle.writer.proofs.Accepted.{Fine, fine, enough, fits, la-fits}
use Rattle.writer.proofs.Composed.{whole_length, first-place}
use Rattle.writer.proofs.Bytes.{Byte, all-contents, all-zeros}
use Rattle.writer.proofs.Sending.{positive, sendable}
use Rattle.writer.proofs.Advancing.{byte-sent}

module _ (settings : Settings) (psd lengths bytes : List ℕ) (size : ℕ) (m : Mode) (w : Writer) (l : listing w.mode w.stream ≡ Listed m)
    (t : first_of (writer_tests settings psd lengths bytes size m w) ≡ 0) (hp : All Byte psd) (hb : All Byte bytes) where
  abbrev c : ControlWord
  c = control_for settings psd lengths bytes size m w

  abbrev whole : List ℕ
  whole = written settings psd lengths bytes size m w

  abbrev zeros : List ℕ
  zeros = replicate (size - (8 + length whole)) 0

  abbrev p : List ℕ
  p = pdu_of settings psd lengths bytes size m w

  f : Fine settings psd lengths bytes size m w
  f = fine settings psd lengths bytes size m w t

  -- the PDU before its parity is written
  base : List ℕ
  base = replicate 8 0 ++ (whole ++ zeros)

  base-length : length base ≡ size
  unfolding base
  base-length =
      let n : length (whole ++ zeros) ≡ length whole + length zeros = length-append whole zeros in
      let z : length zeros ≡ size - (8 + length whole) = length-replicate (size - (8 + length whole)) 0 in
      let h = fits settings psd lengths bytes size m w f in
      let k = whole_length settings psd lengths bytes size m w f in
      omega (arith, n, z, h, k)

  base-bytes : All Byte base
  unfolding base
  base-bytes =
      let a = la-fits settings psd lengths bytes size m w f (listable w.mode w.stream m l).limit in
      let o = overhead m.width (extra_of settings psd lengths bytes size) (length (placed_lengths settings psd lengths bytes size m w)) in
      let e : o - 1 ≡ c.la = first-place settings psd lengths bytes size m w f o refl in
      all_join Byte (replicate 8 0) (whole ++ zeros) (all-zeros 8)
      (all_join Byte whole zeros
      (all-contents w.register m.width c (fields_for settings size) psd (placed_lengths settings psd lengths bytes size m w) (drop w.sent bytes) (omega (arith, a, e)) (positive settings psd lengths bytes size m w f l) (enough settings psd lengths bytes size m w f) hp (all_drop w.sent bytes hb))
      (all-zeros (size - (8 + length whole))))

  -- parity, control word, contents and zeros
  abbrev parity : List ℕ
  parity = parity_of base

  parts : p ≡ parity ++ (control_bytes c ++ (contents w.register m.width (expansion_of settings psd lengths bytes size) psd (pieces_of settings psd lengths bytes size m w) ++ zeros))
  unfolding pdu_of base
  parts =
      parity-written base (length-allowed (length base) (omega (arith, base-length, f.long)) (omega (arith, base-length, f.short)))
      ∙ ap (λ (r : List ℕ). parity ++ r) (append_assoc (control_bytes c) (contents w.register m.width (expansion_of settings psd lengths bytes size) psd (pieces_of settings psd lengths bytes size m w)) zeros)

  pub pdu-length : length p ≡ size
  unfolding pdu_of base
  pdu-length =
      let e = parity-written base (length-allowed (length base) (omega (arith, base-length, f.long)) (omega (arith, base-length, f.short))) in
      let n = length-append parity (drop 8 base) in
      let d = length-drop 8 base in
      let k = parity-length base in
      ap length e ∙ omega (arith, n, d, k, base-length, f.long)

  pub pdu-bytes : All Byte p
  unfolding parity_of pdu_of base
  pdu-bytes =
      let e = parity-written base (length-allowed (length base) (omega (arith, base-length, f.long)) (omega (arith, base-length, f.short))) in
      let h : All Byte (slice 8 96 base) = all_drop 8 (take 96 base) (all_take 96 base (all-bytes base base-bytes)) in
      subst (All Byte) (sym e)
      (all_join Byte parity (drop 8 base) (bytes-all (remainder (slice 8 96 base)) (remainder-bytes (slice 8 96 base) (all-bytes (slice 8 96 base) h))) (all_drop 8 base base-bytes))

  -- the header is a code word
  pub code-word : is_code_word (take 96 p) ≡ true
  unfolding pdu_of base
  code-word = written-code-word base (omega (arith, base-length, f.long)) (omega (arith, base-length, f.short)) (all-bytes base base-bytes)

  abbrev sends : List ℕ
  sends = parity ++ (control_bytes c ++ (contents w.register m.width (expansion_of settings psd lengths bytes size) psd (pieces_of settings psd lengths bytes size m w) ++ zeros))

  able : Sendable m c (fields_for settings size) psd (pieces_of settings psd lengths bytes size m w) (length sends)
  able = subst (λ (n : ℕ). Sendable m c (fields_for settings size) psd (pieces_of settings psd lengths bytes size m w) n) (sym pdu-length ∙ ap length parts) (sendable settings psd lengths bytes size m w f l)

  module _ (q : List ℕ) (a : Altered p q) where
    near : Near 4 (take 96 q) (take 96 p)
    near =
        let n : length (take 96 p) ≡ 96 = length-take-le 96 p (omega (arith, pdu-length, f.long)) in
        let k : length (take 96 q) ≡ 96 = length-take-le 96 q (omega (arith, pdu-length, a.long, f.long)) in
        record { right = code-word; close = (let f = a.few in omega (arith, f)); long = n ∙ sym k; bytes = all_take 96 p (all-bytes p pdu-bytes) }

    corrected-back : corrected_pdu q ≡ p
    corrected-back =
        (corrects q (omega (arith, pdu-length, a.long, f.long)) (omega (arith, pdu-length, a.long, f.short)) (all-bytes q a.bytes)).header (take 96 p) near
        ∙ ap (λ (r : List ℕ). take 96 p ++ r) a.rest
        ∙ take-append-drop 96 p

    pub read_back : ReadBack settings psd lengths bytes size w m p q
    read_back =
        let ps = pieces_of settings psd lengths bytes size m w in
        let x = fields_for settings size in
        let e = (corrects q (omega (arith, pdu-length, a.long, f.long)) (omega (arith, pdu-length, a.long, f.short)) (all-bytes q a.bytes)).answer (take 96 p) near in
        let z : judged p ≡ 0 = ap judged parts ∙ accepted-back w.register m c x psd ps parity zeros (parity-length base) able in
        let k : read_number q ≡ 0 = corrected-number q _ e ∙ ap judged corrected-back ∙ z in
        let o : control_at p ≡ c = ap control_at parts ∙ control-back w.register m c x psd ps parity zeros (parity-length base) able in
        let d : width_of p ≡ m.width = ap width_of parts ∙ width_back w.register m c x psd ps parity zeros (parity-length base) able in
        let r = read-accepted q p m.width c k corrected-back d o in
        record {
          number = k;
          pdu = r.0;
          answer = r.1;
          fields = answer-fields m.width c p x (ap (fields_of m.width c) parts ∙ fields_back w.register m c x psd ps parity zeros (parity-length base) able);
          place = answer-psd m.width c p _ (ap (psd_of m.width c) parts ∙ psd-place w.register m c x psd ps parity zeros (parity-length base) able);
          psd-read = ap (λ (y : List ℕ). take (length psd) (drop (14 + locator_size m.width (length ps) + length (expansion_of settings psd lengths bytes size)) y)) parts ∙ psd-bytes w.register m c x psd ps parity zeros (parity-length base) able;
          pieces = λ i h. subst (λ (y : List ℕ). PieceRead w.register m.width c y i (get_or ps i [])) (sym parts) (pieces-read w.register m c x psd ps parity zeros (parity-length base) able i h);
        }

-- the round trip of every accepted call
pub round_trip : (settings : Settings) (psd lengths bytes : List ℕ) (size : ℕ) (w : Writer) (before : List ℕ) → Bytes psd → Bytes bytes
    → (write_answer settings psd lengths bytes size w).refusal ≡ 0 → RoundTrip settings psd lengths bytes size w (written_pdu settings psd lengths bytes size w before)
unfolding write_answer written_pdu
round_trip settings psd lengths bytes size w before hp hb = go (listing w.mode w.stream) refl
  where
    listed : (m : Mode) → listing w.mode w.stream ≡ Listed m → first_of (writer_tests settings psd lengths bytes size m w) ≡ 0 → RoundTrip settings psd lengths bytes size w (pdu_of settings psd lengths bytes size m w)
    listed m l t = record {
      mode = m;
      listed = l;
      long = pdu-length settings psd lengths bytes size m w l t hp hb;
      header = code-word settings psd lengths bytes size m w l t hp hb;
      back = λ q a. read_back settings psd lengths bytes size m w l t hp hb q a;
    }

    by : (m : Mode) → listing w.mode w.stream ≡ Listed m → (b : Bool) → eqb (first_of (writer_tests settings psd lengths bytes size m w)) 0 ≡ b
        → (cond b (accepted_answer settings psd lengths bytes size m w) (refused_write w (first_of (writer_tests settings psd lengths bytes size m w)))).refusal ≡ 0
        → RoundTrip settings psd lengths bytes size w (cond b (pdu_of settings psd lengths bytes size m w) before)
    by m l true e h = listed m l (eqb-true (first_of (writer_tests settings psd lengths bytes size m w)) 0 e)
    by m l false e h = absurd (eqb-false (first_of (writer_tests settings psd lengths bytes size m w)) 0 e h)

    go : (k : Listing) → listing w.mode w.stream ≡ k → (answer_in settings psd lengths bytes size k w).refusal ≡ 0 → RoundTrip settings psd lengths bytes size w (pdu_in settings psd lengths bytes size k w before)
    go (Refused n) e h = absurd (omega (arith, h))
    go (Listed m) e h = by m e (eqb (first_of (writer_tests settings psd lengths bytes size m w)) 0) refl h

-- a call that no row of the table refuses is accepted
accepts : (settings : Settings) (psd lengths bytes : List ℕ) (size : ℕ) (w : Writer) (m : Mode) → listing w.mode w.stream ≡ Listed m
    → first_of (writer_tests settings psd lengths bytes size m w) ≡ 0 → (write_answer settings psd lengths bytes size w).refusal ≡ 0
unfolding write_answer
accepts settings psd lengths bytes size w m l t =
    ap (λ (k : Listing). (answer_in settings psd lengths bytes size k w).refusal) l
    ∙ ap (λ (n : ℕ). (cond (eqb n 0) (accepted_answer settings psd lengths bytes size m w) (refused_write w n)).refusal) t

pub demand2 : Demand2
demand2 = record {
  corrects = λ p lo hi b. corrects p lo hi (all-bytes p b);
  corrects-with = λ marks p ok lo hi b. corrects-with p lo hi (all-bytes p b) marks ok;
  accepts = accepts;
  sends = λ settings psd lengths bytes size w m l h. byte-sent settings psd lengths bytes size w m l h;
  reads = round_trip;
}
