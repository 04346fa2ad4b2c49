-- What an accepted writing call makes of the packets offered: what its PDU carries, and what the PDU says to a receiver.
use mathlib.Core.Path.{◌≡◌, refl, sym, ap, ap₂, ◌∙◌}
use mathlib.Core.Bool.{Bool, true, false, ◌&&◌, cond}
use mathlib.Core.List.{List, [], ◌∷◌, map}
use Prim.Native.Nat.{ℕ, zero, suc, ◌+◌, ◌-◌, ◌%◌, ◌<◌, ◌≤◌}
use native.Mathlib.Omega.{arith}
use lib.Dec.{eqb, ltb, leb, eqb-suc-zero}
use borrow.Author.Tests.{le-leb, ltb-false}
use lib.ListN.{length, take, drop, length-drop}
use lib.Seq.{length-take-le}
use Rattle.algebra.proofs.Places.{all_join}
use Rattle.packet_log.proofs.Packets.{Bytes as log_bytes}
use Rattle.refusal.specs.Refusal.{first_of}
use Rattle.refusal.proofs.Rows.{none-at}
use Rattle.modes.specs.Modes.{listing}
use Rattle.modes.specs.declared.Mode.{Mode}
use Rattle.modes.specs.declared.Listing.TheVariants.{Listed}
use Rattle.modes.proofs.Listable.{listable}
use Rattle.layout.specs.Control.{bit, control_at}
use Rattle.layout.specs.declared.ControlWord.{ControlWord}
use Rattle.contents.proofs.Putting.{cut-count}
use Rattle.settings.specs.Settings.{wrong_values}
use Rattle.settings.specs.declared.Settings.{Settings}
use Rattle.correction.specs.Marks.{marks_refusal, corrected_with, corrected_pdu_with}
use Rattle.pdu.specs.Reading.{judged, uncorrectable}
use Rattle.pieces.specs.Pieces.{cut_by, total}
use Rattle.packing.specs.Packing.{overhead}
use Rattle.packing.proofs.Limit.{most-small, one_piece}
use Rattle.packing.proofs.Fitting.{fit-within}
use Rattle.reassembly.specs.Reassembly.{Piece, Said, following}
use Rattle.reassembly.proofs.Fitting.{SaneSaid, SanePiece, SanePieces}
use Rattle.reassembly.specs.Rights.{Label}
use Rattle.reassembly.specs.Holder.{Come}
use Rattle.receiver.specs.Receiving.{said_by, label_in, come_by}
use Rattle.writer.specs.Writing.{no_room, wrong_unfinished, writer_tests, extra_of, placed_lengths, ended_of, part_of, pieces_of, pdu_of, next_of}
use Rattle.writer.specs.declared.Writer.{Writer}
use Rattle.writer.proofs.Accepted.{Fine, fine, few}
use Rattle.writer.proofs.Sending.{extra-small}
use Rattle.writer.proofs.RoundTrip.{pdu-bytes, code-word}
use Rattle.header.specs.Header.{is_code_word}
use Rattle.runs.proofs.Model.{cut, Fits, sent_after, Plan, later, read_pieces, said_of, Sized, bytes_in}
use Rattle.runs.specs.Spans.{lose}
use Rattle.runs.specs.Transmissions.{gone}
use Rattle.runs.proofs.Transmissions.{plan_of}
use Rattle.runs.proofs.Calls.{Load, transmission_of}
use Rattle.runs.proofs.Theorem.{Unfinished, unfinished-zero}
use Rattle.writer.specs.RoundTrip.{Bytes}
use Rattle.delivery.specs.Delivery.{Packets, concatenated}
use Rattle.delivery.specs.Copies.{bytes_at, crc_at}
use Rattle.delivery.specs.Entitlement.{label_of}
use Rattle.crc.specs.Crc.{crc_from}
use Rattle.delivery.proofs.Counting.{bytes-total, fits_more, cut-more}
use Rattle.delivery.proofs.Packed.{RoomFor, placed-fits, placed-lengths, cut-joined}
use Rattle.delivery.proofs.ReadBack.{taken, sent, reads-back, control-back, at_least, at_most, crcs-right, come-back}
use Rattle.delivery.proofs.Calling.{state_at, next-sequence}

-- q with these marks, handed to a receiver of this mode, stream and register, comes as d
pub record Heard (mode stream register width : ℕ) (marks q : List ℕ) (d : Come) : Type 0 where
  pub size : (leb 96 (length q) && leb (length q) 20480) ≡ true
  pub allowed : marks_refusal marks ≡ 0
  pub correctable : uncorrectable (corrected_with marks (take 96 q)) ≡ false
  pub reads : judged (corrected_pdu_with marks q) ≡ 0
  pub same_mode : (control_at (corrected_pdu_with marks q)).mode ≡ mode
  pub same_stream : (control_at (corrected_pdu_with marks q)).stream ≡ stream
  pub comes : come_by register width (control_at (corrected_pdu_with marks q)) (corrected_pdu_with marks q) ≡ d

-- a label's numbers are within their widths
abbrev pub SaneLabel : Label → Type 0
SaneLabel l = (l.program < 8) × (l.services < 8)

-- p, as it was written by this register, comes as d
pub record Says (mode stream register width : ℕ) (p : List ℕ) (d : Come) : Type 0 where
  pub bytes : Bytes p
  pub code : is_code_word (take 96 p) ≡ true
  pub least : 96 ≤ length p
  pub most : length p ≤ 20480
  pub crcs : (k : ℕ) → k < (control_at p).nop → crc_from register (bytes_at width p p k) ≡ crc_at width p p k
  pub accepted : judged p ≡ 0
  pub same_mode : (control_at p).mode ≡ mode
  pub same_stream : (control_at p).stream ≡ stream
  pub comes : come_by register width (control_at p) p ≡ d
  pub sane : SaneSaid d.said
  pub labelled : SaneLabel d.label

-- what a PDU says, and its label, as it comes
pub said_in : (register width : ℕ) (c : ControlWord) (y : List ℕ) → (come_by register width c y).said ≡ said_by register width c y
unfolding come_by
said_in register width c y = refl

pub label-in : (register width : ℕ) (c : ControlWord) (y : List ℕ) → (come_by register width c y).label ≡ label_in width c y
unfolding come_by
label-in register width c y = refl

taken-read : (bs : List (List ℕ)) → taken bs ≡ read_pieces (λ k. 0) bs
unfolding read_pieces
taken-read [] = refl
taken-read (b ∷ bs) = ap (λ (l : List Piece). record { cause = 0; bytes = b } ∷ l) (taken-read bs)

-- ---- bytes

pub bytes_of : (b : List ℕ) → Bytes b → log_bytes b
bytes_of [] h = tt
bytes_of (x ∷ b) h = (h.0, bytes_of b h.1)

pub bytes_drop : (n : ℕ) (b : List ℕ) → Bytes b → Bytes (drop n b)
bytes_drop zero b h = h
bytes_drop (suc n) [] h = tt
bytes_drop (suc n) (x ∷ b) h = bytes_drop n b h.1

pub bytes_take : (n : ℕ) (b : List ℕ) → Bytes b → Bytes (take n b)
bytes_take zero b h = tt
bytes_take (suc n) [] h = tt
bytes_take (suc n) (x ∷ b) h = (h.0, bytes_take n b h.1)

pub sized_of : (ps : List (List ℕ)) → Packets ps → Sized ps
sized_of [] y = tt
sized_of (p ∷ ps) y = (y.0, y.1, sized_of ps y.3)

packets-take : (k : ℕ) (ps : List (List ℕ)) → Packets ps → Packets (take k ps)
packets-take zero ps y = tt
packets-take (suc k) [] y = tt
packets-take (suc k) (p ∷ ps) y = (y.0, y.1, y.2, packets-take k ps y.3)

packets-drop : (k : ℕ) (ps : List (List ℕ)) → Packets ps → Packets (drop k ps)
packets-drop zero ps y = y
packets-drop (suc k) [] y = tt
packets-drop (suc k) (p ∷ ps) y = packets-drop k ps y.3

joined_bytes : (ps : List (List ℕ)) → Packets ps → Bytes (concatenated ps)
joined_bytes [] y = tt
joined_bytes (p ∷ ps) y = all_join (λ x. x < 256) p (concatenated ps) y.2 (joined_bytes ps y.3)

-- the pieces of a PDU have bytes
sane-piece : (b : List ℕ) → Bytes b → 1 ≤ length b → SanePiece (record { cause = 0; bytes = b })
sane-piece b h l = record { bytes = bytes_of b h; some = l; cause = omega arith }

sane-cut : (s e t : ℕ) (rest : List (List ℕ)) → Fits s e t rest → Packets rest → Unfinished s rest → SanePieces (read_pieces (λ k. 0) (cut s e t rest))
unfolding cut read_pieces
sane-cut s e t [] h y u = tt
sane-cut s zero zero (p ∷ ps) h y u = tt
sane-cut s zero (suc t) (p ∷ ps) h y u =
    let d = length-drop s p in
    let n : length (take (suc t) (drop s p)) ≡ suc t = length-take-le (suc t) (drop s p) (omega (arith, d, h)) in
    (sane-piece (take (suc t) (drop s p)) (bytes_take (suc t) (drop s p) (bytes_drop s p y.2)) (omega (arith, n)), tt)
sane-cut s (suc e) t (p ∷ ps) h y u =
    let d = length-drop s p in
    (sane-piece (drop s p) (bytes_drop s p y.2) (omega (arith, d)), sane-cut 0 e t ps h y.3 (unfinished-zero ps (sized_of ps y.3)))

read_count : (f : ℕ → ℕ) (bs : List (List ℕ)) → length (read_pieces f bs) ≡ length bs
unfolding read_pieces
read_count f [] = refl
read_count f (b ∷ bs) = ap suc (read_count (later f) bs)

-- a PDU that ends e packets, carries t bytes of the next, this PSD and this label
abbrev pub load_of : ℕ → ℕ → List ℕ → Label → Load
load_of e t psd label = record { whole = e; over = t; psd_bytes = psd; label = label }

abbrev pub plan_for : Load → Plan
plan_for c = plan_of (transmission_of c gone) lose

-- with an unfinished packet, one is offered, and a byte of it has room
offered-room : (m : Mode) (extra size s : ℕ) (ns : List ℕ) → extra ≤ 128 → wrong_unfinished s ns ≡ false → no_room m extra size ns ≡ false → RoomFor m.width extra size 0 0 s
offered-room m extra size s [] x u r h = absurd (let q = ltb-false 0 s u in omega (arith, q, h))
offered-room m extra size s (n ∷ ns) x u r h =
    let q = ltb-false size (overhead m.width extra 1 + 2) r in
    sym (fit-within m.width extra size 1 (0 + 2) (one_piece m.width extra x)) ∙ le-leb (overhead m.width extra 1 + (0 + 2)) size (omega (arith, q))

offered-unfinished : (s k : ℕ) (rest : List (List ℕ)) → wrong_unfinished s (map length (take k rest)) ≡ false → Unfinished s rest → Unfinished s (take k rest)
offered-unfinished s zero rest u h = let q = ltb-false 0 s u in omega (arith, q)
offered-unfinished s (suc k) [] u h = h
offered-unfinished s (suc k) (p ∷ ps) u h = h

-- a value of three bits where it is sent
width_of : (b : Bool) (n : ℕ) → (b && ltb 7 n) ≡ false → cond b n 0 < 8
width_of true n e = let h = ltb-false 7 n e in omega (arith, h)
width_of false n e = omega arith

sent_is : (s e t : ℕ) → cond (eqb e 0) s 0 + t ≡ sent_after s e t
sent_is s zero t = refl
sent_is s (suc e) t = rw (eqb-suc-zero e) (omega arith)

same_start : (i : ℕ) (b : Bool) → (i % 64 + bit b) % 64 ≡ (i + cond b 1 0) % 64
same_start i true = omega arith
same_start i false = omega arith

module _ (mode stream register : ℕ) (m : Mode) (l : listing mode stream ≡ Listed m) (ps : List (List ℕ)) (q i s : ℕ) where
  -- what an accepted call makes, of packets offered from packet i on
  pub record Made (settings : Settings) (psd lengths bytes : List ℕ) (size : ℕ) : Type 0 where
    pub fits : Fits s (ended_of settings psd lengths bytes size m (state_at mode stream register q i s)) (part_of settings psd lengths bytes size m (state_at mode stream register q i s)) (drop i ps)
    pub counts : total (placed_lengths settings psd lengths bytes size m (state_at mode stream register q i s))
        ≡ bytes_in (cut s (ended_of settings psd lengths bytes size m (state_at mode stream register q i s)) (part_of settings psd lengths bytes size m (state_at mode stream register q i s)) (drop i ps))
    pub says : Says mode stream register m.width (pdu_of settings psd lengths bytes size m (state_at mode stream register q i s))
        (record {
          said = said_of q i s (plan_for (load_of (ended_of settings psd lengths bytes size m (state_at mode stream register q i s)) (part_of settings psd lengths bytes size m (state_at mode stream register q i s)) psd (label_of settings))) false (λ k. 0) (drop i ps);
          label = label_of settings;
        })
    pub next : next_of settings psd lengths bytes size m (state_at mode stream register q i s)
        ≡ state_at mode stream register (following m.sequences q) (i + ended_of settings psd lengths bytes size m (state_at mode stream register q i s)) (sent_after s (ended_of settings psd lengths bytes size m (state_at mode stream register q i s)) (part_of settings psd lengths bytes size m (state_at mode stream register q i s)))

  module _ (settings : Settings) (psd : List ℕ) (k size : ℕ) (hp : Bytes psd) (y : Packets ps) (u : Unfinished s (drop i ps)) (hq : q < m.sequences)
      (t : first_of (writer_tests settings psd (map length (take k (drop i ps))) (concatenated (take k (drop i ps))) size m (state_at mode stream register q i s)) ≡ 0) where
    abbrev os : List (List ℕ)
    os = take k (drop i ps)

    abbrev w : Writer
    w = state_at mode stream register q i s

    abbrev extra : ℕ
    extra = extra_of settings psd (map length os) (concatenated os) size

    abbrev ended : ℕ
    ended = ended_of settings psd (map length os) (concatenated os) size m w

    abbrev over : ℕ
    over = part_of settings psd (map length os) (concatenated os) size m w

    f : Fine settings psd (map length os) (concatenated os) size m w
    f = fine settings psd (map length os) (concatenated os) size m w t

    yo : Packets os
    yo = packets-take k (drop i ps) (packets-drop i ps y)

    uo : Unfinished s os
    uo = offered-unfinished s k (drop i ps) f.unfinished u

    fo : Fits s ended over os
    fo = placed-fits m.width extra size os 0 0 s (sized_of os yo) uo (offered-room m extra size s (map length os) (extra-small settings psd (map length os) (concatenated os) size m w f l) f.unfinished f.room)

    lengths-are : placed_lengths settings psd (map length os) (concatenated os) size m w ≡ map length (cut s ended over os)
    lengths-are = placed-lengths m.width extra size os 0 0 s fo

    more : cut s ended over os ≡ cut s ended over (drop i ps)
    more = cut-more s ended over k (drop i ps) fo

    pieces_are : pieces_of settings psd (map length os) (concatenated os) size m w ≡ cut s ended over (drop i ps)
    pieces_are = ap (λ (ns : List ℕ). cut_by ns (drop s (concatenated os))) lengths-are ∙ cut-joined s ended over os fo (sized_of os yo) uo ∙ more

    said-is : sent settings psd (map length os) (concatenated os) size m w l t hp (joined_bytes os yo) ≡ said_of q i s (plan_for (load_of ended over psd (label_of settings))) false (λ k. 0) (drop i ps)
    said-is =
        ap₂ (λ (n : ℕ) (b : List Piece). record { sequence = q; pfirst = ltb 0 s; plast = ltb 0 over; start = n; psd_bytes = psd; pieces = b; withheld = false }) (same_start i (ltb 0 s))
        (taken-read (pieces_of settings psd (map length os) (concatenated os) size m w) ∙ ap (read_pieces (λ k. 0)) pieces_are)

    counted : length (cut s ended over (drop i ps)) ≡ length (placed_lengths settings psd (map length os) (concatenated os) size m w)
    counted = sym (ap length pieces_are) ∙ cut-count (placed_lengths settings psd (map length os) (concatenated os) size m w) (drop s (concatenated os))

    pub made : Made settings psd (map length os) (concatenated os) size
    made =
        let fs = fits_more s ended over k (drop i ps) fo in
        record {
          fits = fs;
          counts = ap total lengths-are ∙ bytes-total (cut s ended over os) ∙ ap bytes_in more;
          says = record {
            bytes = pdu-bytes settings psd (map length os) (concatenated os) size m w l t hp (joined_bytes os yo);
            code = code-word settings psd (map length os) (concatenated os) size m w l t hp (joined_bytes os yo);
            least = at_least settings psd (map length os) (concatenated os) size m w l t hp (joined_bytes os yo);
            most = at_most settings psd (map length os) (concatenated os) size m w l t hp (joined_bytes os yo);
            crcs = crcs-right settings psd (map length os) (concatenated os) size m w l t hp (joined_bytes os yo);
            accepted = reads-back settings psd (map length os) (concatenated os) size m w l t hp (joined_bytes os yo);
            same_mode = ap (λ (c : ControlWord). c.mode) (control-back settings psd (map length os) (concatenated os) size m w l t hp (joined_bytes os yo));
            same_stream = ap (λ (c : ControlWord). c.stream) (control-back settings psd (map length os) (concatenated os) size m w l t hp (joined_bytes os yo));
            comes = ap (λ (c : ControlWord). come_by register m.width c (pdu_of settings psd (map length os) (concatenated os) size m w)) (control-back settings psd (map length os) (concatenated os) size m w l t hp (joined_bytes os yo))
                ∙ come-back settings psd (map length os) (concatenated os) size m w l t hp (joined_bytes os yo)
                ∙ ap (λ (d : Said). record { said = d; label = label_of settings }) said-is;
            labelled = (width_of settings.programmed settings.program (none-at (wrong_values stream settings) 7 f.values), width_of settings.serviced settings.services (none-at (wrong_values stream settings) 10 f.values));
            sane = record {
              psd = (let e = f.extra in let b = (listable mode stream m l).limit in omega (arith, e, b), bytes_of psd hp);
              pieces = sane-cut s ended over (drop i ps) fs (packets-drop i ps y) u;
              few = (let n = few settings psd (map length os) (concatenated os) size m w f in let b = most-small m.width extra in let c = read_count (λ k. 0) (cut s ended over (drop i ps)) in omega (arith, n, b, c, counted));
            };
          };
          next = ap₂ (λ (a b : ℕ). record { mode = mode; stream = stream; register = register; sequence = a; number = (i % 64 + ended) % 64; sent = b }) (next-sequence m.sequences q hq) (sent_is s ended over)
              ∙ ap (λ (n : ℕ). record { mode = mode; stream = stream; register = register; sequence = following m.sequences q; number = n; sent = sent_after s ended over }) (wrapped i ended);
        }
      where
        wrapped : (i e : ℕ) → (i % 64 + e) % 64 ≡ (i + e) % 64
        wrapped i e = omega arith
