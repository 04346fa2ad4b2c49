-- What a list of writing calls on a fresh writer makes, PDU by PDU: what each carries, where its bytes stand among the packets joined, and
-- what it says to a receiver.
use mathlib.Core.Path.{◌≡◌, refl, sym, ap, ap₂, subst, ◌∙◌}
use mathlib.Core.Bool.{Bool, true, false, not, cond}
use mathlib.Core.List.{List, [], ◌∷◌, ◌++◌, map}
use Prim.Native.Nat.{ℕ, ◌+◌, ◌%◌, ◌<◌}
use lib.Dec.{eqb}
use borrow.Author.Tests.{eqb-true}
use lib.ListN.{length, take, drop}
use Rattle.refusal.specs.Refusal.{first_of}
use Rattle.modes.specs.Modes.{listing}
use Rattle.modes.specs.declared.Mode.{Mode}
use Rattle.modes.specs.declared.Listing.{Listing}
use Rattle.modes.specs.declared.Listing.TheVariants.{Listed}
use Rattle.pdu.specs.Reading.{mode_in}
use Rattle.pieces.specs.Pieces.{total}
use Rattle.reassembly.specs.Reassembly.{following}
use Rattle.reassembly.specs.Rights.{Label}
use Rattle.writer.specs.Writing.{writer_tests, placed_lengths, ended_of, part_of, pdu_of}
use Rattle.writer.specs.declared.Writer.{Writer}
use Rattle.runs.proofs.Model.{cut, Fits, sent_after, said_of, bytes_in}
use Rattle.runs.specs.Spans.{Span, packet_at}
use Rattle.runs.proofs.Calls.{Load, labels_of}
use Rattle.delivery.specs.Delivery.{Packets, concatenated, Writing, answer_to, buffer_after, pdus_from, Offers, told, refused_at, placed_at, spans_from, InOrder}
use Rattle.delivery.specs.Entitlement.{label_of, labels_from}
use Rattle.runs.proofs.Spans.{Stands, stands-next}
use Rattle.delivery.proofs.Counting.{stands-index, stands-sent}
use Rattle.delivery.proofs.Calling.{state_at, next-in-range, number_at, same_number, refusal_is, refused-writer, accepted-writer, accepted-pdu}
use Rattle.delivery.proofs.Made.{Says, sized_of, load_of, plan_for, Made, made}

-- the PDUs, their bytes and their loads, from PDU sequence q and G at g on, with packet i unfinished and s of its bytes sent
pub data Course (mode stream register : ℕ) (m : Mode) (ps : List (List ℕ)) : ℕ → ℕ → ℕ → ℕ → List (List ℕ) → List Span → List Load → Type 0 where
  done : {q g i s : ℕ} → Course mode stream register m ps q g i s [] [] []
  next : {q g i s e t : ℕ} {psd p : List ℕ} {label : Label} {pdus : List (List ℕ)} {spans : List Span} {loads : List Load}
      → Fits s e t (drop i ps)
      → Says mode stream register m.width p (record { said = said_of q i s (plan_for (load_of e t psd label)) false (λ k. 0) (drop i ps); label = label })
      → Course mode stream register m ps (following m.sequences q) (g + bytes_in (cut s e t (drop i ps))) (i + e) (sent_after s e t) pdus spans loads
      → Course mode stream register m ps q g i s (p ∷ pdus) (record { from = g; count = bytes_in (cut s e t (drop i ps)) } ∷ spans) (load_of e t psd label ∷ loads)

module _ (mode stream register : ℕ) (m : Mode) (l : listing mode stream ≡ Listed m) (ps : List (List ℕ)) (y : Packets ps) where
  -- a course with some loads, which have these labels
  pub record Runs (q g i s : ℕ) (pdus : List (List ℕ)) (spans : List Span) (labels : List Label) : Type 0 where
    pub loads : List Load
    pub course : Course mode stream register m ps q g i s pdus spans loads
    pub labelled : labels_of loads ≡ labels

  module _ (q g i s : ℕ) (a : Writing) (al : List Writing) (hq : q < m.sequences) (v : Stands ps g i s) where
    abbrev w : Writer
    w = state_at mode stream register q i s

    abbrev n : ℕ
    n = number_at mode stream register m l q i s a

    told_is : told mode stream ps g ≡ state_at mode stream 0 0 i s
    told_is = ap₂ (λ (x z : ℕ). record { mode = mode; stream = stream; register = 0; sequence = 0; number = x % 64; sent = z }) (stands-index ps g i s v) (stands-sent ps g i s v)

    -- G's table and the writer's agree
    table_is : refused_at mode stream ps g a ≡ not (eqb n 0)
    table_is =
        ap (λ (x : Writer). not (eqb (answer_to x a).refusal 0)) told_is
        ∙ ap (λ (x : ℕ). not (eqb x 0)) (refusal_is mode stream 0 m l 0 i s a ∙ sym (same_number mode stream register m l q i s a hq))

    writer-is : eqb (answer_to w a).refusal 0 ≡ eqb n 0
    writer-is = ap (λ (x : ℕ). eqb x 0) (refusal_is mode stream register m l q i s a)

    placed-is : placed_at mode stream ps g a ≡ total (placed_lengths a.settings a.psd a.lengths a.bytes (length a.buffer) m w)
    placed-is =
        ap₂ (λ (k : Listing) (x : Writer). total (placed_lengths a.settings a.psd a.lengths a.bytes (length a.buffer) (mode_in k) x)) l told_is

    -- a refused call makes nothing
    refused-pdus : eqb n 0 ≡ false → pdus_from w (a ∷ al) ≡ pdus_from w al
    unfolding pdus_from
    refused-pdus e =
        ap₂ (λ (b : Bool) (x : Writer). cond b (buffer_after w a ∷ []) [] ++ pdus_from x al) (writer-is ∙ e) (refused-writer mode stream register m l q i s a e)

    refused-spans : eqb n 0 ≡ false → spans_from mode stream ps g (a ∷ al) ≡ spans_from mode stream ps g al
    unfolding spans_from
    refused-spans e =
        ap (λ (b : Bool). cond b (spans_from mode stream ps g al) (record { from = g; count = placed_at mode stream ps g a } ∷ spans_from mode stream ps (g + placed_at mode stream ps g a) al)) (table_is ∙ ap not e)

    refused-labels : eqb n 0 ≡ false → labels_from mode stream ps g (a ∷ al) ≡ labels_from mode stream ps g al
    unfolding labels_from
    refused-labels e = ap (λ (b : Bool). cond b (labels_from mode stream ps g al) (label_of a.settings ∷ labels_from mode stream ps (g + placed_at mode stream ps g a) al)) (table_is ∙ ap not e)

    refused-case : eqb n 0 ≡ false → Runs q g i s (pdus_from w al) (spans_from mode stream ps g al) (labels_from mode stream ps g al)
        → Runs q g i s (pdus_from w (a ∷ al)) (spans_from mode stream ps g (a ∷ al)) (labels_from mode stream ps g (a ∷ al))
    refused-case e r = record {
      loads = r.loads;
      course = subst (λ (d : List (List ℕ)). Course mode stream register m ps q g i s d (spans_from mode stream ps g (a ∷ al)) r.loads) (sym (refused-pdus e)) (subst (λ (k : List Span). Course mode stream register m ps q g i s (pdus_from w al) k r.loads) (sym (refused-spans e)) r.course);
      labelled = r.labelled ∙ sym (refused-labels e);
    }

    -- an accepted one makes a PDU
    module _ (x : Made mode stream register m l ps q i s a.settings a.psd a.lengths a.bytes (length a.buffer)) where
      abbrev e : ℕ
      e = ended_of a.settings a.psd a.lengths a.bytes (length a.buffer) m w

      abbrev t : ℕ
      t = part_of a.settings a.psd a.lengths a.bytes (length a.buffer) m w

      abbrev grown : ℕ
      grown = g + bytes_in (cut s e t (drop i ps))

      abbrev after : Writer
      after = state_at mode stream register (following m.sequences q) (i + e) (sent_after s e t)

      g-grows : placed_at mode stream ps g a ≡ bytes_in (cut s e t (drop i ps))
      g-grows = placed-is ∙ x.counts

      made-pdus : eqb n 0 ≡ true → pdus_from w (a ∷ al) ≡ pdu_of a.settings a.psd a.lengths a.bytes (length a.buffer) m w ∷ pdus_from after al
      unfolding pdus_from
      made-pdus z =
          ap₂ (λ (b : Bool) (r : Writer). cond b (buffer_after w a ∷ []) [] ++ pdus_from r al) (writer-is ∙ z) (accepted-writer mode stream register m l q i s a z ∙ x.next)
          ∙ ap (λ (p : List ℕ). p ∷ pdus_from after al) (accepted-pdu mode stream register m l q i s a z)

      made-spans : eqb n 0 ≡ true → spans_from mode stream ps g (a ∷ al) ≡ record { from = g; count = bytes_in (cut s e t (drop i ps)) } ∷ spans_from mode stream ps grown al
      unfolding spans_from
      made-spans z =
          ap₂ (λ (b : Bool) (c : ℕ). cond b (spans_from mode stream ps g al) (record { from = g; count = c } ∷ spans_from mode stream ps (g + c) al)) (table_is ∙ ap not z) g-grows

      made_labels : eqb n 0 ≡ true → labels_from mode stream ps g (a ∷ al) ≡ label_of a.settings ∷ labels_from mode stream ps grown al
      unfolding labels_from
      made_labels z =
          ap₂ (λ (b : Bool) (c : ℕ). cond b (labels_from mode stream ps g al) (label_of a.settings ∷ labels_from mode stream ps (g + c) al)) (table_is ∙ ap not z) g-grows

      made-case : eqb n 0 ≡ true → Runs (following m.sequences q) grown (i + e) (sent_after s e t) (pdus_from after al) (spans_from mode stream ps grown al) (labels_from mode stream ps grown al)
          → Runs q g i s (pdus_from w (a ∷ al)) (spans_from mode stream ps g (a ∷ al)) (labels_from mode stream ps g (a ∷ al))
      made-case z r =
          let ls : List Load = load_of e t a.psd (label_of a.settings) ∷ r.loads in
          let pdus : List (List ℕ) = pdu_of a.settings a.psd a.lengths a.bytes (length a.buffer) m w ∷ pdus_from after al in
          let c : Course mode stream register m ps q g i s pdus (record { from = g; count = bytes_in (cut s e t (drop i ps)) } ∷ spans_from mode stream ps grown al) ls =
          next {psd = a.psd} {label = label_of a.settings} x.fits x.says r.course in
          record {
            loads = ls;
            course = subst (λ (d : List (List ℕ)). Course mode stream register m ps q g i s d (spans_from mode stream ps g (a ∷ al)) ls) (sym (made-pdus z)) (subst (λ (k : List Span). Course mode stream register m ps q g i s pdus k ls) (sym (made-spans z)) c);
            labelled = ap (λ (k : List Label). label_of a.settings ∷ k) r.labelled ∙ sym (made_labels z);
          }

    -- of the packets offered
    made_of : n ≡ 0 → Offers (drop (packet_at ps g) ps) a → Made mode stream register m l ps q i s a.settings a.psd a.lengths a.bytes (length a.buffer)
    made_of z o =
        let k = o.0 in
        let f : drop (packet_at ps g) ps ≡ drop i ps = ap (λ (j : ℕ). drop j ps) (stands-index ps g i s v) in
        let el : a.lengths ≡ map length (take k (drop i ps)) = o.1 ∙ ap (λ (r : List (List ℕ)). map length (take k r)) f in
        let eb : a.bytes ≡ concatenated (take k (drop i ps)) = o.2 ∙ ap (λ (r : List (List ℕ)). concatenated (take k r)) f in
        let zero-there : first_of (writer_tests a.settings a.psd (map length (take k (drop i ps))) (concatenated (take k (drop i ps))) (length a.buffer) m w) ≡ 0 =
        sym (ap₂ (λ (ns bs : List ℕ). first_of (writer_tests a.settings a.psd ns bs (length a.buffer) m w)) el eb) ∙ z in
        let x = made mode stream register m l ps q i s a.settings a.psd k (length a.buffer) a.psd-bytes y v.rest hq zero-there in
        subst (λ (ns : List ℕ). Made mode stream register m l ps q i s a.settings a.psd ns a.bytes (length a.buffer)) (sym el)
        (subst (λ (bs : List ℕ). Made mode stream register m l ps q i s a.settings a.psd (map length (take k (drop i ps))) bs (length a.buffer)) (sym eb) x)

  pub course : (al : List Writing) (q g i s : ℕ) → q < m.sequences → Stands ps g i s → InOrder mode stream ps g al
      → Runs q g i s (pdus_from (state_at mode stream register q i s) al) (spans_from mode stream ps g al) (labels_from mode stream ps g al)
  course [] q g i s hq v h = unfold pdus_from spans_from labels_from in record { loads = []; course = done; labelled = refl }
  course (a ∷ al) q g i s hq v h =
      go (eqb (number_at mode stream register m l q i s a) 0) refl (subst (λ (b : Bool). cond b (InOrder mode stream ps g al) (Offers (drop (packet_at ps g) ps) a × InOrder mode stream ps (g + placed_at mode stream ps g a) al)) (table_is q g i s a al hq v) h)
      (λ h'. course al q g i s hq v h') (λ q' g' i' s' hq' v' h'. course al q' g' i' s' hq' v' h')
    where
      go : (b : Bool) → eqb (number_at mode stream register m l q i s a) 0 ≡ b → cond (not b) (InOrder mode stream ps g al) (Offers (drop (packet_at ps g) ps) a × InOrder mode stream ps (g + placed_at mode stream ps g a) al)
          → (InOrder mode stream ps g al → Runs q g i s (pdus_from (state_at mode stream register q i s) al) (spans_from mode stream ps g al) (labels_from mode stream ps g al))
          → ((q' g' i' s' : ℕ) → q' < m.sequences → Stands ps g' i' s' → InOrder mode stream ps g' al → Runs q' g' i' s' (pdus_from (state_at mode stream register q' i' s') al) (spans_from mode stream ps g' al) (labels_from mode stream ps g' al))
          → Runs q g i s (pdus_from (state_at mode stream register q i s) (a ∷ al)) (spans_from mode stream ps g (a ∷ al)) (labels_from mode stream ps g (a ∷ al))
      go false e o same later = refused-case q g i s a al hq v e (same o)
      go true e o same later =
          let x = made_of q g i s a al hq v (eqb-true (number_at mode stream register m l q i s a) 0 e) o.0 in
          made-case q g i s a al hq v x e
          (later _ _ _ _ (next-in-range m.sequences q hq) (stands-next ps g i s _ _ (sized_of ps y) v x.fits) (subst (λ (c : ℕ). InOrder mode stream ps (g + c) al) (g-grows q g i s a al hq v x) o.1))
