-- A writing call, accepted or refused.
use mathlib.Core.Path.{◌≡◌, sym, ap, subst, ◌∙◌}
use mathlib.Core.Bool.{true, false}
use mathlib.Core.List.{List}
use Prim.Native.Nat.{ℕ}
use lib.Dec.{eqb}
use borrow.Author.Tests.{eq-eqb, ne_eqb}
use Rattle.refusal.specs.Refusal.{first_of}
use Rattle.modes.specs.Modes.{listing}
use Rattle.modes.specs.declared.Mode.{Mode}
use Rattle.modes.specs.declared.Listing.{Listing}
use Rattle.modes.specs.declared.Listing.TheVariants.{Listed}
use Rattle.settings.specs.declared.Settings.{Settings}
use Rattle.writer.specs.Writing.{writer_tests, accepted_answer, refused_write, pdu_of, answer_in, pdu_in, write_answer, written_pdu}
use Rattle.writer.specs.declared.Writer.{Writer}
use Rattle.writer.specs.declared.Written.{Written}

module _ (settings : Settings) (psd lengths bytes : List ℕ) (size : ℕ) (w : Writer) (before : List ℕ) where
  -- the answer and the PDU that the rules give, with what the table says of mode and stream
  abbrev pub Right : Listing → Written → List ℕ → Type 0
  Right l r after = (r ≡ answer_in settings psd lengths bytes size l w) × (after ≡ pdu_in settings psd lengths bytes size l w before)

  pub accepted-call : (m : Mode) (r : Written) (after : List ℕ) → first_of (writer_tests settings psd lengths bytes size m w) ≡ 0
      → r ≡ accepted_answer settings psd lengths bytes size m w → after ≡ pdu_of settings psd lengths bytes size m w → Right (Listed m) r after
  accepted-call m r after e er ea =
      let t : eqb (first_of (writer_tests settings psd lengths bytes size m w)) 0 ≡ true = eq-eqb (first_of (writer_tests settings psd lengths bytes size m w)) 0 e in
      (rw t er, rw t ea)

  pub refused-call : (m : Mode) (n : ℕ) (r : Written) → n ≡ first_of (writer_tests settings psd lengths bytes size m w) → ¬ (n ≡ 0) → r ≡ refused_write w n → Right (Listed m) r before
  refused-call m n r e z er =
      let t : eqb (first_of (writer_tests settings psd lengths bytes size m w)) 0 ≡ false = ne_eqb (first_of (writer_tests settings psd lengths bytes size m w)) 0 (λ q. z (e ∙ q)) in
      (rw t (er ∙ ap (refused_write w) e), rw t)

  pub called : (l k : Listing) (r : Written) (after : List ℕ) → l ≡ listing w.mode w.stream → l ≡ k → Right k r after
      → (r ≡ write_answer settings psd lengths bytes size w) × (after ≡ written_pdu settings psd lengths bytes size w before)
  unfolding write_answer written_pdu
  called l k r after e f h = subst (λ (x : Listing). Right x r after) (sym f ∙ e) h
