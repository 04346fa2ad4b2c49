-- A call that marks a PDU lost, row by row.
use mathlib.Core.Path.{◌≡◌, sym, ap, ◌∙◌}
use mathlib.Core.Bool.{Bool, true, false}
use mathlib.Core.List.{List}
use Prim.Native.Nat.{ℕ, ◌+◌, ◌<◌, ◌≤◌}
use native.Mathlib.Omega.{arith}
use lib.Dec.{eqb, ltb}
use lib.ListN.{length}
use borrow.Author.Tests.{ne_eqb, lt-ltb, le-ltb}
use Rattle.buffer.specs.Buffer.{put_at}
use Rattle.refusal.specs.Refusal.{any_of}
use Rattle.modes.specs.Modes.{listing}
use Rattle.modes.specs.declared.Mode.{Mode}
use Rattle.modes.specs.declared.Listing.{Listing}
use Rattle.modes.specs.declared.Listing.TheVariants.{Listed, Refused}
use Rattle.packet_log.specs.Log.{note, entry_words, log_words}
use Rattle.packet_log.proofs.Words.{note-length}
use Rattle.reassembly.specs.Reassembly.{lost_entries}
use Rattle.reassembly.proofs.Laws.{one_entry}
use Rattle.receiver.specs.Receiving.{wrong_fields, wrong_state, remembering, refused_answer, lost_number, lost_answer, log_after_lost}
use Rattle.receiver.specs.Steps.{forgetful}
use Rattle.receiver.specs.declared.Receiver.{Receiver}
use Rattle.receiver.specs.declared.Received.{Received}
use Rattle.receiver.proofs.Rows.{state-listed, state-unlisted}

lost-words : log_words lost_entries ≡ entry_words (note 6 0)
lost-words = one_entry (note 6 0)

lost-length : length (log_words lost_entries) ≡ 1
lost-length = ap length lost-words ∙ note-length 6 0

-- a note fits where the log has a word, and it is one word
pub note-fits : (log : List ℕ) (cause : ℕ) → 1 ≤ length log → (0 ≤ 65535) × (0 + length (entry_words (note cause 0)) ≤ length log)
note-fits log cause h = (omega arith, omega (arith, note-length cause 0))

pub one_word : (words cause : ℕ) → words ≡ length (entry_words (note cause 0)) → words ≡ 1
one_word words cause e = e ∙ note-length cause 0

module _ (log : List ℕ) (r : Receiver) where
  -- what is promised of the answer a, and of the log after the call
  abbrev pub Loses : Received → List ℕ → Type 0
  Loses a log_end = (a ≡ lost_answer log r) × (log_end ≡ log_after_lost log r)

  turned_down : (n : ℕ) (a : Received) → lost_number log r ≡ n → (n ≡ 0 → ⊥) → a ≡ refused_answer r n 0 → Loses a log
  unfolding lost_answer log_after_lost
  turned_down n a e z q =
      let t : eqb (lost_number log r) 0 ≡ false = ne_eqb (lost_number log r) 0 (λ h. z (sym e ∙ h)) in
      (rw t (q ∙ ap (λ (x : ℕ). refused_answer r x 0) (sym e)), rw t)

  at-state : any_of (wrong_state r) ≡ true → lost_number log r ≡ 1
  unfolding lost_number
  at-state t = rw t

  pub unlisted-lost : (l : Listing) (n : ℕ) (a : Received) → l ≡ listing r.mode r.stream → l ≡ Refused n → a ≡ refused_answer r 1 0 → Loses a log
  unlisted-lost l n a e f q = turned_down 1 a (at-state (state-unlisted r n (sym e ∙ f))) (λ z. omega arith) q

  module _ (m : Mode) (l : listing r.mode r.stream ≡ Listed m) (b : Bool) (eb : b ≡ any_of (wrong_fields m r)) where
    pub state-lost : (a : Received) → b ≡ true → a ≡ refused_answer r 1 0 → Loses a log
    state-lost a t q = turned_down 1 a (at-state (state-listed r m l ∙ sym eb ∙ t)) (λ z. omega arith) q

    module _ (f : b ≡ false) where
      right : any_of (wrong_state r) ≡ false
      right = state-listed r m l ∙ sym eb ∙ f

      pub short-lost : (a : Received) → length log < 1 → a ≡ refused_answer r 13 0 → Loses a log
      unfolding lost_number
      short-lost a h q =
          let t : ltb (length log) (length (log_words lost_entries)) ≡ true = lt-ltb (length log) (length (log_words lost_entries)) (omega (arith, lost-length)) in
          turned_down 13 a (rw (right, t)) (λ z. omega arith) q

      pub noted-lost : (words : ℕ) (a : Received) (log_end : List ℕ) → 1 ≤ length log → words ≡ 1 → a ≡ forgetful r words → log_end ≡ put_at log 0 (entry_words (note 6 0)) → Loses a log_end
      unfolding lost_number lost_answer log_after_lost remembering
      noted-lost words a log_end h e q el =
          let t : ltb (length log) (length (log_words lost_entries)) ≡ false = le-ltb (length log) (length (log_words lost_entries)) (omega (arith, lost-length)) in
          let z : eqb (lost_number log r) 0 ≡ true = rw (right, t) in
          (rw z (q ∙ ap (forgetful r) (e ∙ sym lost-length)), rw z (el ∙ ap (put_at log 0) (sym lost-words)))
