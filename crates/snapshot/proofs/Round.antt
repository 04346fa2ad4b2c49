-- Document 02, Ask 13: what save wrote is loaded again, what is loaded is the words of a receiver, and how many words there are at most.
use mathlib.Core.Path.{◌≡◌, refl, sym, ap, ap₂, ◌∙◌}
use mathlib.Core.Bool.{Bool, true, false, not, ◌||◌, cond, true≢false}
use mathlib.Core.List.{List, ◌++◌}
use Prim.Native.Nat.{ℕ, ◌<◌, ◌≤◌}
use native.Mathlib.Omega.{arith}
use lib.Dec.{eqb, ltb}
use lib.ListN.{length, take, length-append, length-take}
use lib.Seq.{length-take-le}
use borrow.Author.Tests.{eqb-true, le-ltb, ltb-false}
use Rattle.buffer.specs.Buffer.{put_at}
use Rattle.buffer.proofs.Laws.{take_put}
use Rattle.refusal.specs.Refusal.{first_of, any_of}
use Rattle.refusal.proofs.Rows.{row-off}
use Rattle.packet_log.proofs.Packets.{Bytes}
use Rattle.receiver.specs.Receiving.{wrong_state, opened_by}
use Rattle.receiver.specs.declared.Receiver.{Receiver}
use Rattle.packet_log.specs.Log.{same_list}
use Rattle.packet_log.proofs.Same.{same_true}
use Rattle.snapshot.specs.Snapshot.{Kinds, today, head_words, byte_words, count_words, words_with, saved_words, save_tests, save_number, saved, words_after, kinds_in, receiver_in, bytes_in, is_form, wrong_words, load_tests, load_number, loaded, carry_loaded}
use Rattle.snapshot.proofs.Bytes.{bytes-length}
use Rattle.snapshot.proofs.Parts.{head_parts, head-parts, parts-length}
use Rattle.snapshot.proofs.Counts.{counts-few}
use Rattle.snapshot.proofs.Fields.{laid}
use Rattle.snapshot.proofs.Forms.{Absent, receiver-in, bytes-in, formed}
use Rattle.bits.proofs.Tests.{both}

-- ---- the words of a receiver are accepted, today's and those of older firmware

-- what loading answers, and the bytes that it puts first into the carry
pub record Loads (ws carry : List ℕ) (r : Receiver) (bytes : List ℕ) : Type 0 where
  pub accepted : load_number ws carry ≡ 0
  pub answer : loaded ws carry ≡ opened_by 0 r
  pub held : carry_loaded ws carry ≡ put_at carry 0 bytes

module _ (k : Kinds) (r : Receiver) (bytes carry : List ℕ) (right : any_of (wrong_state r) ≡ false) (hr : r.register < 256) (he : r.entitled < 256) (hd : r.delivered < 4294967296) (hm : r.missing < 4294967296) (a : Absent k r) (b : Bytes bytes) (e : length bytes ≡ r.held) (room : 4096 ≤ length carry) where
  right-words : wrong_words (words_with k r bytes) ≡ false
  unfolding wrong_words
  right-words = rw (formed k r bytes (laid r hr he hd hm right) b a e, receiver-in k r bytes (laid r hr he hd hm right) b a) right

  form-number : load_number (words_with k r bytes) carry ≡ 0
  unfolding load_number
  form-number = rw (le-ltb (length carry) 4096 room, right-words)

  pub form-accepted : Loads (words_with k r bytes) carry r bytes
  form-accepted = record {
    accepted = form-number;
    answer = unfold loaded in ap₂ opened_by form-number (receiver-in k r bytes (laid r hr he hd hm right) b a);
    held = unfold carry_loaded in rw (form-number, bytes-in k r bytes (laid r hr he hd hm right) b);
  }

-- ---- what save wrote is loaded again

module _ (r : Receiver) (carry : List ℕ) where
  today-has : Absent today r
  today-has = record { register = λ e. absurd (true≢false e); entitled = λ e. absurd (true≢false e); serviced = λ e. absurd (true≢false e) }

  module _ (right : any_of (wrong_state r) ≡ false) (hr : r.register < 256) (he : r.entitled < 256) (hd : r.delivered < 4294967296) (hm : r.missing < 4294967296) (long : 4096 ≤ length carry) (b : Bytes (take r.held carry)) where
    held-length : length (take r.held carry) ≡ r.held
    held-length = length-take-le r.held carry (let h = (laid r hr he hd hm right).held in omega arith)

    -- into any carry of 4,096 bytes: the receiver comes back, and its held bytes are first in the carry
    pub loaded-saved : (other : List ℕ) → 4096 ≤ length other
        → (loaded (saved_words r carry) other ≡ opened_by 0 r) × (take r.held (carry_loaded (saved_words r carry) other) ≡ take r.held carry)
    unfolding saved_words
    loaded-saved other room =
        let l : Loads (words_with today r (take r.held carry)) other r (take r.held carry) =
        form-accepted today r (take r.held carry) other right hr he hd hm today-has b held-length room in (
          l.answer,
          ap (take r.held) l.held ∙ ap (λ (n : ℕ). take n (put_at other 0 (take r.held carry))) (sym held-length) ∙ take_put other (take r.held carry),
        )

  -- ---- the words that a call of save leaves
  module _ (words : List ℕ) (done : (saved carry words r).refusal ≡ 0) where
    number-none : save_number carry words r ≡ 0
    number-none = go (save_number carry words r) refl
      where
        go : (n : ℕ) → save_number carry words r ≡ n → n ≡ 0
        go n q = by (eqb n 0) refl
          where
            by : (t : Bool) → eqb n 0 ≡ t → n ≡ 0
            by true f = eqb-true n 0 f
            by false f = sym q ∙ sym answer ∙ done
              where
                answer : (saved carry words r).refusal ≡ save_number carry words r
                answer = unfold saved in rw (q, f)

    -- as far as its answer counts
    pub saved-words : take (saved carry words r).words (words_after carry words r) ≡ saved_words r carry
    unfolding saved words_after
    saved-words = rw number-none (take_put words (saved_words r carry))

    -- 1, 2 and 26 do not apply
    pub saved-right : (any_of (wrong_state r) ≡ false) × (4096 ≤ length carry) × (length (saved_words r carry) ≤ length words)
    saved-right =
        let off : first_of (save_tests carry words r) ≡ 0 = unfold save_number in number-none in
        (row-off (save_tests carry words r) 0 refl off, ltb-false (length carry) 4096 (row-off (save_tests carry words r) 1 refl off), ltb-false (length words) (length (saved_words r carry)) (row-off (save_tests carry words r) 2 refl off))

    pub loaded-after : r.register < 256 → r.entitled < 256 → r.delivered < 4294967296 → r.missing < 4294967296 → Bytes (take r.held carry) → (other : List ℕ) → 4096 ≤ length other
        → (loaded (take (saved carry words r).words (words_after carry words r)) other ≡ opened_by 0 r)
        × (take r.held (carry_loaded (take (saved carry words r).words (words_after carry words r)) other) ≡ take r.held carry)
    loaded-after hr he hd hm b other room = rw saved-words (loaded-saved saved-right.0 hr he hd hm saved-right.1 b other room)

  -- ---- the lowest number: 1, 2, 26
  module _ (words : List ℕ) where
    pub save-state : any_of (wrong_state r) ≡ true → save_number carry words r ≡ 1
    unfolding save_number
    save-state e = rw e

    module _ (right : any_of (wrong_state r) ≡ false) where
      pub save-carry : ltb (length carry) 4096 ≡ true → save_number carry words r ≡ 2
      unfolding save_number
      save-carry e = rw (right, e)

      module _ (long : ltb (length carry) 4096 ≡ false) where
        pub save-room : save_number carry words r ≡ cond (ltb (length words) (length (saved_words r carry))) 26 0
        unfolding save_number
        save-room = rw (right, long)

-- ---- what is accepted is the words of a receiver that number 1 does not turn down

module _ (ws carry : List ℕ) where
  -- 2, then 25
  pub load-carry : ltb (length carry) 4096 ≡ true → load_number ws carry ≡ 2
  unfolding load_number
  load-carry e = rw e

  pub load-words : ltb (length carry) 4096 ≡ false → load_number ws carry ≡ cond (wrong_words ws) 25 0
  unfolding load_number
  load-words e = rw e

  pub record Form : Type 0 where
    pub words : ws ≡ words_with (kinds_in ws) (receiver_in ws) (bytes_in ws)
    pub right : any_of (wrong_state (receiver_in ws)) ≡ false
    pub held : length (bytes_in ws) ≡ (receiver_in ws).held

  pub right-parts : wrong_words ws ≡ false → (is_form ws ≡ true) × (any_of (wrong_state (receiver_in ws)) ≡ false)
  unfolding wrong_words
  right-parts e = neither (is_form ws) (any_of (wrong_state (receiver_in ws))) e
    where
      neither : (a b : Bool) → (not a || b) ≡ false → (a ≡ true) × (b ≡ false)
      neither true b f = (refl, f)
      neither false b f = absurd (true≢false f)

  form-parts : is_form ws ≡ true → (eqb (length (bytes_in ws)) (receiver_in ws).held ≡ true) × (same_list (words_with (kinds_in ws) (receiver_in ws) (bytes_in ws)) ws ≡ true)
  unfolding is_form
  form-parts e = both (eqb (length (bytes_in ws)) (receiver_in ws).held) (same_list (words_with (kinds_in ws) (receiver_in ws) (bytes_in ws)) ws) e

  pub accepted-form : load_number ws carry ≡ 0 → Form
  unfolding load_number
  accepted-form e =
      let p = right-parts (row-off (load_tests ws carry) 1 refl e) in
      let q = form-parts p.0 in
      record {
        words = sym (same_true (words_with (kinds_in ws) (receiver_in ws) (bytes_in ws)) ws q.1);
        right = p.1;
        held = eqb-true (length (bytes_in ws)) (receiver_in ws).held q.0;
      }

-- ---- at most 1,376 words

pub words-length : (k : Kinds) (r : Receiver) (bytes : List ℕ) → length bytes ≤ 4096 → length (words_with k r bytes) ≤ 1376
unfolding words_with
words-length k r bytes h =
    let p : length (head_words k r) ≤ 5 = rw (head-parts k r) (parts-length (head_parts k r)) in
    omega (arith, length-append (head_words k r) (byte_words bytes ++ count_words r), length-append (byte_words bytes) (count_words r), bytes-length bytes, counts-few r)

pub few_words : (r : Receiver) (carry : List ℕ) → r.held ≤ 4096 → length (saved_words r carry) ≤ 1376
unfolding saved_words
few_words r carry h = words-length today r (take r.held carry) (let t = length-take r.held carry in omega arith)
