-- Saving and loading, by the number that applies.
use mathlib.Core.Path.{◌≡◌, refl, sym, ap, ap₂, ◌∙◌}
use mathlib.Core.Bool.{Bool, true, false, not, ◌&&◌, cond}
use mathlib.Core.List.{List, [], ◌∷◌, ◌++◌, append_assoc}
use Prim.Native.Nat.{ℕ, ◌+◌, ◌/◌, ◌<◌, ◌≤◌}
use native.Mathlib.Omega.{arith}
use lib.Dec.{eqb, ltb}
use lib.ListN.{length, take, drop, length-append}
use lib.Seq.{length-take-le}
use borrow.Author.Tests.{ne_eqb, lt-ltb, le-ltb, ltb-false}
use Rattle.buffer.specs.Buffer.{put_at}
use Rattle.buffer.proofs.Laws.{put_then, take_put}
use Rattle.refusal.specs.Refusal.{first_of, any_of}
use Rattle.refusal.proofs.Rows.{past, row-off, none-at}
use Rattle.receiver.specs.Receiving.{no_receiver, wrong_state, opened_by}
use Rattle.receiver.specs.Steps.{state_tests}
use Rattle.receiver.specs.declared.Receiver.{Receiver}
use Rattle.receiver.specs.declared.Opened.{Opened}
use Rattle.receiver.proofs.Rows.{first_on}
use Rattle.packet_log.specs.Log.{same_list}
use Rattle.snapshot.specs.declared.Saved.{Saved}
use Rattle.snapshot.specs.Snapshot.{Kinds, today, head_words, byte_words, count_words, words_with, saved_words, save_number, saved, words_after, has, bytes_in, from_kind, kinds_in, receiver_in, is_form, wrong_words, load_number, loaded, carry_loaded}
use Rattle.snapshot.specs.Steps.{kinds, begins_with, are_bytes, is_front}
use Rattle.snapshot.proofs.Bytes.{bytes-length}
use Rattle.snapshot.proofs.Parts.{head_parts, head-parts, parts-length}
use Rattle.snapshot.proofs.Reading.{front, form-steps, form-rest}
use Rattle.snapshot.proofs.Round.{right-parts, load-carry, load-words}

module _ (carry words : List ℕ) (r : Receiver) where
  abbrev room : List (Bool × ℕ)
  room = (ltb (length words) (length (saved_words r carry)), 26) ∷ []

  module _ (n : ℕ) (e : n ≡ first_of (state_tests r (length carry))) where
    -- 1 and 2
    pub save-early : (n ≡ 0 → ⊥) → save_number carry words r ≡ n
    unfolding save_number
    save-early z = first_on (state_tests r (length carry)) room (λ q. z (e ∙ q)) ∙ sym e

    module _ (z : n ≡ 0) where
      off : first_of (state_tests r (length carry)) ≡ 0
      off = sym e ∙ z

      pub long : 4096 ≤ length carry
      long = ltb-false (length carry) 4096 (row-off (state_tests r (length carry)) 1 refl off)

      pub held-most : r.held ≤ 4096
      held-most = ltb-false 4096 r.held (none-at (wrong_state r) 3 (row-off (state_tests r (length carry)) 0 refl off))

      pub held_fits : length (take r.held carry) ≡ r.held
      held_fits = length-take-le r.held carry (omega (arith, long, held-most))

      -- how many words there are
      pub bytes_count : length (byte_words (take r.held carry)) ≡ (r.held + 2) / 3
      bytes_count = bytes-length (take r.held carry) ∙ ap (λ (m : ℕ). (m + 2) / 3) held_fits

      pub saved-length : length (saved_words r carry) ≡ length (head_words today r) + (r.held + 2) / 3 + length (count_words r)
      unfolding saved_words words_with
      saved-length =
          let b : List ℕ = byte_words (take r.held carry) in
          omega (arith, length-append (head_words today r) (b ++ count_words r), length-append b (count_words r), bytes_count)

      number-late : save_number carry words r ≡ cond (ltb (length words) (length (saved_words r carry))) 26 0
      unfolding save_number
      number-late = past (state_tests r (length carry)) room refl off

      pub save-short : length words < length (head_words today r) + (r.held + 2) / 3 + length (count_words r) → save_number carry words r ≡ 26
      save-short h = number-late ∙ ap (λ (t : Bool). cond t 26 0) (lt-ltb (length words) (length (saved_words r carry)) (omega (arith, saved-length)))

      pub save-late : length (head_words today r) + (r.held + 2) / 3 + length (count_words r) ≤ length words → save_number carry words r ≡ 0
      save-late h = number-late ∙ ap (λ (t : Bool). cond t 26 0) (le-ltb (length words) (length (saved_words r carry)) (omega (arith, saved-length)))

  pub save-refused : (n : ℕ) (a : Saved) → save_number carry words r ≡ n → (n ≡ 0 → ⊥) → a ≡ record { refusal = n; words = 0 }
      → (a ≡ saved carry words r) × (words ≡ words_after carry words r)
  unfolding saved words_after
  save-refused n a e z q =
      let t : eqb (save_number carry words r) 0 ≡ false = ap (λ (m : ℕ). eqb m 0) e ∙ ne_eqb n 0 z in
      (q ∙ rw (t, e), rw t)

  -- head, held bytes and counts written one after the other
  module _ (l₁ l₂ l₃ : List ℕ) (at end : ℕ) (h : end ≤ length words) (a : at ≡ length (head_words today r)) (z : end ≡ at + length (byte_words (take r.held carry)))
      (f : l₁ ≡ put_at words 0 (head_words today r)) (g : l₂ ≡ put_at l₁ at (byte_words (take r.held carry))) (x : l₃ ≡ put_at l₂ end (count_words r)) where
    all-written : l₃ ≡ put_at words 0 (saved_words r carry)
    unfolding saved_words words_with
    all-written =
        let v : List ℕ = head_words today r in
        let w : List ℕ = byte_words (take r.held carry) in
        let p : l₂ ≡ put_at words 0 (v ++ w) = put_then words l₁ l₂ v w 0 at (omega arith) (omega (arith, a)) f g in
        let n : length (v ++ w) ≡ length v + length w = length-append v w in
        put_then words l₂ l₃ (v ++ w) (count_words r) 0 end (omega arith) (omega arith) p x ∙ ap (put_at words 0) (append_assoc v w (count_words r))

    pub save-done : (count : ℕ) → save_number carry words r ≡ 0 → count ≡ length (saved_words r carry)
        → (record { refusal = 0; words = count } ≡ saved carry words r) × (l₃ ≡ words_after carry words r)
    unfolding saved words_after
    save-done count e k =
        let t : eqb (save_number carry words r) 0 ≡ true = ap (λ (m : ℕ). eqb m 0) e in
        (rw t (ap (λ (m : ℕ). record { refusal = 0; words = m }) k), rw t all-written)

-- ---- loading

-- the words before the held bytes are five at most
pub head_few : (k : Kinds) (r : Receiver) → length (head_words k r) ≤ 5
head_few k r = rw (head-parts k r) (parts-length (head_parts k r))

-- a list that was put first into another, taken again
pub taken_back : (l m h : List ℕ) (n : ℕ) → n ≡ length h → m ≡ put_at l 0 h → take n m ≡ h
taken_back l m h n en em = ap₂ take en em ∙ take_put l h

-- the words before the counts: they begin with a receiver's first ones, and the held bytes follow
module _ (ws : List ℕ) (k : Kinds) (r : Receiver) (v : List ℕ) (ev : v ≡ head_words k r) (t : Bool) (et : t ≡ begins_with v ws) where
  begins-head : begins_with (head_words k r) ws ≡ t
  begins-head = ap (λ (l : List ℕ). begins_with l ws) (sym ev) ∙ sym et

  pub front-not : t ≡ false → false ≡ is_front k r ws
  unfolding is_front
  front-not z = rw (begins-head ∙ z)

  pub front-yes : (n : ℕ) (y : Bool) → t ≡ true → n ≡ length (head_words k r) → y ≡ are_bytes r.held (drop n ws) → y ≡ is_front k r ws
  unfolding is_front
  front-yes n y z en ey = rw (begins-head ∙ z) (ey ∙ ap (λ (m : ℕ). are_bytes r.held (drop m ws)) en)

module _ (ws : List ℕ) (r : Receiver) (a b : Bool) (er : r ≡ receiver_in ws) (ea : a ≡ has 3 ws) (eb : b ≡ has 4 ws) where
  same-front : head_words (kinds a b) r ≡ front ws
  same-front = ap₂ head_words (ap₂ kinds ea eb) er

  -- the form: from the first word of kind 6 on they are the counts of the receiver that they say, and before it its other words
  module _ (end : ℕ) (at : drop end ws ≡ from_kind 6 ws) (within : end ≤ length ws) (t : Bool) (et : t ≡ same_list (count_words r) (drop end ws)) where
    counts-said : same_list (count_words (receiver_in ws)) (drop end ws) ≡ t
    counts-said = ap (λ (q : Receiver). same_list (count_words q) (drop end ws)) (sym er) ∙ sym et

    pub form-not : t ≡ false → false ≡ is_form ws
    form-not z = rw (counts-said ∙ z) at (form-steps ws end at within)

    pub form-yes : (y : Bool) → t ≡ true → y ≡ is_front (kinds a b) r (take end ws) → y ≡ is_form ws
    form-yes y z ey =
        let e : (true && is_front (kinds_in ws) (receiver_in ws) (take end ws)) ≡ is_form ws = rw (counts-said ∙ z) at (form-steps ws end at within) in
        ey ∙ ap₂ (λ (k : Kinds) (q : Receiver). is_front k q (take end ws)) (ap₂ kinds ea eb) er ∙ e

  -- number 25
  module _ (t : Bool) (et : t ≡ is_form ws) where
    pub wrong-form : t ≡ false → true ≡ wrong_words ws
    unfolding wrong_words
    wrong-form z = rw (sym et ∙ z)

    pub wrong-state : (n : ℕ) → t ≡ true → n ≡ first_of (state_tests r 4096) → not (eqb n 0) ≡ wrong_words ws
    unfolding wrong_words
    wrong-state n z en =
        rw (sym et ∙ z) (ap (λ (k : ℕ). not (eqb k 0)) en ∙ ap (λ (q : Receiver). not (eqb (first_of (state_tests q 4096)) 0)) er ∙ go (any_of (wrong_state (receiver_in ws))))
      where
        go : (b : Bool) → not (eqb (first_of ((b, 1) ∷ (ltb 4096 4096, 2) ∷ [])) 0) ≡ b
        go true = refl
        go false = refl

  module _ (carry : List ℕ) (long : 4096 ≤ length carry) (w : wrong_words ws ≡ false) (from : ℕ) (ef : from ≡ length (head_words (kinds a b) r)) (end : ℕ) (at : drop end ws ≡ from_kind 6 ws) (within : end ≤ length ws) where
    at_front : from ≡ length (front ws)
    at_front = ef ∙ ap length same-front

    pub load-held : r.held ≤ length carry
    load-held =
        let h : (receiver_in ws).held ≤ 4096 = ltb-false 4096 (receiver_in ws).held (none-at (wrong_state (receiver_in ws)) 3 (right-parts ws carry w).1) in
        omega (arith, ap (λ (q : Receiver). q.held) er)

    pub load-rest : are_bytes r.held (drop from (take end ws)) ≡ true
    load-rest = ap₂ (λ (q : Receiver) (k : ℕ). are_bytes q.held (drop k (take end ws))) er at_front ∙ (form-rest ws end at within (right-parts ws carry w).0).1

    number-none : load_number ws carry ≡ 0
    number-none = load-words ws carry (le-ltb (length carry) 4096 long) ∙ ap (λ (t : Bool). cond t 25 0) w

    pub load-done : (l : List ℕ) → l ≡ put_at carry 0 (bytes_in (drop from (take end ws))) → (record { refusal = 0; receiver = r } ≡ loaded ws carry) × (l ≡ carry_loaded ws carry)
    unfolding loaded carry_loaded
    load-done l e = (
      ap (opened_by 0) er ∙ ap (λ (n : ℕ). opened_by n (receiver_in ws)) (sym number-none),
      e ∙ ap (λ (k : ℕ). put_at carry 0 (bytes_in (drop k (take end ws)))) at_front ∙ ap (put_at carry 0) (form-rest ws end at within (right-parts ws carry w).0).0
          ∙ ap (λ (n : ℕ). cond (eqb n 0) (put_at carry 0 (bytes_in ws)) carry) (sym number-none),
    )

module _ (ws carry : List ℕ) where
  pub load-refused : (n : ℕ) (o : Opened) → load_number ws carry ≡ n → (n ≡ 0 → ⊥) → o ≡ record { refusal = n; receiver = no_receiver }
      → (o ≡ loaded ws carry) × (carry ≡ carry_loaded ws carry)
  unfolding loaded carry_loaded
  load-refused n o e z q =
      let t : eqb n 0 ≡ false = ne_eqb n 0 z in (
        q ∙ ap (λ (b : Bool). record { refusal = n; receiver = cond b (receiver_in ws) no_receiver }) (sym t) ∙ ap (λ (m : ℕ). opened_by m (receiver_in ws)) (sym e),
        ap (λ (b : Bool). cond b (put_at carry 0 (bytes_in ws)) carry) (sym t) ∙ ap (λ (m : ℕ). cond (eqb m 0) (put_at carry 0 (bytes_in ws)) carry) (sym e),
      )

  pub carry-short : length carry < 4096 → load_number ws carry ≡ 2
  carry-short h = load-carry ws carry (lt-ltb (length carry) 4096 h)

  pub words-wrong : 4096 ≤ length carry → wrong_words ws ≡ true → load_number ws carry ≡ 25
  words-wrong h w = load-words ws carry (le-ltb (length carry) 4096 h) ∙ ap (λ (t : Bool). cond t 25 0) w
