-- Laws of outcomes: which ones the rules give, and what puts them down one after another.
use Prim.Native.Nat.{ℕ, zero, suc, ◌+◌, ◌≤◌, ◌<◌}
use mathlib.Core.Path.{◌≡◌, refl, sym, ◌∙◌}
use mathlib.Core.Bool.{Bool, true, false}
use mathlib.Core.List.{List, [], ◌∷◌, ◌++◌, append-nil}
use native.Mathlib.Omega.{arith}
use native.Mathlib.Nat.{add-zero}
use borrow.Author.Tests.{lt-ltb, le-ltb, eq-eqb, ne_eqb}
use lib.ListN.{length, take, length-append}
use lib.Seq.{length-take-le}
use Rattle.buffer.specs.Buffer.{put_at}
use Rattle.buffer.proofs.Laws.{put-nil, put_front}
use Rattle.packet_log.specs.Log.{Entry, packet, entry_words, log_words}
use Rattle.reassembly.specs.Reassembly.{Partial, nothing, beginning, Outcome, dropped, kept, finished, joined, piece_step}
use Rattle.reassembly.specs.Run.{partial_of, run_after, keeps, writes, Did, Room, piece_of, ends_at}
use Rattle.reassembly.specs.declared.Run.{Run}

pub some_after : (plast : Bool) (n : ℕ) → (n ≡ 0 → ⊥) → true ≡ ends_at plast n
unfolding ends_at
some_after plast zero h = absurd (h refl)
some_after plast (suc n) h = refl

-- ---- single outcomes

abbrev pub delivered : ℕ → List ℕ → Outcome
delivered n b = record { entries = packet n b ∷ []; partial = nothing }

-- one entry, nothing held
abbrev pub logged : Entry → Outcome
logged e = record { entries = e ∷ []; partial = nothing }

pub one_entry : (e : Entry) → log_words (e ∷ []) ≡ entry_words e
unfolding log_words
one_entry e = append-nil (entry_words e)

pub did-log : (e : Entry) (at m : ℕ) (c l l' : List ℕ) → m ≡ length (entry_words e) → l' ≡ put_at l at (entry_words e)
    → Did (logged e) at c l c l' (record { held = 0; number = 0; at = at + m })
unfolding run_after keeps writes
did-log e at m c l l' h q =
    let o : log_words (e ∷ []) ≡ entry_words e = one_entry e in
    record { run = rw (o, h) refl; carry = sym (put-nil c 0); log = rw o q }

pub did-keep : (n : ℕ) (p : List ℕ) (at from total : ℕ) (c l c' : List ℕ) → from ≤ length c → total ≡ from + length p → c' ≡ put_at c from p
    → Did (kept (beginning n (take from c ++ p))) at c l c' l (record { held = total; number = n; at = at })
unfolding run_after keeps writes log_words
did-keep n p at from total c l c' h t e =
    let q : length (take from c ++ p) ≡ from + length p = simp (length-append, length-take-le from c h) in
    record { run = rw (q, t, add-zero at) refl; carry = e ∙ put_front c p from h; log = sym (put-nil l at) }

pub did_nothing : (r : Run) (c l : List ℕ) → r.held ≤ length c → (r.held ≡ 0 → r.number ≡ 0) → Did (kept (partial_of r.held r.number c)) r.at c l c l r
unfolding run_after keeps writes log_words
did_nothing r c l h z = go r.held r.number r.at h z
  where
    front : (c : List ℕ) (h : ℕ) → h ≤ length c → put_at c 0 (take h c) ≡ c
    front c h k = simp append-nil at (sym (put_front c [] h k)) ∙ put-nil c h

    go : (h n at : ℕ) → h ≤ length c → (h ≡ 0 → n ≡ 0) → Did (kept (partial_of h n c)) at c l c l (record { held = h; number = n; at = at })
    go zero n at k z = record { run = rw (z refl, add-zero at) refl; carry = sym (put-nil c 0); log = sym (put-nil l at) }
    go (suc h) n at k z = record { run = rw (length-take-le (suc h) c k, add-zero at) refl; carry = sym (front c (suc h) k); log = sym (put-nil l at) }

pub same_outcome : {o u : Outcome} {at : ℕ} {c l c' l' : List ℕ} {r : Run} → u ≡ o → Did o at c l c' l' r → Did u at c l c' l' r
same_outcome e d = rw e d

pub same-room : {o u : Outcome} (at : ℕ) (l : List ℕ) → u ≡ o → Room u at l → Room o at l
same-room at l e r = rw e at r

pub room-entry : (o : Outcome) (e : Entry) (at : ℕ) (l : List ℕ) → o ≡ logged e → Room o at l → at + length (entry_words e) ≤ length l
unfolding Room
room-entry o e at l q r = rw (one_entry e) at (rw q at r)

-- ---- the end of a packet: its bytes are what is held, and a piece

module _ (n k : ℕ) (ends : Bool) (from at : ℕ) (c p l : List ℕ) (small : from ≤ 4096) (big : 4096 ≤ length c) where
  both-length : length (take from c ++ p) ≡ from + length p
  both-length = simp (length-append, length-take-le from c (omega arith))

  too_long : 4096 < from + length p → finished n k ends (take from c ++ p) ≡ dropped 5 k
  unfolding finished
  too_long h = rw (lt-ltb 4096 (length (take from c ++ p)) (omega (arith, both-length)))

  ended : ends ≡ true → from + length p ≤ 4096 → finished n k ends (take from c ++ p) ≡ delivered n (take from c ++ p)
  unfolding finished
  ended e h = rw (e, le-ltb 4096 (length (take from c ++ p)) (omega (arith, both-length)))

  not-ended : ends ≡ false → from + length p ≤ 4096 → finished n k ends (take from c ++ p) ≡ kept (beginning n (take from c ++ p))
  unfolding finished
  not-ended e h = rw (e, le-ltb 4096 (length (take from c ++ p)) (omega (arith, both-length)))

  pub long-room : 4096 < from + length p → Room (finished n k ends (take from c ++ p)) at l → Room (dropped 5 k) at l
  long-room h room = same-room at l (too_long h) room

  pub long-did : (l' : List ℕ) (r : Run) → 4096 < from + length p → Did (dropped 5 k) at c l c l' r → Did (finished n k ends (take from c ++ p)) at c l c l' r
  long-did l' r h d = same_outcome (too_long h) d

  pub ended-room : ends ≡ true → from + length p ≤ 4096 → Room (finished n k ends (take from c ++ p)) at l → at + length (entry_words (packet n (take from c ++ p))) ≤ length l
  ended-room q h room = room-entry _ (packet n (take from c ++ p)) at l (ended q h) room

  pub ended-did : (m : ℕ) (l' : List ℕ) → ends ≡ true → from + length p ≤ 4096 → m ≡ length (entry_words (packet n (take from c ++ p))) → l' ≡ put_at l at (entry_words (packet n (take from c ++ p)))
      → Did (finished n k ends (take from c ++ p)) at c l c l' (record { held = 0; number = 0; at = at + m })
  ended-did m l' q h e f = same_outcome (ended q h) (did-log (packet n (take from c ++ p)) at m c l l' e f)

  pub held-did : (c' : List ℕ) → ends ≡ false → from + length p ≤ 4096 → c' ≡ put_at c from p
      → Did (finished n k ends (take from c ++ p)) at c l c' l (record { held = from + length p; number = n; at = at })
  held-did c' q h e = same_outcome (not-ended q h) (did-keep n p at from (from + length p) c l c' (omega arith) refl e)

-- ---- one piece

module _ (n k : ℕ) (cont ends : Bool) (h : Partial) (b : List ℕ) where
  pub not_taken : (cause : ℕ) → (cause ≡ 0 → ⊥) → piece_step n k cont ends h (piece_of cause b) ≡ dropped cause k
  unfolding piece_step
  not_taken cause z = rw (ne_eqb cause 0 z)

  pub taken : (cause : ℕ) → cause ≡ 0 → piece_step n k cont ends h (piece_of cause b) ≡ joined n k cont ends h b
  unfolding piece_step
  taken cause z = rw (eq-eqb cause 0 z)

  pub alone : (cause : ℕ) → cause ≡ 0 → cont ≡ false → piece_step n k cont ends h (piece_of cause b) ≡ finished n k ends b
  alone cause z f = taken cause z ∙ unfold joined in rw f refl

partial-some : (held m : ℕ) (c : List ℕ) → (held ≡ 0 → ⊥) → partial_of held m c ≡ beginning m (take held c)
partial-some zero m c z = absurd (z refl)
partial-some (suc h) m c z = refl

pub missing : (n k m : ℕ) (cont ends : Bool) (cause held : ℕ) (c b : List ℕ) → cause ≡ 0 → cont ≡ true → held ≡ 0
    → piece_step n k cont ends (partial_of held m c) (piece_of cause b) ≡ dropped 3 k
missing n k m cont ends cause held c b z f e = taken n k cont ends (partial_of held m c) b cause z ∙ unfold joined in rw (f, e) refl

pub together : (n k m : ℕ) (cont ends : Bool) (cause held : ℕ) (c b : List ℕ) → cause ≡ 0 → cont ≡ true → (held ≡ 0 → ⊥)
    → piece_step n k cont ends (partial_of held m c) (piece_of cause b) ≡ finished n k ends (take held c ++ b)
together n k m cont ends cause held c b z f e =
    taken n k cont ends (partial_of held m c) b cause z ∙ unfold joined in rw (f, partial-some held m c e) refl
