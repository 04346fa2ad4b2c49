-- Document 02, Ask 1: a log of 8,400 words for each PDU always suffices.
use mathlib.Core.Path.{◌≡◌, refl, sym, ap, ◌∙◌}
use mathlib.Core.Bool.{Bool, true, false}
use mathlib.Core.List.{List, [], ◌∷◌}
use Prim.Native.Nat.{ℕ, suc, ◌+◌, ◌*◌, ◌<◌, ◌≤◌}
use native.Mathlib.Omega.{arith}
use lib.Dec.{eqb}
use lib.ListN.{length, get_or, take, drop, length-drop}
use lib.Seq.{get_or-drop}
use borrow.Author.Tests.{eqb-true, eqb-false}
use Rattle.refusal.proofs.Rows.{never}
use Rattle.header.proofs.Unique.{all-bytes, all_take}
use Rattle.receiver.specs.Receiving.{receive_answer, carry_after, log_after}
use Rattle.receiver.specs.declared.Receiver.{Receiver}
use Rattle.receiver.specs.declared.Received.{Received}
use Rattle.receiver.proofs.Enough.{enough-log}
use Rattle.batch.specs.Batches.{Result, one_by_one, batch_tests, batch_number, batch_received}
use Rattle.batch.proofs.OneByOne.{first_taken, first-refused}
use Rattle.batch.proofs.Single.{refusal_is, words-most, log-long}

abbrev pub Bytes : List ℕ → Type 0
Bytes l = (i : ℕ) → get_or l i 0 < 256

bytes_drop : (n : ℕ) (l : List ℕ) → Bytes l → Bytes (drop n l)
bytes_drop n l b i = rw (get_or-drop n l i 0) (b (n + i))

-- the first PDU, and then the others
module _ (n : ℕ) (ns : List ℕ) (r : Receiver) (carry pdus log : List ℕ) (b : Bytes pdus) (big : 8400 * suc (length ns) ≤ length log) where
  abbrev a : Received
  a = receive_answer [] carry (take n pdus) log r

  part : Bytes (take n pdus)
  part = all-bytes (take n pdus) (all_take n pdus b)

  abbrev left : List ℕ
  left = drop a.words (log_after [] carry (take n pdus) log r)

  left-long : 8400 * length ns ≤ length left
  left-long =
      let w = words-most [] carry (take n pdus) log r part in
      let l = log-long [] carry (take n pdus) log r in
      let d = length-drop a.words (log_after [] carry (take n pdus) log r) in
      omega (arith, w, l, d, big)

  enough-first : ¬ ((one_by_one ns a.receiver (carry_after [] carry (take n pdus) log r) (drop n pdus) left).answer.refusal ≡ 13) → ¬ ((one_by_one (n ∷ ns) r carry pdus log).answer.refusal ≡ 13)
  enough-first rest = go (eqb a.refusal 0) refl
    where
      go : (t : Bool) → eqb a.refusal 0 ≡ t → ¬ ((one_by_one (n ∷ ns) r carry pdus log).answer.refusal ≡ 13)
      go true h e = rest (sym (ap (λ (x : Result). x.answer.refusal) (first_taken n ns r carry pdus log (eqb-true a.refusal 0 h))) ∙ e)
      go false h e =
          enough-log [] carry (take n pdus) log r part (omega (arith, big))
          (sym (refusal_is [] carry (take n pdus) log r) ∙ sym (ap (λ (x : Result). x.answer.refusal) (first-refused n ns r carry pdus log (eqb-false a.refusal 0 h))) ∙ e)

enough-left : (ns : List ℕ) (r : Receiver) (carry pdus log : List ℕ) → Bytes pdus → 8400 * length ns ≤ length log → ¬ ((one_by_one ns r carry pdus log).answer.refusal ≡ 13)
unfolding one_by_one
enough-left [] r carry pdus log b big = λ e. absurd (omega (arith, e))
enough-left (n ∷ ns) r carry pdus log b big =
    enough-first n ns r carry pdus log b big
    (enough-left ns (a n ns r carry pdus log b big).receiver (carry_after [] carry (take n pdus) log r) (drop n pdus) (left n ns r carry pdus log b big) (bytes_drop n pdus b) (left-long n ns r carry pdus log b big))

-- with a log of 8,400 words for each PDU a batch is never refused with 13, whatever receiver, carry and PDUs
pub enough-for-all : (lengths carry pdus log : List ℕ) (r : Receiver) → Bytes pdus → 8400 * length lengths ≤ length log → ¬ ((batch_received lengths carry pdus log r).answer.refusal ≡ 13)
unfolding batch_received batch_number
enough-for-all lengths carry pdus log r b big = go (eqb (batch_number lengths carry pdus log r) 0) refl
  where
    go : (t : Bool) → eqb (batch_number lengths carry pdus log r) 0 ≡ t → ¬ ((batch_received lengths carry pdus log r).answer.refusal ≡ 13)
    go true h e = enough-left lengths r carry pdus log b big (rw h at e)
    go false h e = never 13 (batch_tests lengths carry pdus log r) refl refl (rw h at e)
