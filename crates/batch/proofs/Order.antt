-- The order of 1, 2 and 18, which are judged before the first PDU, and what comes of a batch of no bytes.
use mathlib.Core.Path.{◌≡◌}
use mathlib.Core.Bool.{true, false}
use mathlib.Core.List.{List, [], ◌∷◌}
use Prim.Native.Nat.{ℕ, ◌<◌, ◌≤◌}
use lib.Dec.{eqb, ltb}
use lib.ListN.{length}
use borrow.Author.Tests.{lt-ltb, le-ltb, ne_eqb}
use Rattle.refusal.specs.Refusal.{any_of}
use Rattle.pieces.specs.Pieces.{total}
use Rattle.receiver.specs.Receiving.{wrong_state, receive_number, receive_answer}
use Rattle.receiver.specs.declared.Receiver.{Receiver}
use Rattle.batch.specs.Batches.{unchanged, one_by_one, batch_number, batch_received}

module _ (lengths carry pdus log : List ℕ) (r : Receiver) where
  pub state-first : any_of (wrong_state r) ≡ true → batch_number lengths carry pdus log r ≡ 1
  unfolding batch_number
  state-first e = rw e

  module _ (right : any_of (wrong_state r) ≡ false) where
    -- whatever the lengths sum to
    pub carry-second : length carry < 4096 → batch_number lengths carry pdus log r ≡ 2
    unfolding batch_number
    carry-second h = let e : ltb (length carry) 4096 ≡ true = lt-ltb (length carry) 4096 h in rw (right, e)

    -- whatever the first length is
    pub sum-third : 4096 ≤ length carry → ¬ (total lengths ≡ length pdus) → batch_number lengths carry pdus log r ≡ 18
    unfolding batch_number
    sum-third h d =
        let e : ltb (length carry) 4096 ≡ false = le-ltb (length carry) 4096 h in
        let f : eqb (total lengths) (length pdus) ≡ false = ne_eqb (total lengths) (length pdus) d in
        rw (right, e, f)

module _ (carry log : List ℕ) (r : Receiver) (right : any_of (wrong_state r) ≡ false) (room : 4096 ≤ length carry) where
  -- an empty list with an empty buffer is accepted
  pub empty-accepted : batch_received [] carry [] log r ≡ unchanged 0 0 r carry [] log
  unfolding batch_received batch_number total one_by_one
  empty-accepted = let e : ltb (length carry) 4096 ≡ false = le-ltb (length carry) 4096 room in rw (right, e)

  -- a PDU of no bytes is refused with 3: its length is in the list
  pub none-long : (batch_received (0 ∷ []) carry [] log r).answer.refusal ≡ 3
  unfolding batch_received batch_number total one_by_one receive_answer receive_number
  none-long = let e : ltb (length carry) 4096 ≡ false = le-ltb (length carry) 4096 room in rw (right, e)
