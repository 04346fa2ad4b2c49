-- The log of a batch is a log: those of its PDUs, one after another.
use mathlib.Core.Path.{◌≡◌, refl, sym, ap, subst, ◌∙◌}
use mathlib.Core.Bool.{Bool, true, false, cond}
use mathlib.Core.List.{List, [], ◌∷◌, ◌++◌}
use Prim.Native.Nat.{ℕ, suc, ◌+◌, ◌≤◌}
use native.Mathlib.Omega.{arith}
use lib.Dec.{eqb}
use lib.ListN.{length, take, drop}
use lib.Seq.{length-take-le}
use Rattle.receiver.specs.Receiving.{receive_answer, carry_after, pdu_after, log_after}
use Rattle.receiver.specs.declared.Receiver.{Receiver}
use Rattle.batch.specs.Batches.{Result, unchanged, followed, one_by_one, batch_number, batch_received}
use Rattle.batch.proofs.Single.{words-fit, log-long}
use Rattle.join.specs.Join.{is_log}
use Rattle.join.proofs.Logs.{log-after}
use Rattle.writer.specs.RoundTrip.{Bytes}
use Rattle.delivery.proofs.Made.{bytes_take, bytes_drop}
use Rattle.joinable.proofs.Calls.{no_words, received-log, carry-bytes}

take_past : (xs ys : List ℕ) (w k : ℕ) → length xs ≡ w → take (w + k) (xs ++ ys) ≡ xs ++ take k ys
take_past [] ys w k e =
    let p : w + k ≡ k = omega arith in
    ap (λ (n : ℕ). take n ys) p
take_past (x ∷ xs) ys w k e =
    let p : w + k ≡ suc (length xs + k) = omega arith in
    ap (λ (n : ℕ). take n (x ∷ xs ++ ys)) p ∙ ap (λ (l : List ℕ). x ∷ l) (take_past xs ys (length xs) k refl)

-- the words that count are a log, and the carry is of bytes
abbrev Right : Result → Type 0
Right x = (is_log (take x.answer.words x.log) ≡ true) × Bytes x.carry

then-right : (w : ℕ) (pdu logged : List ℕ) (rest : Result) → w ≤ length logged → is_log (take w logged) ≡ true → Right rest → Right (followed 1 w pdu (take w logged) rest)
then-right w pdu logged rest h e f = (
  subst (λ (ws : List ℕ). is_log ws ≡ true) (sym (take_past (take w logged) rest.log w rest.answer.words (length-take-le w logged h)))
      (log-after (take w logged) (take rest.answer.words rest.log) e f.0),
  f.1,
)

right-cond : (t : Bool) (x y : Result) → Right x → Right y → Right (cond t x y)
right-cond true x y p q = p
right-cond false x y p q = q

one_by_one_lem : (ns : List ℕ) (r : Receiver) (carry pdus log : List ℕ) → Bytes carry → Bytes pdus → Right (one_by_one ns r carry pdus log)
unfolding one_by_one
one_by_one_lem [] r carry pdus log b p = (no_words, b)
one_by_one_lem (n ∷ ns) r carry pdus log b p =
    let pdu = take n pdus in
    let a = receive_answer [] carry pdu log r in
    let logged = log_after [] carry pdu log r in
    let rest = one_by_one ns a.receiver (carry_after [] carry pdu log r) (drop n pdus) (drop a.words logged) in
    right-cond (eqb a.refusal 0) (followed 1 a.words (pdu_after [] carry pdu log r) (take a.words logged) rest) (unchanged a.refusal a.wrong r carry pdus log)
    (then-right a.words (pdu_after [] carry pdu log r) logged rest
    (omega (arith, words-fit [] carry pdu log r, log-long [] carry pdu log r)) (received-log [] carry pdu log r b (bytes_take n pdus p))
    (one_by_one_lem ns a.receiver (carry_after [] carry pdu log r) (drop n pdus) (drop a.words logged) (carry-bytes [] carry pdu log r b (bytes_take n pdus p)) (bytes_drop n pdus p)))
    (no_words, b)

pub batch-log : (lengths carry pdus log : List ℕ) (r : Receiver) → Bytes carry → Bytes pdus → Right (batch_received lengths carry pdus log r)
unfolding batch_received
batch-log lengths carry pdus log r b p =
    right-cond (eqb (batch_number lengths carry pdus log r) 0) (one_by_one lengths r carry pdus log) (unchanged (batch_number lengths carry pdus log r) 0 r carry pdus log)
    (one_by_one_lem lengths r carry pdus log b p) (no_words, b)
