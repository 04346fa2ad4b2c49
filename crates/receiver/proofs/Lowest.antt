-- Document 02, Ask 6: what receiving answers with 11.
use mathlib.Core.Path.{◌≡◌, refl, sym, subst}
use mathlib.Core.Bool.{true, cond}
use mathlib.Core.List.{List}
use Prim.Native.Nat.{ℕ}
use lib.Dec.{eqb}
use lib.ListN.{take, drop}
use Rattle.refusal.proofs.Rows.{row_on}
use Rattle.correction.specs.Marks.{corrected_pdu_with}
use Rattle.layout.specs.Control.{control_at}
use Rattle.pdu.specs.Reading.{wrong_locator, any_below, width_of, wrong_of}
use Rattle.pdu.proofs.Lowest.{Lowest, with-eleven}
use Rattle.receiver.specs.Receiving.{refused_answer, receive_tests, receive_number, receive_answer}
use Rattle.receiver.specs.declared.Receiver.{Receiver}
use Rattle.receiver.specs.declared.Received.{Received}

with_number : (y : List ℕ) (r : Receiver) (a : Received) (n : ℕ) → n ≡ 11 → (cond (eqb n 0) a (refused_answer r n (wrong_of y n))).wrong ≡ wrong_of y 11
with_number y r a n e = rw e

-- the smallest k whose locator is wrong, once the header is corrected with the marks
pub received-lowest : (marks carry pdu log : List ℕ) (r : Receiver) → receive_number marks carry pdu log r ≡ 11
    → Lowest (corrected_pdu_with marks pdu) (receive_answer marks carry pdu log r).wrong
unfolding receive_number receive_answer width_of
received-lowest marks carry pdu log r e =
    let y = corrected_pdu_with marks pdu in
    let rows = receive_tests marks carry pdu log r in
    let row : any_below (control_at y).nop (wrong_locator (width_of y) (control_at y) y) ≡ true = row_on _ 11 (take 11 rows) (drop 12 rows) refl refl refl e in
    subst (Lowest y) (sym (with_number y r _ _ e)) (with-eleven y row)
