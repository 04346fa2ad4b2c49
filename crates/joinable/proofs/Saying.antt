-- What an accepted PDU says, and what its receiver holds, are within their bounds.
use mathlib.Core.Path.{◌≡◌, refl, sym, ap, ◌∙◌}
use mathlib.Core.Bool.{Bool, false}
use mathlib.Core.List.{List}
use Prim.Native.Nat.{ℕ, zero, suc, ◌<◌, ◌≤◌}
use native.Mathlib.Omega.{arith}
use lib.Dec.{eqb, ltb, leb}
use borrow.Author.Tests.{ltb-false, leb-true, eqb-true, not-false}
use lib.ListN.{length, get_or, take, drop}
use lib.Seq.{length-take-le}
use Rattle.refusal.specs.Refusal.{first_of, any_of}
use Rattle.refusal.proofs.Rows.{passed, row-off, rest-off, none-at}
use Rattle.modes.specs.declared.Mode.{Mode}
use Rattle.header.proofs.Unique.{all-bytes}
use Rattle.layout.specs.Control.{control_at}
use Rattle.correction.specs.Marks.{marks_refusal, corrected_pdu_with}
use Rattle.pdu.specs.Reading.{reader_tests, listing_of, mode_in}
use Rattle.pdu.proofs.Assembling.{nop-small}
use Rattle.reassembly.specs.Reassembly.{Said}
use Rattle.reassembly.specs.Rights.{under}
use Rattle.reassembly.specs.Run.{partial_of}
use Rattle.reassembly.proofs.Fitting.{SanePartial, SaneSaid}
use Rattle.receiver.specs.Receiving.{said_by, come_by, memory_of, mode_of, wrong_state, said, receive_tests, receive_number}
use Rattle.receiver.specs.declared.Receiver.{Receiver}
use Rattle.receiver.proofs.Rows.{both-on, same-listing}
use Rattle.receiver.proofs.Enough.{first_twelve, corrected-length}
use Rattle.writer.specs.RoundTrip.{Bytes}
use Rattle.delivery.proofs.Made.{bytes_of, bytes_take}
use Rattle.delivery.proofs.Accepted.{corrected-bytes, sane-said}

-- ---- what is held

sane-held : (held number : ℕ) (carry : List ℕ) → Bytes carry → held ≤ 4096 → 4096 ≤ length carry → number < 64 → SanePartial (partial_of held number carry)
sane-held zero number carry b h r n = tt
sane-held (suc k) number carry b h r n =
    let l = length-take-le (suc k) carry (omega arith) in
    (bytes_of (take (suc k) carry) (bytes_take (suc k) carry b), omega (arith, l), omega (arith, l, h), n)

-- where rows 1 and 2 do not apply
pub held-sane : (carry : List ℕ) (r : Receiver) → Bytes carry → any_of (wrong_state r) ≡ false → ltb (length carry) 4096 ≡ false → SanePartial (memory_of r carry).partial
unfolding memory_of
held-sane carry r b state room =
    sane-held r.held r.number carry b (ltb-false 4096 r.held (none-at (wrong_state r) 3 state)) (ltb-false (length carry) 4096 room)
    (let n = ltb-false 63 r.number (none-at (wrong_state r) 4 state) in omega (arith, n))

-- ---- an accepted call

-- withheld or not
pub under-sane : (w : Bool) (d : Said) → SaneSaid d → SaneSaid (under w d)
under-sane w d s = record { psd = s.psd; pieces = s.pieces; few = s.few }

module _ (marks carry pdu log : List ℕ) (r : Receiver) (bc : Bytes carry) (bp : Bytes pdu) (e : receive_number marks carry pdu log r ≡ 0) where
  abbrev y : List ℕ
  y = corrected_pdu_with marks pdu

  twelve : first_of (first_twelve marks carry pdu log r) ≡ 0
  unfolding receive_number
  twelve = (passed 0 (first_twelve marks carry pdu log r) (drop 13 (receive_tests marks carry pdu log r)) refl e).0

  off : (k : ℕ) → (get_or (first_twelve marks carry pdu log r) k (false, 0)).0 ≡ false
  off k = row-off (first_twelve marks carry pdu log r) k refl twelve

  pub said-sane : SaneSaid (said marks carry pdu log r)
  unfolding come_by
  said-sane =
      let size = both-on (leb 96 (length pdu)) (leb (length pdu) 20480) (off 2) in
      let lo = leb-true 96 (length pdu) size.0 in
      let hi = leb-true (length pdu) 20480 size.1 in
      let ok : marks_refusal marks ≡ 0 = eqb-true (marks_refusal marks) 0 (not-false (eqb (marks_refusal marks) 0) (off 3)) in
      let m : mode_in (listing_of (control_at y)) ≡ mode_of r = ap mode_in (same-listing r (control_at y) (off 6)) in
      let right = ap (λ (k : Mode). first_of (reader_tests k (control_at y) y)) (sym m) ∙ rest-off (first_twelve marks carry pdu log r) 7 refl twelve in
      under-sane (said marks carry pdu log r).withheld (said_by r.register (mode_of r).width (control_at y) y)
      (sane-said r.register (mode_of r) (control_at y) y (corrected-bytes marks pdu lo hi bp ok) right (omega (arith, corrected-length marks pdu lo hi (all-bytes pdu bp) ok, hi)) (nop-small y))

  pub held-before : SanePartial (memory_of r carry).partial
  held-before = held-sane carry r bc (off 0) (off 1)
