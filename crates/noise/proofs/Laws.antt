-- Bytes before 96 after bursts, a window moved down, and a header that is put back.
use mathlib.Core.Path.{◌≡◌, refl, sym, ap, ◌∙◌, subst}
use mathlib.Core.Bool.{Bool, true, false, not, ◌&&◌, cond, true≢false}
use mathlib.Core.List.{List}
use Prim.Native.Nat.{ℕ, zero, suc, ◌+◌, ◌-◌, ◌/◌, ◌%◌, ◌<◌, ◌≤◌}
use native.Mathlib.Omega.{arith}
use native.Mathlib.Numerals.{add-one}
use lib.Dec.{eqb, leb}
use lib.ListN.{length, get_or, take}
use lib.Seq.{take-set-le}
use borrow.Author.Tests.{ne_eqb, eqb-true, leb-true}
use Rattle.refusal.proofs.Rows.{row-off}
use Rattle.header.specs.Header.{header_of, front_replaced}
use Rattle.correction.specs.Correction.{corrected_pdu}
use Rattle.correction.proofs.Answers.{header-put-back}
use Rattle.layout.specs.Control.{control_at}
use Rattle.pdu.specs.Reading.{accepted, refused, read_tests, width_of, wrong_of, read_number, reading_by, reading_of, read_pdu}
use Rattle.pdu.specs.declared.Reading.{Reading}
use Rattle.noise.specs.Noise.{down, flipped_at, flipped, Struck, Passed, missed, struck, Hits, begun, next}

pub down_turn : (n x : ℕ) → 0 < n → down (n - 1) (x / 2) ≡ down n x
unfolding down
down_turn zero x h = absurd (omega arith)
down_turn (suc n) x h = let e : suc n - 1 ≡ n = omega arith in ap (λ (k : ℕ). down k (x / 2)) e

-- two bytes flipped, one after the other
pub flipped-by : (l m l' : List ℕ) (place mask x : ℕ) → mask ≡ x → m ≡ flipped_at l place (mask / 256) → l' ≡ flipped_at m (place + 1) (mask % 256) → l' ≡ flipped l place x
unfolding flipped
flipped-by l m l' place mask x e f g =
    g ∙ ap (λ (u : List ℕ). flipped_at u (place + 1) (mask % 256)) f ∙ ap (λ (k : ℕ). flipped_at (flipped_at l place (k / 256)) (place + 1) (k % 256)) e

-- ---- what stays

front_kept : (l : List ℕ) (p mask : ℕ) → 96 ≤ p → take 96 (flipped_at l p mask) ≡ take 96 l
unfolding flipped_at
front_kept l p mask h = take-set-le 96 l p _ h

struck-front : (start end : ℕ) (l l' : List ℕ) → Struck start end l l' → take 96 l' ≡ take 96 l
unfolding flipped
struck-front start end l l' s =
    ap (take 96) s.after ∙ front_kept (flipped_at l s.place _) (s.place + 1) _ (omega (arith, s.behind)) ∙ front_kept l s.place _ s.behind

passed-front : (start end : ℕ) (l l' : List ℕ) (n : ℕ) → Passed start end l l' n → take 96 l' ≡ take 96 l
passed-front start end l l' n missed = refl
passed-front start end l l' n (struck l'' s) = struck-front start end l l'' s

-- the header stays
pub hits-front : (starts lengths l : List ℕ) (k : ℕ) (l' : List ℕ) (n : ℕ) → Hits starts lengths l k l' n → take 96 l' ≡ take 96 l
hits-front starts lengths l k l' n begun = refl
hits-front starts lengths l k l' n (next j hit m more m' h p) = passed-front _ _ m m' more p ∙ hits-front starts lengths l j m hit h

-- one piece more, counted as loops count
pub hits_next : (starts lengths l : List ℕ) (k hit : ℕ) (m : List ℕ) (more : ℕ) (m' : List ℕ) (start long : ℕ) → Passed start (start + long) m m' more → Hits starts lengths l k m hit
    → start ≡ get_or starts k 0 → long ≡ get_or lengths k 0 → Hits starts lengths l (k + 1) m' (hit + more)
hits_next starts lengths l k hit m more m' start long p h es el = rw add-one (next k hit m more m' h (rw (es, el) at p))

pub hits-end : (starts lengths l : List ℕ) (k n : ℕ) (m : List ℕ) (hit : ℕ) → Hits starts lengths l k m hit → k ≡ n → Hits starts lengths l n m hit
hits-end starts lengths l k n m hit h e = rw e at h

-- the bytes that may be hit lie in the piece
pub hit-inside : (start from end : ℕ) (l l' : List ℕ) → Struck from end l l' → start ≤ from → Passed start end l l' 1
hit-inside start from end l l' s h =
    struck
    l'
    record {
      place = s.place;
      offset = s.offset;
      bits = s.bits;
      behind = s.behind;
      inside = omega (arith, s.inside);
      into = s.into;
      window = s.window;
      some = s.some;
      byte = s.byte;
      after = s.after;
    }

pub passed-by : (start end : ℕ) (l : List ℕ) (n : ℕ) → n ≡ 0 → (Passed start end l l n) × (n ≤ 1)
passed-by start end l n e = (rw e missed, omega arith)

-- r is what reading answered, q the PDU after that
pub hits-by : (p q l' : List ℕ) (r : Reading) (n : ℕ) → r ≡ reading_of p → q ≡ p → Hits r.starts r.lengths q r.control.nop l' n
    → Hits (reading_of p).starts (reading_of p).lengths p (reading_of p).control.nop l' n × (take 96 l' ≡ take 96 p)
hits-by p q l' r n er eq h =
    let j : Hits (reading_of p).starts (reading_of p).lengths q (reading_of p).control.nop l' n = subst (λ (x : Reading). Hits x.starts x.lengths q x.control.nop l' n) er h in
    let k : Hits (reading_of p).starts (reading_of p).lengths p (reading_of p).control.nop l' n = subst (λ (x : List ℕ). Hits (reading_of p).starts (reading_of p).lengths x (reading_of p).control.nop l' n) eq j in
    (k, hits-front _ _ p _ l' n k)

-- ---- a header put back

module _ (p : List ℕ) where
  number_read : (reading_of p).refusal ≡ read_number p
  unfolding reading_by accepted refused
  number_read = go (eqb (read_number p) 0) refl
    where
      y : List ℕ
      y = corrected_pdu p

      go : (b : Bool) → eqb (read_number p) 0 ≡ b → (cond b (accepted (width_of y) (control_at y) y) (refused (read_number p) (wrong_of y (read_number p)))).refusal ≡ read_number p
      go true e = sym (eqb-true (read_number p) 0 e)
      go false e = refl

  length-allowed : read_number p ≡ 0 → (96 ≤ length p) × (length p ≤ 20480)
  unfolding read_number
  length-allowed z = go (leb 96 (length p)) (leb (length p) 20480) refl refl (row-off (read_tests p) 0 refl z)
    where
      go : (a b : Bool) → leb 96 (length p) ≡ a → leb (length p) 20480 ≡ b → not (a && b) ≡ false → (96 ≤ length p) × (length p ≤ 20480)
      go true true ea eb e = (leb-true 96 (length p) ea, leb-true (length p) 20480 eb)
      go true false ea eb e = absurd (true≢false e)
      go false b ea eb e = absurd (true≢false e)

  -- q is the PDU after the call, r what reading answered
  pub left_alone : (q : List ℕ) (r : Reading) → r ≡ reading_of p → q ≡ read_pdu p → ¬ (r.refusal ≡ 0) → q ≡ p
  unfolding read_pdu
  left_alone q r er eq d =
      let t : eqb (read_number p) 0 ≡ false = ne_eqb (read_number p) 0 (λ z. d (ap (λ (x : Reading). x.refusal) er ∙ number_read ∙ z)) in
      eq ∙ rw t

  -- w is the header before, v the PDU after reading
  pub put_back : (w v q : List ℕ) (r : Reading) → ((i : ℕ) → get_or p i 0 < 256) → w ≡ header_of p → r ≡ reading_of p → v ≡ read_pdu p → r.refusal ≡ 0 → q ≡ front_replaced v w → q ≡ p
  unfolding read_pdu
  put_back w v q r b ew er ev z eq =
      let n : read_number p ≡ 0 = sym number_read ∙ ap (λ (x : Reading). x.refusal) (sym er) ∙ z in
      let l : (96 ≤ length p) × (length p ≤ 20480) = length-allowed n in
      let ey : v ≡ corrected_pdu p = ev ∙ rw n in
      eq ∙ rw (ew, ey) (header-put-back p l.0 l.1 b)
