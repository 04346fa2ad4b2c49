-- How many bytes are held after a PDU, and how many words are written for it.
use mathlib.Core.Path.{◌≡◌, refl, sym, ap, subst}
use mathlib.Core.Bool.{Bool, true, false}
use mathlib.Core.List.{List}
use Prim.Native.Nat.{ℕ, zero, suc, ◌+◌, ◌≤◌}
use native.Mathlib.Omega.{arith}
use lib.ListN.{length, get_or, drop, length-take}
use Rattle.packet_log.specs.Log.{log_words}
use Rattle.reassembly.specs.Reassembly.{Partial, nothing, beginning, Outcome, received, pieces_step, ends_here, continuing_step, contents_step}
use Rattle.reassembly.specs.Rights.{under}
use Rattle.reassembly.specs.Run.{partial_bytes, partial_of, place_at, length_by, piece_at, piece_of, pieces_from, Marked, Parsed, said_of, memory_by, first_cause}
use Rattle.reassembly.specs.declared.Head.{Head}
use Rattle.reassembly.specs.declared.State.{State}
use Rattle.reassembly.proofs.Bound.{piece_bytes, bound}
use Rattle.reassembly.proofs.Runs.{Fine, fine-nothing, fine-partial, fine-piece, this, rest, all_cons, all_none, rest-is, fine-this, piece-some}
use Rattle.reassembly.proofs.Whole.{begins, total-is, fine-begun, psd-length}
use Rattle.layout.specs.Control.{piece_number}

module _ (num : ℕ → ℕ) (plast : Bool) (d m g : List ℕ) (nop : ℕ) (w : Marked d m nop) where
  pieces-fine : (k n : ℕ) (cont : Bool) (h : Partial) → Fine h → k + n ≤ nop → Fine (pieces_step num k cont plast h (pieces_from d m g k n)).partial
  pieces-fine k zero cont h f l = subst (λ (o : Outcome). Fine o.partial) (sym (all_none num plast d m g k cont h)) f
  pieces-fine k (suc n) cont h f l =
      let o : Outcome = this num plast d m g k n cont h in
      let fine : Fine o.partial = fine-this num plast d m g k n cont h (piece-some d m nop k w (omega arith)) in
      let r : Fine (rest num plast d m g k n o.partial).partial = subst (λ (u : Outcome). Fine u.partial) (rest-is num plast d m g k n o.partial) (pieces-fine (k + 1) n false o.partial fine (omega arith)) in
      subst (λ (u : Outcome). Fine u.partial) (sym (all_cons num plast d m g k n cont h)) r

-- after steps 3 and 4, withheld or not
contents-fine : (w : Bool) (head : Head) (m g d : List ℕ) (h : Partial) → Parsed head d m → Fine h → Fine (contents_step w (said_of head m g d) h).partial
unfolding contents_step continuing_step said_of pieces_from
contents-fine false head m g d h p f = pieces-fine (piece_number head.pfirst head.start) head.plast d m g head.nop p.marked 0 head.nop head.pfirst h f (omega arith)
contents-fine true head m g d nothing p f = fine-nothing
contents-fine true head m g d (beginning k b) p f = go head.nop refl
  where
    go : (n : ℕ) → n ≡ head.nop → Fine (continuing_step (piece_number head.pfirst head.start 0) head.plast (beginning k b) (pieces_from d m g 0 n)).partial
    go zero e = f
    go (suc n) e =
        fine-piece (piece_number head.pfirst head.start 0) 0 true (ends_here head.plast (pieces_from d m g (0 + 1) n)) (beginning k b) (piece_of (get_or g 0 0) (piece_at d m 0)) (piece-some d m head.nop 0 p.marked (omega (arith, e)))

pub held-bounded : (w : Bool) (s : State) (range : ℕ) (head : Head) (m g d c : List ℕ) → s.held ≤ 4096 → 4096 ≤ length c → Parsed head d m
    → length (partial_bytes (received range (memory_by s c) (under w (said_of head m g d))).partial) ≤ 4096
unfolding begins
held-bounded w s range head m g d c small big p =
    let first : Fine (begins s range head c).partial = fine-begun (first_cause s range head) (partial_of s.held s.number c) (fine-partial s.held s.number c small (omega arith)) in
    let last : Fine (contents_step w (said_of head m g d) (begins s range head c).partial).partial = contents-fine w head m g d (begins s range head c).partial p first in
    subst (λ (o : Outcome). length (partial_bytes o.partial) ≤ 4096) (sym (total-is s range head c w m g d)) last.0

-- ---- words

-- n pieces from piece k on end by mark k + n
pieces-within : (d m g : List ℕ) (nop : ℕ) → Marked d m nop → (n k : ℕ) → k + n ≤ nop
    → (length (pieces_from d m g k n) ≡ n) × (piece_bytes (pieces_from d m g k n) + get_or m k 0 ≤ get_or m (k + n) 0)
unfolding pieces_from piece_at
pieces-within d m g nop w zero k h = let e : k + 0 ≡ k = omega arith in (refl, subst (λ (i : ℕ). 0 + get_or m k 0 ≤ get_or m i 0) (sym e) (omega arith))
pieces-within d m g nop w (suc n) k h =
    let i = pieces-within d m g nop w n (k + 1) (omega arith) in
    let e : k + 1 + n ≡ k + suc n = omega arith in
    let t = length-take (length_by m k) (drop (place_at m k) d) in
    let r = w.rising k (omega arith) in
    (ap suc i.0, subst (λ (j : ℕ). piece_bytes (pieces_from d m g k (suc n)) + get_or m k 0 ≤ get_or m j 0) e (omega (arith, i.1, t, r)))

last_within : (d m : List ℕ) (n : ℕ) → Marked d m n → get_or m (0 + n) 0 + 1 ≤ length d
last_within d m zero w = let h = w.first in omega (arith, h)
last_within d m (suc n) w = let e : n + 1 ≡ 0 + suc n = omega arith in subst (λ (i : ℕ). get_or m i 0 + 1 ≤ length d) e (let h = w.within n (omega arith) in omega (arith, h))

-- at most 8,400, whatever the causes of its pieces are
pub words-bounded : (v : Bool) (s : State) (range : ℕ) (head : Head) (m g d c : List ℕ) → s.held ≤ 4096 → 4096 ≤ length c → Parsed head d m
    → length (log_words (received range (memory_by s c) (under v (said_of head m g d))).entries) ≤ 8400
unfolding memory_by said_of
words-bounded v s range head m g d c small big w =
    let p = pieces-within d m g head.nop w.marked head.nop 0 (omega arith) in
    let l = last_within d m head.nop w.marked in
    let q = psd-length head m d w in
    let f = fine-partial s.held s.number c small (omega arith) in
    bound range _ _ f.0 (let n = w.marked.few in omega (arith, p.0, n)) (let z = w.size in omega (arith, p.1, l, q, z))
