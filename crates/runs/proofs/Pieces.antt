-- One piece, by the marks of what was sent of its packet: what is delivered, and what is held.
use Prim.Native.Nat.{ℕ, zero, suc, ◌+◌, ◌%◌, ◌≤◌, ◌<◌}
use mathlib.Core.Path.{◌≡◌, refl, sym, ap, ◌∙◌}
use mathlib.Core.Bool.{Bool, true, false, cond}
use mathlib.Core.List.{List, [], ◌∷◌, ◌++◌}
use native.Mathlib.Omega.{arith}
use native.Mathlib.Nat.{zero-add, le_of_suc-le-suc, not-suc-le-zero}
use borrow.Author.Tests.{lt-ltb, le-ltb}
use lib.Dec.{eqb, ltb}
use lib.ListN.{length, take, drop, replicate, length-take, length-replicate, take-append-drop}
use lib.Seq.{take-add, drop_at}
use Rattle.packet_log.specs.Log.{Entry, packet, packets_of}
use Rattle.reassembly.specs.Reassembly.{Partial, nothing, beginning, Outcome, dropped, kept, finished, joined, piece_step}
use Rattle.reassembly.proofs.Laws.{delivered}
use Rattle.runs.specs.Spans.{Mark}
use Rattle.runs.proofs.Model.{all_taken, is_due, wanted, Sized}

-- ---- marks

-- whether a number is not 0, by its form
abbrev pub positive : ℕ → Bool
positive zero = false
positive (suc n) = true

pub positive-is : (n : ℕ) → ltb 0 n ≡ positive n
positive-is zero = refl
positive-is (suc n) = lt-ltb 0 (suc n) (omega arith)

-- all are taken, and begin in a PDU that is not withheld
abbrev pub intact : List Mark → Bool
intact m = is_due (length m) m

neither : (c : Bool) → cond c false false ≡ false
neither true = refl
neither false = refl

itself : (c : Bool) → cond c c false ≡ c
itself true = refl
itself false = refl

alone : (c : Bool) → cond c true false ≡ c
alone true = refl
alone false = refl

exchange : (a b c d : Bool) → cond a (cond b (cond c d false) false) false ≡ cond c (cond a (cond b d false) false) false
exchange true true c d = refl
exchange true false c d = sym (neither c)
exchange false b c d = sym (neither c)

taken-first : (a b : List Mark) → all_taken (length a) (a ++ b) ≡ all_taken (length a) a
taken-first [] b = refl
taken-first (x ∷ a) b = ap (λ (c : Bool). cond x.taken c false) (taken-first a b)

of-first : (a b : List Mark) → is_due (length a) (a ++ b) ≡ intact a
of-first [] b = refl
of-first (x ∷ a) b = ap (λ (c : Bool). cond x.free c false) (taken-first (x ∷ a) b)

taken-few : (n : ℕ) (m : List Mark) → length m < n → all_taken n m ≡ false
taken-few zero m h = absurd (not-suc-le-zero h)
taken-few (suc n) [] h = refl
taken-few (suc n) (x ∷ m) h = ap (λ (c : Bool). cond x.taken c false) (taken-few n m (le_of_suc-le-suc h)) ∙ neither x.taken

pub of-few : (n : ℕ) (m : List Mark) → length m < n → is_due n m ≡ false
of-few zero m h = absurd (not-suc-le-zero h)
of-few (suc n) [] h = refl
of-few (suc n) (x ∷ m) h = ap (λ (c : Bool). cond x.free c false) (taken-few (suc n) (x ∷ m) h) ∙ neither x.free

-- whether a piece with the mark v counts as taken: one that begins a packet, only in a PDU that is not withheld
abbrev pub counts : Bool → Mark → Bool
counts true v = v.taken
counts false v = cond v.free v.taken false

taken-same : (n : ℕ) (v : Mark) → cond v.taken (all_taken n (replicate n v)) false ≡ v.taken
taken-same zero v = alone v.taken
taken-same (suc n) v = ap (λ (c : Bool). cond v.taken c false) (taken-same n v) ∙ itself v.taken

taken_more : (m : List Mark) (n : ℕ) (v : Mark) → 0 < n → all_taken (length (m ++ replicate n v)) (m ++ replicate n v) ≡ cond v.taken (all_taken (length m) m) false
taken_more [] zero v h = absurd (not-suc-le-zero h)
taken_more [] (suc n) v h =
    let e : length (replicate n v) ≡ n = simp length-replicate in
    ap (λ (k : ℕ). cond v.taken (all_taken k (replicate n v)) false) e ∙ taken-same n v ∙ sym (alone v.taken)
taken_more (x ∷ m) n v h = ap (λ (c : Bool). cond x.taken c false) (taken_more m n v h) ∙ exchange true x.taken v.taken (all_taken (length m) m)

-- marks, and one more piece with the mark v
pub intact-more : (m : List Mark) (n : ℕ) (v : Mark) → 0 < n → intact (m ++ replicate n v) ≡ cond (counts (positive (length m)) v) (intact m) false
intact-more [] zero v h = absurd (not-suc-le-zero h)
intact-more [] (suc n) v h = ap (λ (c : Bool). cond v.free c false) (taken_more [] (suc n) v h) ∙ sym (out v.free v.taken)
  where
    out : (a b : Bool) → cond (cond a b false) true false ≡ cond a (cond b true false) false
    out true b = refl
    out false b = refl
intact-more (x ∷ m) n v h = ap (λ (c : Bool). cond x.free c false) (taken_more (x ∷ m) n v h) ∙ exchange true x.free v.taken (all_taken (suc (length m)) (x ∷ m))

-- a packet whose marks are all at hand
pub wanted-whole : (i : ℕ) (p : List ℕ) (ps : List (List ℕ)) (a m : List Mark) → length a ≡ length p
    → wanted i (p ∷ ps) (a ++ m) ≡ cond (intact a) (packet (i % 64) p ∷ []) [] ++ wanted (suc i) ps m
unfolding wanted
wanted-whole i p ps a m e = rw (← e, of-first, drop_at a m (length a) refl) (go (intact a) (wanted (suc i) ps m))
  where
    go : (c : Bool) (w : List Entry) → cond c (packet (i % 64) p ∷ w) w ≡ cond c (packet (i % 64) p ∷ []) [] ++ w
    go true w = refl
    go false w = refl

-- no marks left: nothing more
pub wanted-none : (i : ℕ) (ps : List (List ℕ)) → Sized ps → wanted i ps [] ≡ []
unfolding wanted
wanted-none i [] z = refl
wanted-none i ([] ∷ ps) z = absurd (not-suc-le-zero z.0)
wanted-none i ((b ∷ p) ∷ ps) z = wanted-none (suc i) ps z.2

-- ---- one piece

-- what is held of packet n when the bytes a of it are sent, and m are their marks
unfoldable pub held_of : ℕ → List Mark → List ℕ → Partial
held_of n [] a = nothing
held_of n (x ∷ m) a = cond (intact (x ∷ m)) (beginning n a) nothing

pub held-some : (n : ℕ) (m : List Mark) (a : List ℕ) → 0 < length m → held_of n m a ≡ cond (intact m) (beginning n a) nothing
unfolding held_of
held-some n [] a h = absurd (not-suc-le-zero h)
held-some n (x ∷ m) a h = refl

pub held-broken : (n : ℕ) (m : List Mark) (a : List ℕ) → intact m ≡ false → held_of n m a ≡ nothing
unfolding held_of
held-broken n [] a e = refl
held-broken n (x ∷ m) a e = rw e

-- the piece of bytes b and this cause, after the marks m
abbrev pub onto : ℕ → ℕ → ℕ → Bool → List Mark → List ℕ → List ℕ → Outcome
onto cause n k ends m a b = piece_step n k (positive (length m)) ends (held_of n m a) (record { cause = cause; bytes = b })

-- taken or not, on top of a beginning that is whole or not
abbrev pub judged : Bool → Bool → ℕ → ℕ → Outcome → Outcome
judged v w cause k o = cond v (cond w o (dropped 3 k)) (dropped cause k)

onto-is : (cause n k : ℕ) (ends : Bool) (m : List Mark) (a b : List ℕ)
    → onto cause n k ends m a b ≡ judged (eqb cause 0) (intact m) cause k (finished n k ends (cond (positive (length m)) (a ++ b) b))
unfolding piece_step joined held_of
onto-is cause n k ends [] a b = refl
onto-is cause n k ends (x ∷ m) a b = ap (λ (o : Outcome). cond (eqb cause 0) o (dropped cause k)) (go (intact (x ∷ m)))
  where
    go : (w : Bool) → joined n k true ends (cond w (beginning n a) nothing) b ≡ cond w (finished n k ends (a ++ b)) (dropped 3 k)
    go true = refl
    go false = refl

-- a piece that ends packet p
pub onto-ends : (cause n k : ℕ) (m : List Mark) (p : List ℕ) → length p ≤ 4096
    → onto cause n k true m (take (length m) p) (drop (length m) p) ≡ judged (eqb cause 0) (intact m) cause k (delivered n p)
unfolding finished
onto-ends cause n k m p h = rw (onto-is cause n k true m (take (length m) p) (drop (length m) p), all m, le-ltb 4096 (length p) h)
  where
    all : (m : List Mark) → cond (positive (length m)) (take (length m) p ++ drop (length m) p) (drop (length m) p) ≡ p
    all [] = refl
    all (x ∷ m) = take-append-drop (suc (length m)) p

-- a piece that is a part of packet p
pub onto-part : (cause n k t : ℕ) (m : List Mark) (p : List ℕ) → length p ≤ 4096
    → onto cause n k false m (take (length m) p) (take t (drop (length m) p)) ≡ judged (eqb cause 0) (intact m) cause k (kept (beginning n (take (length m + t) p)))
unfolding finished
onto-part cause n k t m p h =
    rw (onto-is cause n k false m (take (length m) p) (take t (drop (length m) p)), both m, le-ltb 4096 (length (take (length m + t) p)) (simp length-take (omega arith)))
  where
    both : (m : List Mark) → cond (positive (length m)) (take (length m) p ++ take t (drop (length m) p)) (take t (drop (length m) p)) ≡ take (length m + t) p
    both [] = rw zero-add
    both (x ∷ m) = sym (take-add (suc (length m)) t p)

pub judged-packet : (v w : Bool) (cause k n : ℕ) (p : List ℕ) → packets_of (judged v w cause k (delivered n p)).entries ≡ cond (cond v w false) (packet n p ∷ []) []
unfolding packets_of
judged-packet true true cause k n p = refl
judged-packet true false cause k n p = refl
judged-packet false w cause k n p = refl

pub judged-quiet : (v w : Bool) (cause k : ℕ) (h : Partial) → packets_of (judged v w cause k (kept h)).entries ≡ []
unfolding packets_of
judged-quiet true true cause k h = refl
judged-quiet true false cause k h = refl
judged-quiet false w cause k h = refl

pub judged-held : (v w : Bool) (cause k : ℕ) (h : Partial) → (judged v w cause k (kept h)).partial ≡ cond (cond v w false) h nothing
judged-held true true cause k h = refl
judged-held true false cause k h = refl
judged-held false w cause k h = refl
