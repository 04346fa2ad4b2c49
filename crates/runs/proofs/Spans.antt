-- Marks against bytes: what is due by marks is what is whole by bytes.
use Prim.Native.Nat.{ℕ, zero, suc, ◌+◌, ◌-◌, ◌%◌, ◌≤◌, ◌<◌}
use mathlib.Core.Path.{◌≡◌, refl, sym, ap, ap₂, ◌∙◌, fun_ext}
use mathlib.Core.Bool.{Bool, true, false, ◌&&◌, cond}
use mathlib.Core.List.{List, [], ◌∷◌, ◌++◌}
use native.Mathlib.Omega.{arith}
use native.Mathlib.Decide.{dec_lt}
use native.Mathlib.Nat.{add_assoc, zero-add, le_of_suc-le-suc, not-suc-le-zero}
use borrow.Author.Tests.{lt-ltb, le-ltb, le-leb, lt-leb}
use lib.ListN.{length, take, drop, replicate, get_or, length-append, length-drop, length-take, length-replicate, get_or-replicate, get_or-append}
use lib.Seq.{take-add, drop-drop, get_or-append-add}
use Rattle.packet_log.specs.Log.{Entry, packet}
use Rattle.runs.proofs.Model.{cut, Fits, sent_after, Plan, later, marks, run_marks, all_taken, is_due, wanted, AllFit, Sized, whole_packets, bytes_in, spans_of, fates_of, nowhere}
use Rattle.runs.specs.Spans.{Mark, verdicts, packet_at, covers, lies, every, whole_indices, due_at, entries_at}
use Rattle.runs.proofs.Transmissions.{due_from}
use Rattle.runs.proofs.Theorem.{cut-none, marks-part, marks-whole, Unfinished, unfinished-zero, unfinished-next, sized-drop}

-- ---- the packets that are due, by their marks

and-cond : (a b : Bool) → cond a b false ≡ (a && b)
and-cond true b = refl
and-cond false b = refl

every-shift : (b : Mark) (m : List Mark) (o n : ℕ) → every (λ j. (get_or (b ∷ m) j nowhere).taken) (suc o) n ≡ every (λ j. (get_or m j nowhere).taken) o n
every-shift b m o zero = refl
every-shift b m o (suc n) = ap (λ (x : Bool). (get_or m o nowhere).taken && x) (every-shift b m (suc o) n)

taken-every : (m : List Mark) (o n : ℕ) → all_taken n (drop o m) ≡ every (λ j. (get_or m j nowhere).taken) o n
taken-every m o zero = refl
taken-every [] zero (suc n) = refl
taken-every [] (suc o) (suc n) = refl
taken-every (b ∷ m) zero (suc n) =
    and-cond b.taken (all_taken n m) ∙ ap (λ (x : Bool). b.taken && x) (taken-every m zero n ∙ sym (every-shift b m zero n))
taken-every (b ∷ m) (suc o) (suc n) = taken-every m o (suc n) ∙ sym (every-shift b m o (suc n))

due-every : (m : List Mark) (o n : ℕ) → 0 < n → is_due n (drop o m) ≡ ((get_or m o nowhere).free && every (λ j. (get_or m j nowhere).taken) o n)
due-every m o zero h = absurd (not-suc-le-zero h)
due-every [] zero (suc n) h = refl
due-every [] (suc o) (suc n) h = refl
due-every (b ∷ m) zero (suc n) h = and-cond b.free (all_taken (suc n) (b ∷ m)) ∙ ap (λ (x : Bool). b.free && x) (taken-every (b ∷ m) zero (suc n))
due-every (b ∷ m) (suc o) (suc n) h = due-every m o (suc n) h ∙ ap (λ (x : Bool). (get_or m o nowhere).free && x) (sym (every-shift b m o (suc n)))

if-packet : (c : Bool) (x : Entry) (w : List Entry) → cond c (x ∷ w) w ≡ cond c (x ∷ []) [] ++ w
if-packet true x w = refl
if-packet false x w = refl

marks-bytes : (m : List Mark) (o i : ℕ) (ps : List (List ℕ)) → Sized ps → wanted i ps (drop o m) ≡ whole_packets (due_at (λ j. get_or m j nowhere)) o i ps
unfolding wanted whole_packets
marks-bytes m o i [] z = refl
marks-bytes m o i (p ∷ ps) z = rw (due-every m o (length p) z.0, drop-drop, marks-bytes m (o + length p) (suc i) ps z.2, if-packet)

marks-indices : (m : List Mark) (o i : ℕ) (ps : List (List ℕ)) → Sized ps → due_from i ps (drop o m) ≡ whole_indices (due_at (λ j. get_or m j nowhere)) o i ps
unfolding due_from whole_indices
marks-indices m o i [] z = refl
marks-indices m o i (p ∷ ps) z = rw (due-every m o (length p) z.0, drop-drop, marks-indices m (o + length p) (suc i) ps z.2)

-- ---- which packet a byte is of

past : (a b n : ℕ) → a + b + n - a ≡ b + n
past a b n = omega arith

pub packet-past : (ps : List (List ℕ)) (i n : ℕ) → i ≤ length ps → packet_at ps (bytes_in (take i ps) + n) ≡ i + packet_at (drop i ps) n
packet-past ps zero n h = rw (zero-add, zero-add)
packet-past [] (suc i) n h = absurd (not-suc-le-zero h)
packet-past (p ∷ ps) (suc i) n h =
    rw (le-leb (length p) (length p + bytes_in (take i ps) + n) (omega arith), past (length p) (bytes_in (take i ps)) n, packet-past ps i n (le_of_suc-le-suc h)) (omega arith)

pub packet-first : (rest : List (List ℕ)) (s : ℕ) → Unfinished s rest → packet_at rest s ≡ 0
packet-first [] s u = refl
packet-first (p ∷ ps) s u = rw (lt-leb (length p) s u)

-- ---- the marks of a PDU

length-marks : (v : ℕ → Mark) (bs : List (List ℕ)) → length (marks v bs) ≡ bytes_in bs
unfolding marks
length-marks v [] = refl
length-marks v (b ∷ bs) = simp (length-append, length-replicate, length-marks (later v) bs)

mark-before : (n j : ℕ) (v : Mark) (m : List Mark) → j < n → get_or (replicate n v ++ m) j nowhere ≡ v
mark-before n j v m h = get_or-append (replicate n v) m nowhere j (rw length-replicate h) ∙ get_or-replicate n j v nowhere h

mark-after : (n k : ℕ) (v : Mark) (m : List Mark) → get_or (replicate n v ++ m) (n + k) nowhere ≡ get_or m k nowhere
mark-after n k v m = rw (length-replicate n v) at (get_or-append-add (replicate n v) m k nowhere)

-- byte j of a PDU's bytes has the mark of its packet's piece
marks-piece : (v : ℕ → Mark) (s e t : ℕ) (rest : List (List ℕ)) → Fits s e t rest → Sized rest → Unfinished s rest → (j : ℕ) → j < bytes_in (cut s e t rest)
    → get_or (marks v (cut s e t rest)) j nowhere ≡ v (packet_at rest (s + j))
unfolding cut
marks-piece v s zero zero rest h z u j l = absurd (not-suc-le-zero (rw (cut-none s rest) at l))
marks-piece v s zero (suc t) [] h z u j l = absurd h
marks-piece v s zero (suc t) (p ∷ ps) h z u j l =
    let n : length (take (suc t) (drop s p)) ≡ suc t = simp (length-take, length-drop) (omega arith) in
    rw (marks-part v s t p ps h, lt-leb (length p) (s + j) (omega arith)) (get_or-replicate (suc t) j (v 0) nowhere (omega arith))
marks-piece v s (suc e) t [] h z u j l = absurd h
marks-piece v s (suc e) t (p ∷ ps) h z u j l =
    rw (marks-whole v s e t p ps) (go (dec_lt j (length (drop s p))) (λ k m. marks-piece (later v) 0 e t ps h z.2 (unfinished-zero ps z.2) k m))
  where
    d : length (drop s p) ≡ length p - s
    d = length-drop s p

    go : Dec (j < length (drop s p)) → ((k : ℕ) → k < bytes_in (cut 0 e t ps) → get_or (marks (later v) (cut 0 e t ps)) k nowhere ≡ later v (packet_at ps (0 + k)))
        → get_or (replicate (length (drop s p)) (v 0) ++ marks (later v) (cut 0 e t ps)) j nowhere ≡ v (packet_at (p ∷ ps) (s + j))
    go (yes y) f = rw (lt-leb (length p) (s + j) (omega (arith, d))) (mark-before (length (drop s p)) j (v 0) (marks (later v) (cut 0 e t ps)) y)
    go (no y) f =
        let k : ℕ = j - length (drop s p) in
        let e1 : j ≡ length (drop s p) + k = omega arith in
        let e2 : s + j - length p ≡ 0 + k = omega (arith, d) in
        rw (le-leb (length p) (s + j) (omega (arith, d)), e2)
        (ap (λ (x : ℕ). get_or (replicate (length (drop s p)) (v 0) ++ marks (later v) (cut 0 e t ps)) x nowhere) e1 ∙ mark-after (length (drop s p)) k (v 0) (marks (later v) (cut 0 e t ps)) ∙ f k (omega arith))

-- ---- a list of PDUs

-- after g bytes packet i is the unfinished one, and s of its bytes are sent
pub record Stands (ps : List (List ℕ)) (g i s : ℕ) : Type 0 where
  pub place : g ≡ bytes_in (take i ps) + s
  pub bound : i ≤ length ps
  pub rest : Unfinished s (drop i ps)

pub stands-first : (ps : List (List ℕ)) → Sized ps → Stands ps 0 0 0
stands-first ps z = record { place = omega arith; bound = omega arith; rest = unfinished-zero ps z }

bytes-append : (a b : List (List ℕ)) → bytes_in (a ++ b) ≡ bytes_in a + bytes_in b
bytes-append [] b = rw zero-add
bytes-append (p ∷ a) b = rw (bytes-append a b) (omega arith)

whole-bound : (s e t : ℕ) (rest : List (List ℕ)) → Fits s e t rest → e ≤ length rest
whole-bound s zero t rest h = omega arith
whole-bound s (suc e) t [] h = absurd h
whole-bound s (suc e) t (p ∷ ps) h = let b = whole-bound 0 e t ps h in omega arith

sent-after-zero : (e t : ℕ) → sent_after 0 e t ≡ t
sent-after-zero zero t = zero-add t
sent-after-zero (suc e) t = refl

bytes_cut : (s e t : ℕ) (rest : List (List ℕ)) → Fits s e t rest → Sized rest → Unfinished s rest → s + bytes_in (cut s e t rest) ≡ bytes_in (take e rest) + sent_after s e t
unfolding cut
bytes_cut s zero zero rest h z u = rw (cut-none s rest) (omega arith)
bytes_cut s zero (suc t) [] h z u = absurd h
bytes_cut s zero (suc t) (p ∷ ps) h z u = simp (length-take, length-drop) (omega arith)
bytes_cut s (suc e) t [] h z u = absurd h
bytes_cut s (suc e) t (p ∷ ps) h z u =
    let i = bytes_cut 0 e t ps h z.2 (unfinished-zero ps z.2) in
    let j = sent-after-zero e t in
    simp length-drop (omega arith)

pub stands-next : (ps : List (List ℕ)) (g i s e t : ℕ) → Sized ps → Stands ps g i s → Fits s e t (drop i ps) → Stands ps (g + bytes_in (cut s e t (drop i ps))) (i + e) (sent_after s e t)
stands-next ps g i s e t z v h =
    let c = bytes_cut s e t (drop i ps) h (sized-drop i ps z) v.rest in
    let b = whole-bound s e t (drop i ps) h in
    let l = length-drop i ps in
    let p = v.place in
    let q = v.bound in
    record { place = rw (take-add i e ps, bytes-append) (omega arith); bound = omega arith; rest = rw drop-drop at (unfinished-next s e t (drop i ps) h (sized-drop i ps z) v.rest) }

module _ (ps : List (List ℕ)) (z : Sized ps) where
  piece_of : (g i s j : ℕ) → Stands ps g i s → packet_at ps (g + j) - packet_at ps g ≡ packet_at (drop i ps) (s + j)
  piece_of g i s j v =
      let a : packet_at ps (g + j) ≡ i + packet_at (drop i ps) (s + j) = rw (v.place, add_assoc (bytes_in (take i ps)) s j) (packet-past ps i (s + j) v.bound) in
      let b : packet_at ps g ≡ i + packet_at (drop i ps) s = rw v.place (packet-past ps i s v.bound) in
      let c : packet_at (drop i ps) s ≡ 0 = packet-first (drop i ps) s v.rest in
      omega (arith, a, b, c)

  -- what came of the bytes from g on is what their marks say
  cover : (cs : List Plan) (g i s : ℕ) → Stands ps g i s → AllFit s (drop i ps) cs → (j : ℕ) → lies ps (spans_of g s (drop i ps) cs) (fates_of cs) (g + j) ≡ get_or (run_marks s (drop i ps) cs) j nowhere
  unfolding spans_of run_marks
  cover [] g i s v h j = refl
  cover (c ∷ cs) g i s v h j =
      let n : ℕ = bytes_in (cut s c.whole c.over (drop i ps)) in
      let ih : (k : ℕ) → lies ps (spans_of (g + n) (sent_after s c.whole c.over) (drop (i + c.whole) ps) cs) (fates_of cs) (g + n + k) ≡ get_or (run_marks (sent_after s c.whole c.over) (drop (i + c.whole) ps) cs) k nowhere =
      λ k. cover cs (g + n) (i + c.whole) (sent_after s c.whole c.over) (stands-next ps g i s c.whole c.over z v h.0) (rw (drop-drop c.whole i ps) at h.1) k in
      rw (drop-drop c.whole i ps)
      (go n (lies ps (spans_of (g + n) (sent_after s c.whole c.over) (drop (i + c.whole) ps) cs) (fates_of cs)) (marks (verdicts c.fate) (cut s c.whole c.over (drop i ps))) (run_marks (sent_after s c.whole c.over) (drop (i + c.whole) ps) cs)
      (λ l. marks-piece (verdicts c.fate) s c.whole c.over (drop i ps) h.0 (sized-drop i ps z) v.rest j l) (length-marks (verdicts c.fate) (cut s c.whole c.over (drop i ps))) ih (dec_lt j n))
    where
      go : (n : ℕ) (l : ℕ → Mark) (m m' : List Mark)
          → (j < n → get_or m j nowhere ≡ verdicts c.fate (packet_at (drop i ps) (s + j))) → length m ≡ n → ((k : ℕ) → l (g + n + k) ≡ get_or m' k nowhere) → Dec (j < n)
          → cond (covers (record { from = g; count = n }) (g + j)) (verdicts c.fate (packet_at ps (g + j) - packet_at ps g)) (l (g + j)) ≡ get_or (m ++ m') j nowhere
      go n l m m' f e ih (yes y) =
          rw (le-leb g (g + j) (omega arith), lt-ltb (g + j) (g + n) (omega arith), piece_of g i s j v)
          (sym (f y) ∙ sym (get_or-append m m' nowhere j (rw e y)))
      go n l m m' f e ih (no y) =
          let k : ℕ = j - n in
          let e1 : j ≡ length m + k = omega arith in
          let e2 : g + j ≡ g + n + k = omega arith in
          rw (le-leb g (g + j) (omega arith), le-ltb (g + j) (g + n) (omega arith))
          (ap l e2 ∙ ih k ∙ sym (get_or-append-add m m' k nowhere) ∙ ap (λ (x : ℕ). get_or (m ++ m') x nowhere) (sym e1))

  covered : (cs : List Plan) → AllFit 0 ps cs → (λ j. get_or (run_marks 0 ps cs) j nowhere) ≡ lies ps (spans_of 0 0 ps cs) (fates_of cs)
  covered cs h = fun_ext (λ j. sym (ap (lies ps (spans_of 0 0 ps cs) (fates_of cs)) (sym (zero-add j)) ∙ cover cs 0 0 0 (stands-first ps z) h j))

  -- what is due by marks is what is whole by bytes
  pub due-whole : (cs : List Plan) → AllFit 0 ps cs → wanted 0 ps (run_marks 0 ps cs) ≡ whole_packets (due_at (lies ps (spans_of 0 0 ps cs) (fates_of cs))) 0 0 ps
  due-whole cs h = marks-bytes (run_marks 0 ps cs) 0 0 ps z ∙ ap (λ (m : ℕ → Mark). whole_packets (due_at m) 0 0 ps) (covered cs h)

  pub due-indices : (cs : List Plan) → AllFit 0 ps cs → due_from 0 ps (run_marks 0 ps cs) ≡ whole_indices (due_at (lies ps (spans_of 0 0 ps cs) (fates_of cs))) 0 0 ps
  due-indices cs h = marks-indices (run_marks 0 ps cs) 0 0 ps z ∙ ap (λ (m : ℕ → Mark). whole_indices (due_at m) 0 0 ps) (covered cs h)

-- ---- the packets by their indices

at_drop : (i : ℕ) (l : List (List ℕ)) (p : List ℕ) (ps : List (List ℕ)) → drop i l ≡ p ∷ ps → (get_or l i [] ≡ p) × (drop (suc i) l ≡ ps)
at_drop zero [] p ps e = let z : ◌≡◌ {A = ℕ} 0 1 = cc in absurd (omega arith)
at_drop zero (q ∷ l) p ps e = (cc, cc)
at_drop (suc i) [] p ps e = let z : ◌≡◌ {A = ℕ} 0 1 = cc in absurd (omega arith)
at_drop (suc i) (q ∷ l) p ps e = at_drop i l p ps e

entry_first : (all : List (List ℕ)) (c : Bool) (i : ℕ) (l : List ℕ) → entries_at all (cond c (i ∷ []) [] ++ l) ≡ cond c (packet (i % 64) (get_or all i []) ∷ []) [] ++ entries_at all l
entry_first all true i l = refl
entry_first all false i l = refl

entries_from : (f : ℕ → ℕ → Bool) (all ps : List (List ℕ)) (o i : ℕ) → drop i all ≡ ps → entries_at all (whole_indices f o i ps) ≡ whole_packets f o i ps
unfolding whole_indices whole_packets
entries_from f all [] o i e = refl
entries_from f all (p ∷ ps) o i e =
    let d = at_drop i all p ps e in
    entry_first all (f o (length p)) i (whole_indices f (o + length p) (suc i) ps)
    ∙ ap₂ (λ (q : List ℕ) (l : List Entry). cond (f o (length p)) (packet (i % 64) q ∷ []) [] ++ l) d.0 (entries_from f all ps (o + length p) (suc i) d.1)

pub entries-are : (f : ℕ → ℕ → Bool) (packets : List (List ℕ)) → entries_at packets (whole_indices f 0 0 packets) ≡ whole_packets f 0 0 packets
entries-are f packets = entries_from f packets packets 0 0 refl
