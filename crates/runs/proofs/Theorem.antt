-- What a receiver logs of a run: the packets of its log are those whose bytes were all taken and that begin in a PDU not withheld.
use Prim.Native.Nat.{ℕ, zero, suc, ◌+◌, ◌%◌, ◌≤◌, ◌<◌}
use mathlib.Core.Path.{◌≡◌, refl, sym, ap, ◌∙◌}
use mathlib.Core.Bool.{Bool, true, false, cond}
use mathlib.Core.List.{List, [], ◌∷◌, ◌++◌, append_assoc, append-nil}
use mathlib.Core.Option.{Option, none, some}
use native.Mathlib.Omega.{arith}
use native.Mathlib.Nat.{zero-add, add-zero, suc-add, add-suc}
use borrow.Author.Tests.{eq-eqb}
use lib.Dec.{eqb, ltb}
use lib.ListN.{length, take, drop, replicate, length-append, length-replicate, length-take, length-drop, drop_of_length-le}
use Rattle.packet_log.specs.Log.{packets_of}
use Rattle.reassembly.specs.Reassembly.{Piece, Partial, nothing, beginning, Memory, Outcome, kept, following, sequence_step, beginning_step, psd_entries, piece_step, ends_here, pieces_step, contents_step, received, remembered, forgotten}
use Rattle.reassembly.proofs.Laws.{delivered}
use Rattle.reassembly.proofs.Runs.{and_then, ends-drops}
use Rattle.reassembly.proofs.Withheld.{packets-append, psd-quiet, hidden, Alike, uncovered, withheld-alike}
use Rattle.layout.specs.Control.{piece_number}
use Rattle.runs.proofs.Model.{entries_for, memory_for, logged, cut, Fits, sent_after, Plan, later, read_pieces, said_of, event_of, events, marks, run_marks, wanted, AllFit, Sized}
use Rattle.runs.specs.Spans.{Fate, lose, read, Mark, verdicts}
use Rattle.runs.proofs.Pieces.{intact, of-few, counts, intact-more, wanted-whole, wanted-none, positive, positive-is, held_of, held-some, held-broken, judged, onto-ends, onto-part, judged-packet, judged-quiet, judged-held}

-- ---- one PDU

-- the marks of the unfinished packet's sent bytes after a PDU
pending : (ℕ → Mark) → List Mark → ℕ → ℕ → List Mark
pending v m zero t = m ++ replicate t (v 0)
pending v m (suc e) t = pending (later v) [] e t

-- The causes f of pieces against their marks v: a piece is taken just where it counts. The first continues a packet or not, the others begin one.
abbrev Sees : Bool → (ℕ → ℕ) → (ℕ → Mark) → Type 0
Sees cont f v = (eqb (f 0) 0 ≡ counts cont (v 0)) × ((k : ℕ) → eqb (f (suc k)) 0 ≡ counts false (v (suc k)))

sees-later : (cont : Bool) (f : ℕ → ℕ) (v : ℕ → Mark) → Sees cont f v → Sees false (later f) (later v)
sees-later cont f v y = (y.1 0, λ k. y.1 (suc k))

-- the unfinished packet
abbrev first_of : List (List ℕ) → List ℕ
first_of [] = []
first_of (p ∷ ps) = p

-- piece k has number i, the one after it i + 1, and so on
abbrev Numbers : (ℕ → ℕ) → ℕ → ℕ → Type 0
Numbers num k i = (j : ℕ) → num (k + j) ≡ (i + j) % 64

number-here : (num : ℕ → ℕ) (k i : ℕ) → Numbers num k i → num k ≡ i % 64
number-here num k i h = rw (add-zero k, add-zero i) at (h 0)

number-next : (num : ℕ → ℕ) (k i : ℕ) → Numbers num k i → Numbers num (suc k) (suc i)
number-next num k i h j = rw (suc-add k j, suc-add i j, ← add-suc k j, ← add-suc i j) (h (suc j))

pub cut-none : (s : ℕ) (rest : List (List ℕ)) → cut s 0 0 rest ≡ []
unfolding cut
cut-none s [] = refl
cut-none s (p ∷ ps) = refl

-- a piece that ends a packet is not the last where Plast is set
ends-cut : (f : ℕ → ℕ) (e t : ℕ) (ps : List (List ℕ)) → Fits 0 e t ps → ends_here (positive t) (read_pieces f (cut 0 e t ps)) ≡ true
unfolding cut read_pieces
ends-cut f zero zero [] h = refl
ends-cut f zero zero (p ∷ ps) h = refl
ends-cut f zero (suc t) [] h = absurd h
ends-cut f zero (suc t) (p ∷ ps) h = refl
ends-cut f (suc e) t [] h = absurd h
ends-cut f (suc e) t (p ∷ ps) h = refl

-- the receiver's work on the pieces of a PDU
abbrev work : (ℕ → ℕ) → (ℕ → ℕ) → ℕ → ℕ → ℕ → ℕ → List Mark → List (List ℕ) → Outcome
work f num k i e t m rest =
    pieces_step num k (positive (length m)) (positive t) (held_of (i % 64) m (take (length m) (first_of rest))) (read_pieces f (cut (length m) e t rest))

work_none : (f num : ℕ → ℕ) (k i : ℕ) (m : List Mark) (rest : List (List ℕ)) → work f num k i 0 0 m rest ≡ kept (held_of (i % 64) m (take (length m) (first_of rest)))
unfolding pieces_step read_pieces
work_none f num k i m rest = rw (cut-none (length m) rest)

work-part : (f num : ℕ → ℕ) (k i t : ℕ) (m : List Mark) (p : List ℕ) (ps : List (List ℕ)) → num k ≡ i % 64 → length p ≤ 4096
    → work f num k i 0 (suc t) m (p ∷ ps) ≡ judged (eqb (f 0) 0) (intact m) (f 0) k (kept (beginning (i % 64) (take (length m + suc t) p)))
unfolding pieces_step read_pieces cut
work-part f num k i t m p ps e h = rw (e, append-nil) (onto-part (f 0) (i % 64) k (suc t) m p h)

work-whole : (f num : ℕ → ℕ) (k i e t : ℕ) (m : List Mark) (p : List ℕ) (ps : List (List ℕ)) → num k ≡ i % 64 → Fits 0 e t ps → length p ≤ 4096
    → work f num k i (suc e) t m (p ∷ ps) ≡ and_then (judged (eqb (f 0) 0) (intact m) (f 0) k (delivered (i % 64) p)) (work (later f) num (suc k) (suc i) e t [] ps)
unfolding pieces_step read_pieces cut held_of
work-whole f num k i e t m p ps n h l =
    rw (n, ends-cut (later f) e t ps h, ends-drops (i % 64) k (positive (length m)) (held_of (i % 64) m (take (length m) p)) (record { cause = f 0; bytes = drop (length m) p }), onto-ends (f 0) (i % 64) k m p l)

-- what is held after a PDU
pdu-held : (f num : ℕ → ℕ) (v : ℕ → Mark) (k i e t : ℕ) (m : List Mark) (rest : List (List ℕ)) → Fits (length m) e t rest → Sized rest → Numbers num k i → Sees (positive (length m)) f v
    → (work f num k i e t m rest).partial ≡ held_of ((i + e) % 64) (pending v m e t) (take (length (pending v m e t)) (first_of (drop e rest)))
unfolding pending
pdu-held f num v k i zero zero m rest h z n y = rw (work_none f num k i m rest, append-nil, add-zero)
pdu-held f num v k i zero (suc t) m [] h z n y = absurd h
pdu-held f num v k i zero (suc t) m (p ∷ ps) h z n y =
    rw (
      work-part f num k i t m p ps (number-here num k i n) z.1,
      judged-held,
      y.0,
      add-zero,
      held-some (i % 64) (m ++ replicate (suc t) (v 0)) (take (length (m ++ replicate (suc t) (v 0))) p) (simp (length-append, length-replicate) (omega arith)),
      intact-more m (suc t) (v 0) (omega arith),
      length-append,
      length-replicate,
    )
pdu-held f num v k i (suc e) t m [] h z n y = absurd h
pdu-held f num v k i (suc e) t m (p ∷ ps) h z n y =
    rw (
      work-whole f num k i e t m p ps (number-here num k i n) h z.1,
      pdu-held (later f) num (later v) (suc k) (suc i) e t [] ps h z.2 (number-next num k i n) (sees-later (positive (length m)) f v y),
      add-suc i e,
      suc-add i e,
    )

-- the packet that the next PDU goes on with is not ended
abbrev pub Unfinished : ℕ → List (List ℕ) → Type 0
Unfinished s [] = s ≡ 0
Unfinished s (p ∷ ps) = s < length p

pub unfinished-zero : (rest : List (List ℕ)) → Sized rest → Unfinished 0 rest
unfinished-zero [] z = refl
unfinished-zero (p ∷ ps) z = z.0

pub marks-part : (v : ℕ → Mark) (s t : ℕ) (p : List ℕ) (ps : List (List ℕ)) → s + suc t < length p → marks v (cut s 0 (suc t) (p ∷ ps)) ≡ replicate (suc t) (v 0)
unfolding marks cut
marks-part v s t p ps h = let e : length (take (suc t) (drop s p)) ≡ suc t = simp (length-take, length-drop) (omega arith) in rw (e, append-nil)

pub marks-whole : (v : ℕ → Mark) (s e t : ℕ) (p : List ℕ) (ps : List (List ℕ)) → marks v (cut s (suc e) t (p ∷ ps)) ≡ replicate (length (drop s p)) (v 0) ++ marks (later v) (cut 0 e t ps)
unfolding marks cut
marks-whole v s e t p ps = refl

regroup : (m r x l : List Mark) → m ++ (r ++ x ++ l) ≡ m ++ r ++ (x ++ l)
regroup m r x l = simp append_assoc

-- what is wanted of the bytes up to a PDU's end and of those after it: what the PDU's pieces deliver, then what is wanted of the rest
pdu-packets : (f num : ℕ → ℕ) (v : ℕ → Mark) (k i e t : ℕ) (m : List Mark) (rest : List (List ℕ)) (l : List Mark) → Fits (length m) e t rest → Sized rest → Unfinished (length m) rest → Numbers num k i → Sees (positive (length m)) f v
    → wanted i rest (m ++ (marks v (cut (length m) e t rest) ++ l)) ≡ packets_of (work f num k i e t m rest).entries ++ wanted (i + e) (drop e rest) (pending v m e t ++ l)
unfolding pending packets_of
pdu-packets f num v k i zero zero m rest l h z o n y = unfold marks in rw (work_none f num k i m rest, cut-none (length m) rest, append-nil, add-zero)
pdu-packets f num v k i zero (suc t) m [] l h z o n y = absurd h
pdu-packets f num v k i zero (suc t) m (p ∷ ps) l h z o n y =
    rw (work-part f num k i t m p ps (number-here num k i n) z.1, judged-quiet, marks-part v (length m) t p ps h, add-zero, append_assoc)
pdu-packets f num v k i (suc e) t m [] l h z o n y = absurd h
pdu-packets f num v k i (suc e) t m (p ∷ ps) l h z o n y =
    rw (
      work-whole f num k i e t m p ps (number-here num k i n) h z.1,
      marks-whole v (length m) e t p ps,
      regroup,
      wanted-whole i p ps (m ++ replicate (length (drop (length m) p)) (v 0)) (marks (later v) (cut 0 e t ps) ++ l) (simp (length-append, length-replicate, length-drop) (omega arith)),
      intact-more m (length (drop (length m) p)) (v 0) (simp length-drop (omega arith)),
      pdu-packets (later f) num (later v) (suc k) (suc i) e t [] ps l h z.2 (unfinished-zero ps z.2) (number-next num k i n) (sees-later (positive (length m)) f v y),
      packets-append,
      judged-packet,
      y.0,
      append_assoc,
      add-suc i e,
      suc-add i e,
    )

-- ---- a list of PDUs

length-pending : (v : ℕ → Mark) (m : List Mark) (e t : ℕ) → length (pending v m e t) ≡ sent_after (length m) e t
unfolding pending
length-pending v m zero t = simp (length-append, length-replicate)
length-pending v m (suc zero) t = simp length-replicate
length-pending v m (suc (suc e)) t = length-pending (later v) [] (suc e) t

pub sized-drop : (e : ℕ) (rest : List (List ℕ)) → Sized rest → Sized (drop e rest)
sized-drop zero rest z = z
sized-drop (suc e) [] z = tt
sized-drop (suc e) (p ∷ ps) z = sized-drop e ps z.2

pub unfinished-next : (s e t : ℕ) (rest : List (List ℕ)) → Fits s e t rest → Sized rest → Unfinished s rest → Unfinished (sent_after s e t) (drop e rest)
unfinished-next s zero zero rest h z o = rw add-zero o
unfinished-next s zero (suc t) [] h z o = absurd h
unfinished-next s zero (suc t) (p ∷ ps) h z o = h
unfinished-next s (suc e) t [] h z o = absurd h
unfinished-next s (suc zero) t (p ∷ ps) h z o = rw zero-add at (unfinished-next 0 zero t ps h z.2 (unfinished-zero ps z.2))
unfinished-next s (suc (suc e)) t (p ∷ ps) h z o = unfinished-next 0 (suc e) t ps h z.2 (unfinished-zero ps z.2)

-- what the receiver takes of the pieces: of a lost PDU none, of a withheld one a first piece that continues a packet
abbrev seen : Bool → Fate → ℕ → ℕ
seen cont lose k = 8
seen cont (read false f) k = f k
seen true (read true f) zero = f 0
seen true (read true f) (suc k) = 8
seen false (read true f) k = 8

sees : (cont : Bool) (w : Fate) → Sees cont (seen cont w) (verdicts w)
sees true lose = (refl, λ k. refl)
sees false lose = (refl, λ k. refl)
sees true (read true f) = (refl, λ k. refl)
sees false (read true f) = (refl, λ k. refl)
sees true (read false f) = (refl, λ k. refl)
sees false (read false f) = (refl, λ k. refl)

-- after a lost PDU nothing is held
lost-held : (n : ℕ) (m : List Mark) (e t : ℕ) (rest : List (List ℕ)) (a : List ℕ) → Fits (length m) e t rest → held_of n (pending (verdicts lose) m e t) a ≡ nothing
unfolding pending held_of
lost-held n [] zero zero rest a h = refl
lost-held n (x ∷ m) zero zero rest a h = absurd (omega arith)
lost-held n m zero (suc t) rest a h = held-broken n (m ++ replicate (suc t) (verdicts lose 0)) a (intact-more m (suc t) (verdicts lose 0) (omega arith) ∙ none-counts (positive (length m)) (intact m))
  where
    none-counts : (c d : Bool) → cond (counts c (verdicts lose 0)) d false ≡ false
    none-counts true d = refl
    none-counts false d = refl
lost-held n m (suc e) t [] a h = absurd h
lost-held n m (suc e) t (p ∷ ps) a h = lost-held n [] e t ps a h

-- pieces that are not taken deliver nothing
lost-quiet : (num : ℕ → ℕ) (k : ℕ) (c cont plast : Bool) (h : Partial) (bs : List (List ℕ)) → packets_of (pieces_step num k cont plast h (read_pieces (seen c lose) bs)).entries ≡ []
unfolding pieces_step read_pieces packets_of piece_step
lost-quiet num k c cont plast h [] = refl
lost-quiet num k c cont plast h (b ∷ bs) = lost-quiet num (suc k) c false plast nothing bs

-- the pieces of a withheld PDU
hidden-read : (cont : Bool) (f : ℕ → ℕ) (bs : List (List ℕ)) → hidden cont (read_pieces f bs) ≡ read_pieces (seen cont (read true f)) bs
unfolding hidden read_pieces
hidden-read true f [] = refl
hidden-read false f [] = refl
hidden-read true f (b ∷ bs) = ap (λ (l : List Piece). record { cause = f 0; bytes = b } ∷ l) (hidden-read false (later f) bs)
hidden-read false f (b ∷ bs) = ap (λ (l : List Piece). record { cause = 8; bytes = b } ∷ l) (hidden-read false (later f) bs)

-- with no more PDUs the unfinished packet and those after it are not wanted
nothing_left : (i : ℕ) (m : List Mark) (rest : List (List ℕ)) → Sized rest → Unfinished (length m) rest → wanted i rest m ≡ []
unfolding wanted
nothing_left i m [] z o = refl
nothing_left i m (p ∷ ps) z o = rw (of-few (length p) m o, drop_of_length-le m {i = length p} (omega arith)) (wanted-none (suc i) ps z.2)

-- q is what the receiver takes for the next sequence
abbrev Expects : ℕ → Option ℕ → ℕ → Type 0
Expects range none q = Unit {0}
Expects range (some l) q = following range l ≡ q

sequence-kept : (range : ℕ) (l : Option ℕ) (q : ℕ) (h : Partial) → Expects range l q → sequence_step range l q h ≡ kept h
unfolding sequence_step
sequence-kept range none q h e = refl
sequence-kept range (some l) q h e = rw (e, eq-eqb q q refl)

-- a PDU's starting number
abbrev start_of : List Mark → ℕ → ℕ
start_of m i = (i + cond (positive (length m)) 1 0) % 64

beginning-kept : (i : ℕ) (m : List Mark) (a : List ℕ) → beginning_step (positive (length m)) (start_of m i) (held_of (i % 64) m a) ≡ kept (held_of (i % 64) m a)
unfolding beginning_step held_of
beginning-kept i [] a = refl
beginning-kept i (x ∷ m) a = go (intact (x ∷ m))
  where
    same : (((i + 1) % 64) + 63) % 64 ≡ i % 64
    same = omega arith

    go : (c : Bool) → beginning_step true ((i + 1) % 64) (cond c (beginning (i % 64) a) nothing) ≡ kept (cond c (beginning (i % 64) a) nothing)
    go true = rw (same, eq-eqb (i % 64) (i % 64) refl)
    go false = refl

-- the numbers of a PDU's pieces
abbrev number_for : List Mark → ℕ → ℕ → ℕ
number_for m i = piece_number (positive (length m)) (start_of m i)

numbers : (i : ℕ) (m : List Mark) → Numbers (number_for m i) 0 i
numbers i [] j = omega arith
numbers i (x ∷ m) j = omega arith

-- ---- the receiver's memory against the writer's place

-- What the receiver remembers: q is the next PDU's sequence, i the unfinished packet, m the marks of its sent bytes.
record Keeps (range q i : ℕ) (m : List Mark) (rest : List (List ℕ)) (x : Memory) : Type 0 where
  expects : Expects range x.last q
  holds : x.partial ≡ held_of (i % 64) m (take (length m) (first_of rest))

-- a PDU that comes and is not withheld, in its sequence and on top of what is held
came-is : (range q i : ℕ) (m : List Mark) (rest : List (List ℕ)) (x : Memory) (c : Plan) (f : ℕ → ℕ) → Keeps range q i m rest x
    → received range x (said_of q i (length m) c false f rest)
    ≡ (let w = work f (number_for m i) 0 i c.whole c.over m rest in record { entries = psd_entries c.psd_bytes ++ w.entries; partial = w.partial })
unfolding received contents_step
came-is range q i m rest x c f v =
    rw (positive-is (length m), positive-is c.over, sequence-kept range x.last q x.partial v.expects, v.holds, beginning-kept i m (take (length m) (first_of rest)))

-- one that comes, withheld or not: as its pieces that are looked at
abbrev worked : Fate → ℕ → List Mark → List (List ℕ) → Plan → Outcome
worked w i m rest c = work (seen (positive (length m)) w) (number_for m i) 0 i c.whole c.over m rest

open-alike : (range q i : ℕ) (m : List Mark) (rest : List (List ℕ)) (x : Memory) (c : Plan) (f : ℕ → ℕ) → Keeps range q i m rest x
    → Alike (received range x (said_of q i (length m) c false f rest)) (work f (number_for m i) 0 i c.whole c.over m rest)
open-alike range q i m rest x c f v = rw (came-is range q i m rest x c f v) (record { packets = psd-quiet c.psd_bytes _; partial = refl })

came-alike : (range q i : ℕ) (m : List Mark) (rest : List (List ℕ)) (x : Memory) (c : Plan) (w : Bool) (f : ℕ → ℕ) → Keeps range q i m rest x
    → Alike (received range x (said_of q i (length m) c w f rest)) (worked (read w f) i m rest c)
came-alike range q i m rest x c false f v = open-alike range q i m rest x c f v
came-alike range q i m rest x c true f v =
    let a = withheld-alike range x (said_of q i (length m) c true f rest) refl in
    let e : hidden (ltb 0 (length m)) (read_pieces f (cut (length m) c.whole c.over rest)) ≡ read_pieces (seen (positive (length m)) (read true f)) (cut (length m) c.whole c.over rest)
    = rw (positive-is (length m)) (hidden-read (positive (length m)) f (cut (length m) c.whole c.over rest)) in
    let b : Alike (received range x (uncovered (said_of q i (length m) c true f rest))) (worked (read true f) i m rest c)
    = rw e (open-alike range q i m rest x c (seen (positive (length m)) (read true f)) v) in
    record { packets = a.packets ∙ b.packets; partial = a.partial ∙ b.partial }

abbrev marks_of : Plan → List Mark → List Mark
marks_of c m = pending (verdicts c.fate) m c.whole c.over

step_keeps : (range q i : ℕ) (m : List Mark) (rest : List (List ℕ)) (x : Memory) (c : Plan) (w : Fate) → Fits (length m) c.whole c.over rest → Sized rest → Keeps range q i m rest x
    → Keeps range (following range q) (i + c.whole) (pending (verdicts w) m c.whole c.over) (drop c.whole rest) (memory_for range x (event_of q i (length m) c w rest))
unfolding remembered
step_keeps range q i m rest x c lose h z v = record { expects = tt; holds = sym (lost-held _ m c.whole c.over rest _ h) }
step_keeps range q i m rest x c (read w f) h z v = record {
  expects = refl;
  holds = (came-alike range q i m rest x c w f v).partial
      ∙ pdu-held (seen (positive (length m)) (read w f)) (number_for m i) (verdicts (read w f)) 0 i c.whole c.over m rest h z (numbers i m) (sees (positive (length m)) (read w f));
}

-- what an event delivers is what its pieces do; a lost PDU's pieces are not taken
event-packets : (range q i : ℕ) (m : List Mark) (rest : List (List ℕ)) (x : Memory) (c : Plan) (w : Fate) → Keeps range q i m rest x
    → packets_of (worked w i m rest c).entries ≡ packets_of (entries_for range x (event_of q i (length m) c w rest))
event-packets range q i m rest x c lose v = lost-quiet _ 0 (positive (length m)) (positive (length m)) (positive c.over) _ (cut (length m) c.whole c.over rest) ∙ unfold packets_of in refl
event-packets range q i m rest x c (read w f) v = sym (came-alike range q i m rest x c w f v).packets

step-packets : (range q i : ℕ) (m : List Mark) (rest : List (List ℕ)) (x : Memory) (c : Plan) (w : Fate) (l : List Mark) → Fits (length m) c.whole c.over rest → Sized rest → Unfinished (length m) rest → Keeps range q i m rest x
    → wanted i rest (m ++ (marks (verdicts w) (cut (length m) c.whole c.over rest) ++ l)) ≡ packets_of (entries_for range x (event_of q i (length m) c w rest)) ++ wanted (i + c.whole) (drop c.whole rest) (pending (verdicts w) m c.whole c.over ++ l)
step-packets range q i m rest x c w l h z o v =
    rw (← event-packets range q i m rest x c w v) (pdu-packets (seen (positive (length m)) w) (number_for m i) (verdicts w) 0 i c.whole c.over m rest l h z o (numbers i m) (sees (positive (length m)) w))

-- from any memory that keeps to the writer's place
run-from : (range q i : ℕ) (m : List Mark) (rest : List (List ℕ)) (x : Memory) (cs : List Plan) → AllFit (length m) rest cs → Sized rest → Unfinished (length m) rest → Keeps range q i m rest x
    → packets_of (logged range x (events range q i (length m) rest cs)) ≡ wanted i rest (m ++ run_marks (length m) rest cs)
unfolding logged events run_marks packets_of
run-from range q i m rest x [] h z o v = rw append-nil (sym (nothing_left i m rest z o))
run-from range q i m rest x (c ∷ cs) h z o v =
    let e = length-pending (verdicts c.fate) m c.whole c.over in
    rw (
      packets-append (entries_for range x (event_of q i (length m) c c.fate rest)),
      ← e,
      step-packets range q i m rest x c c.fate (run_marks (length (marks_of c m)) (drop c.whole rest) cs) h.0 z o v,
      run-from range (following range q) (i + c.whole) (marks_of c m) (drop c.whole rest) (memory_for range x (event_of q i (length m) c c.fate rest)) cs
          (rw (← e) at h.1) (sized-drop c.whole rest z) (rw e (unfinished-next (length m) c.whole c.over rest h.0 z o))
          (step_keeps range q i m rest x c c.fate h.0 z v),
    )

-- A fresh receiver, and a fresh writer's PDUs from the first on: the packets logged are those whose bytes were all taken and that begin in a PDU
-- not withheld, in order. PDUs that the receiver missed before it began count as lost.
pub run-delivers : (range : ℕ) (ps : List (List ℕ)) (cs : List Plan) → AllFit 0 ps cs → Sized ps
    → packets_of (logged range forgotten (events range 0 0 0 ps cs)) ≡ wanted 0 ps (run_marks 0 ps cs)
unfolding held_of
run-delivers range ps cs h z = run-from range 0 0 [] ps forgotten cs h z (unfinished-zero ps z) (record { expects = tt; holds = refl })
