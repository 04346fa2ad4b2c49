-- The words and the tally counted before anything is written are those of the same step's entries.
use Prim.Native.Nat.{ℕ, zero, suc, ◌+◌, ◌-◌, ◌*◌, ◌/◌, ◌≤◌, ◌<◌}
use mathlib.Core.Path.{◌≡◌, refl, ap, sym, ◌∙◌}
use mathlib.Core.Bool.{Bool, true, false, cond}
use mathlib.Core.List.{List, [], ◌∷◌, ◌++◌}
use native.Mathlib.Omega.{arith}
use native.Mathlib.Nat.{add-zero}
use borrow.Author.Tests.{ltb-false, ne_eqb}
use lib.Dec.{ltb, eqb, eqb-suc-zero}
use lib.ListN.{length, get_or, length-append}
use lib.Seq.{length-take-le}
use Rattle.packet_log.specs.Log.{Entry, packet, psd, note, log_words}
use Rattle.packet_log.proofs.Words.{entry_length, log-append}
use Rattle.layout.specs.Control.{piece_number}
use Rattle.reassembly.specs.Reassembly.{Piece, Partial, nothing, beginning, Outcome, dropped, kept, psd_entries, finished, joined, piece_step, pieces_step, continuing_step, contents_step, received}
use Rattle.reassembly.specs.Rights.{under}
use Rattle.reassembly.specs.Run.{partial_bytes, partial_of, place_at, length_by, piece_at, piece_of, pieces_from, ends_at, Marked, psd_by, Parsed, said_of, memory_by, first_cause, begun}
use Rattle.reassembly.specs.Tally.{Tally, counted, tallied}
use Rattle.reassembly.specs.Count.{noted, count_finish, count_piece, with_piece, with_words, count_from, count_psd, count_continuing, count_contents, count_all, Bounded}
use Rattle.reassembly.specs.declared.Forecast.{Forecast}
use Rattle.reassembly.specs.declared.Head.{Head}
use Rattle.reassembly.specs.declared.PieceCount.{PieceCount}
use Rattle.reassembly.specs.declared.State.{State}
use Rattle.reassembly.proofs.Laws.{delivered, one_entry}
use Rattle.reassembly.proofs.Runs.{Fine, fine-partial, this, rest, rest-is, all_cons, all_none, fine-this, ends_same, piece-length, piece-some}
use Rattle.reassembly.proofs.Tallies.{tally-append}
use Rattle.reassembly.proofs.Whole.{contents-is, withheld-is, begins, total-is, fine-begun, psd-length}

-- ---- what entries add

unfoldable pub after_entries : Forecast → List Entry → Forecast
after_entries x es = record { words = x.words + length (log_words es); tally = tallied x.tally es }

pub after_none : (x : Forecast) → after_entries x [] ≡ x
unfolding after_entries log_words tallied
after_none x = rw (add-zero x.words) refl

pub after-append : (x : Forecast) (a b : List Entry) → after_entries (after_entries x a) b ≡ after_entries x (a ++ b)
unfolding after_entries
after-append x a b =
    let w : x.words + length (log_words a) + length (log_words b) ≡ x.words + length (log_words (a ++ b)) = rw (log-append a b, length-append (log_words a) (log_words b)) (omega arith) in
    let t : tallied (tallied x.tally a) b ≡ tallied x.tally (a ++ b) = sym (tally-append a b x.tally) in
    λ i. record { words = w i; tally = t i }

-- one note
after-note : (x : Forecast) (cause k : ℕ) → with_words x 1 ≡ after_entries x (note cause k ∷ [])
unfolding after_entries tallied
after-note x cause k = rw (one_entry (note cause k), entry_length (note cause k)) refl

-- ---- a piece of packet number n

-- its count is that of an outcome
record Comes (n : ℕ) (p : PieceCount) (o : Outcome) : Type 0 where
  held : p.held ≡ length (partial_bytes o.partial)
  adds : (x : Forecast) → with_piece x p n ≡ after_entries x o.entries

comes-dropped : (n cause k : ℕ) → Comes n noted (dropped cause k)
unfolding with_piece
comes-dropped n cause k = record { held = refl; adds = λ x. after-note x cause k }

comes-cond : (n : ℕ) (t : Bool) (p q : PieceCount) (o u : Outcome) → Comes n p o → Comes n q u → Comes n (cond t p q) (cond t o u)
comes-cond n true p q o u a b = a
comes-cond n false p q o u a b = b

count-finished : (n k : ℕ) (ends : Bool) (b : List ℕ) → Comes n (count_finish ends (length b)) (finished n k ends b)
unfolding count_finish finished
count-finished n k ends b =
    comes-cond n (ltb 4096 (length b)) noted _ (dropped 5 k) _ (comes-dropped n 5 k) (comes-cond n ends _ _ (delivered n b) (kept (beginning n b)) (record { held = refl; adds = ended }) (record { held = refl; adds = carried }))
  where
    ended : (x : Forecast) → with_piece x (record { words = 1 + (length b + 2) / 3; held = 0; delivers = true }) n ≡ after_entries x (packet n b ∷ [])
    ended x = unfold with_piece after_entries tallied in rw (one_entry (packet n b), entry_length (packet n b)) refl

    carried : (x : Forecast) → with_piece x (record { words = 0; held = length b; delivers = false }) n ≡ after_entries x []
    carried x = unfold with_piece after_entries log_words tallied in refl

count-joined : (n k : ℕ) (cont ends : Bool) (h : Partial) (b : List ℕ) → (length (partial_bytes h) ≡ 0 → h ≡ nothing)
    → Comes n (cond cont (cond (eqb (length (partial_bytes h)) 0) noted (count_finish ends (length (partial_bytes h) + length b))) (count_finish ends (length b))) (joined n k cont ends h b)
unfolding joined
count-joined n k false ends h b z = count-finished n k ends b
count-joined n k true ends nothing b z = comes-dropped n 3 k
count-joined n k true ends (beginning m []) b z = absurd (never (z refl))
  where
    never : beginning m [] ≡ nothing → ⊥
    never e = let q : ◌≡◌ {A = ℕ} 0 1 = cc in omega arith
count-joined n k true ends (beginning m (x ∷ a)) b z = rw (eqb-suc-zero (length a), ← length-append (x ∷ a) b) (count-finished n k ends ((x ∷ a) ++ b))

count-piece-is : (n k : ℕ) (cont ends : Bool) (h : Partial) (p : Piece) → (length (partial_bytes h) ≡ 0 → h ≡ nothing)
    → Comes n (count_piece (length (partial_bytes h)) cont ends p.cause (length p.bytes)) (piece_step n k cont ends h p)
unfolding count_piece piece_step
count-piece-is n k cont ends h p z =
    comes-cond n (eqb p.cause 0) _ noted (joined n k cont ends h p.bytes) (dropped p.cause k) (count-joined n k cont ends h p.bytes z) (comes-dropped n p.cause k)

-- ---- bounds and turns of the count

abbrev pub Small : PieceCount → Type 0
Small p = (p.words ≤ 1400) × (p.held ≤ 4096)

small-cond : (b : Bool) (p q : PieceCount) → Small p → Small q → Small (cond b p q)
small-cond true p q a b = a
small-cond false p q a b = b

finish-small : (ends : Bool) (n : ℕ) → Small (count_finish ends n)
unfolding count_finish
finish-small ends n = go (ltb 4096 n) ends (λ e. ltb-false 4096 n e)
  where
    pick : Bool → Bool → PieceCount
    pick b ends = cond b noted (cond ends (record { words = 1 + (n + 2) / 3; held = 0; delivers = true }) (record { words = 0; held = n; delivers = false }))

    go : (b ends : Bool) → (b ≡ false → n ≤ 4096) → Small (pick b ends)
    go true ends f = (omega arith, omega arith)
    go false true f = (omega (arith, f refl), omega arith)
    go false false f = (omega arith, f refl)

pub count_small : (held : ℕ) (cont ends : Bool) (cause n : ℕ) → Small (count_piece held cont ends cause n)
unfolding count_piece
count_small held cont ends cause n =
    small-cond (eqb cause 0) _ noted (small-cond cont _ (count_finish ends n) (small-cond (eqb held 0) noted (count_finish ends (held + n)) (omega arith, omega arith) (finish-small ends (held + n))) (finish-small ends n)) (omega arith, omega arith)

-- nothing counted but a note; words more, and a piece more
pub start-bounded : (n : ℕ) (t : Tally) → n ≤ 1 → (t.delivered ≤ 4294967295) × (t.missing ≤ 4294967295) × (t.last ≤ 63) → Bounded 0 (record { words = n; tally = t })
start-bounded n t h b = record { words = omega (arith, h); delivered = omega (arith, b.0); missing = omega (arith, b.1); last = b.2 }

pub words-bounded : (x : Forecast) (n : ℕ) → x.words ≤ 1 → n ≤ 22000 → Bounded 0 x → Bounded 0 (with_words x n)
words-bounded x n h l b = record { words = omega (arith, h, l); delivered = b.delivered; missing = b.missing; last = b.last }

pub piece-bounded : (j n : ℕ) (x : Forecast) (p : PieceCount) → Bounded j x → p.words ≤ 1400 → n ≤ 63 → Bounded (j + 1) (with_piece x p n)
unfolding with_piece counted
piece-bounded j n x p b h l = go p.delivers
  where
    go : (d : Bool) → Bounded (j + 1) (record { words = x.words + p.words; tally = cond d (counted x.tally n) x.tally })
    go true = record { words = omega (arith, b.words, h); delivered = omega (arith, b.delivered); missing = gapped (eqb x.tally.delivered 0) _ (omega arith) b.missing; last = l }
      where
        gapped : (t : Bool) (g : ℕ) → g ≤ 63 → x.tally.missing ≤ 4294967295 + 63 * j → x.tally.missing + cond t 0 g ≤ 4294967295 + 63 * (j + 1)
        gapped true g s m = omega (arith, m)
        gapped false g s m = omega (arith, m, s)
    go false = record { words = omega (arith, b.words, h); delivered = omega (arith, b.delivered); missing = omega (arith, b.missing); last = b.last }

pub bounded-more : (j k : ℕ) (x : Forecast) → j ≤ k → Bounded j x → Bounded k x
bounded-more j k x h b = record { words = omega (arith, b.words, h); delivered = omega (arith, b.delivered, h); missing = omega (arith, b.missing, h); last = b.last }

-- piece k of those of a header, in a turn of the count
module _ (head : Head) (m g : List ℕ) (k : ℕ) (cont : Bool) (held : ℕ) (x : Forecast) where
  abbrev num : ℕ → ℕ
  num = piece_number head.pfirst head.start

  -- what is left to count
  abbrev pub left : Forecast
  left = count_from num m g head.plast k (head.nop - k) cont held x

  pub count_none : head.nop ≤ k → left ≡ x
  unfolding count_from
  count_none h = let e : head.nop - k ≡ 0 = omega arith in rw e refl

  module _ (more : k < head.nop) (a e : ℕ) (ends : Bool) (p : PieceCount) (la : a ≡ get_or m k 0) (le : e ≡ get_or m (k + 1) 0) (es : ends ≡ ends_at head.plast (head.nop - (k + 1)))
      (ep : p ≡ count_piece held cont ends (get_or g k 0) (e - (a + 1))) where
    here : PieceCount
    here = count_piece held cont (ends_at head.plast (head.nop - (k + 1))) (get_or g k 0) (length_by m k)

    is-here : p ≡ here
    unfolding here
    is-here = ep ∙ rw (la, le, es) refl

    pub piece-small : Small p
    piece-small = rw ep (count_small held cont ends (get_or g k 0) (e - (a + 1)))

    pub count_next : (n : ℕ) (y : Forecast) → n ≡ num k → y ≡ with_piece x p n → count_from num m g head.plast (k + 1) (head.nop - (k + 1)) false p.held y ≡ left
    unfolding count_from here
    count_next n y en ey =
        let s : head.nop - k ≡ suc (head.nop - (k + 1)) = omega arith in
        let z : y ≡ with_piece x here (num k) = ey ∙ (λ i. with_piece x (is-here i) (en i)) in
        rw s (λ i. count_from num m g head.plast (k + 1) (head.nop - (k + 1)) false (is-here i).held (z i))

    pub next-bounded : (n : ℕ) (y : Forecast) → n ≡ num k → y ≡ with_piece x p n → Bounded k x → Bounded (k + 1) y
    next-bounded n y en ey b = rw ey (piece-bounded k n x p b piece-small.0 (rw en (omega arith)))

-- the piece that continues, if there is one
module _ (head : Head) (m g : List ℕ) (held : ℕ) (x : Forecast) where
  pub none-counted : held ≡ 0 → x ≡ count_continuing head m g held x
  unfolding count_continuing
  none-counted e = rw e refl

  module _ (h : held ≡ 0 → ⊥) where
    pub no-piece-counted : head.nop ≡ 0 → x ≡ count_continuing head m g held x
    unfolding count_continuing
    no-piece-counted e = rw (ne_eqb held 0 h, e) refl

    -- from its marks a and e, and its number
    pub piece-counted : (head.nop ≡ 0 → ⊥) → (a e n : ℕ) (ends : Bool) → a ≡ get_or m 0 0 → e ≡ get_or m 1 0 → ends ≡ ends_at head.plast (head.nop - 1) → (p : PieceCount)
        → p ≡ count_piece held true ends (get_or g 0 0) (e - (a + 1)) → n ≡ piece_number head.pfirst head.start 0 → with_piece x p n ≡ count_continuing head m g held x
    unfolding count_continuing
    piece-counted z a e n ends la le es p f en =
        let y : p ≡ count_piece held true (ends_at head.plast (head.nop - 1)) (get_or g 0 0) (length_by m 0) = f ∙ rw (la, le, es) refl in
        rw (ne_eqb held 0 h, ne_eqb head.nop 0 z) (λ i. with_piece x (y i) (en i))

-- steps 3 and 4, withheld or not, after what is counted so far
module _ (w : Bool) (head : Head) (m g : List ℕ) (held : ℕ) (x y all : Forecast) where
  pub all-withheld : w ≡ true → y ≡ with_words x 1 → all ≡ count_continuing head m g held y → all ≡ count_contents w head m g held x
  unfolding count_contents
  all-withheld e f r = rw e (r ∙ ap (count_continuing head m g held) f)

  -- from the first mark la
  pub all_shown : (la extra : ℕ) → w ≡ false → la ≡ get_or m 0 0 → extra ≡ count_psd (la + 1 - head.psd) → y ≡ with_words x extra
      → all ≡ count_from (piece_number head.pfirst head.start) m g head.plast 0 head.nop head.pfirst held y → all ≡ count_contents w head m g held x
  unfolding count_contents
  all_shown la extra e l f q r =
      let s : y ≡ with_words x (count_psd (place_at m 0 - head.psd)) = q ∙ ap (with_words x) (f ∙ ap (λ (k : ℕ). count_psd (k + 1 - head.psd)) l) in
      rw e (r ∙ ap (count_from (piece_number head.pfirst head.start) m g head.plast 0 head.nop head.pfirst held) s)

-- a whole PDU: no note at its beginning, or one
module _ (w : Bool) (s : State) (range : ℕ) (head : Head) (m g : List ℕ) (t : Tally) (cause : ℕ) (all : Forecast) (c : cause ≡ first_cause s range head) where
  pub all-kept : cause ≡ 0 → all ≡ count_contents w head m g s.held (record { words = 0; tally = t }) → all ≡ count_all w s range head m g t
  unfolding count_all
  all-kept z r = let e : first_cause s range head ≡ 0 = sym c ∙ z in rw e r

  pub all_noted : (cause ≡ 0 → ⊥) → all ≡ count_contents w head m g 0 (record { words = 1; tally = t }) → all ≡ count_all w s range head m g t
  unfolding count_all
  all_noted z r =
      let e : eqb (first_cause s range head) 0 ≡ false = ne_eqb (first_cause s range head) 0 (λ q. z (c ∙ q)) in
      rw e r

-- ---- all pieces, and a whole PDU

module _ (num : ℕ → ℕ) (plast : Bool) (d m g : List ℕ) (nop : ℕ) (w : Marked d m nop) where
  count-this : (k left : ℕ) (cont : Bool) (h : Partial) → (length (partial_bytes h) ≡ 0 → h ≡ nothing) → k < nop
      → Comes (num k) (count_piece (length (partial_bytes h)) cont (ends_at plast left) (get_or g k 0) (length_by m k)) (this num plast d m g k left cont h)
  unfolding this
  count-this k left cont h z l = rw (← piece-length d m nop k w l) (count-piece-is (num k) k cont (ends_at plast left) h (piece_of (get_or g k 0) (piece_at d m k)) z)

  pub count-pieces-are : (k n : ℕ) (cont : Bool) (h : Partial) (x : Forecast) → (length (partial_bytes h) ≡ 0 → h ≡ nothing) → k + n ≤ nop
      → count_from num m g plast k n cont (length (partial_bytes h)) x ≡ after_entries x (pieces_step num k cont plast h (pieces_from d m g k n)).entries
  unfolding count_from
  count-pieces-are k zero cont h x z l = rw (all_none num plast d m g k cont h) (sym (after_none x))
  count-pieces-are k (suc n) cont h x z l =
      let o : Outcome = this num plast d m g k n cont h in
      let p : PieceCount = count_piece (length (partial_bytes h)) cont (ends_at plast n) (get_or g k 0) (length_by m k) in
      let e : Comes (num k) p o = count-this k n cont h z (omega arith) in
      let f = fine-this num plast d m g k n cont h (piece-some d m nop k w (omega arith)) in
      let i : count_from num m g plast (k + 1) n false (length (partial_bytes o.partial)) (with_piece x p (num k)) ≡ after_entries (with_piece x p (num k)) (rest num plast d m g k n o.partial).entries =
      count-pieces-are (k + 1) n false o.partial (with_piece x p (num k)) f.1 (omega arith) ∙ ap (λ (u : Outcome). after_entries (with_piece x p (num k)) u.entries) (rest-is num plast d m g k n o.partial) in
      ap (λ (b : ℕ). count_from num m g plast (k + 1) n false b (with_piece x p (num k))) e.held
      ∙ i
      ∙ ap (λ (y : Forecast). after_entries y (rest num plast d m g k n o.partial).entries) (e.adds x)
      ∙ after-append x o.entries (rest num plast d m g k n o.partial).entries
      ∙ ap (λ (u : Outcome). after_entries x u.entries) (sym (all_cons num plast d m g k n cont h))

-- the note at a PDU's beginning, if any
begun-adds : (n : ℕ) (h : Partial) (t : Tally) → record { words = cond (eqb n 0) 0 1; tally = t } ≡ after_entries (record { words = 0; tally = t }) (begun n h).entries
unfolding begun
begun-adds zero h t = sym (after_none (record { words = 0; tally = t }))
begun-adds (suc n) h t = rw (eqb-suc-zero n) (after-note (record { words = 0; tally = t }) (suc n) 0)

begun-held : (n : ℕ) (h : Partial) → length (partial_bytes (begun n h).partial) ≡ cond (eqb n 0) (length (partial_bytes h)) 0
unfolding begun
begun-held zero h = refl
begun-held (suc n) h = rw (eqb-suc-zero n) refl

psd-adds : (b : List ℕ) (x : Forecast) → with_words x (count_psd (length b)) ≡ after_entries x (psd_entries b)
unfolding psd_entries
psd-adds [] x = unfold after_entries log_words tallied in refl
psd-adds (a ∷ b) x = unfold after_entries tallied in rw (one_entry (psd (a ∷ b)), entry_length (psd (a ∷ b)), eqb-suc-zero (length b)) refl

partial-length : (held number : ℕ) (c : List ℕ) → held ≤ length c → length (partial_bytes (partial_of held number c)) ≡ held
partial-length zero number c h = refl
partial-length (suc x) number c h = length-take-le (suc x) c h

module _ (head : Head) (m g d : List ℕ) (w : Parsed head d m) where
  abbrev number : ℕ → ℕ
  number = piece_number head.pfirst head.start

  continuing-adds : (h : Partial) (y : Forecast) → (length (partial_bytes h) ≡ 0 → h ≡ nothing)
      → count_continuing head m g (length (partial_bytes h)) y ≡ after_entries y (continuing_step (number 0) head.plast h (pieces_from d m g 0 head.nop)).entries
  unfolding count_continuing continuing_step pieces_from
  continuing-adds nothing y z = sym (after_none y)
  continuing-adds (beginning k []) y z = absurd (never (z refl))
    where
      never : beginning k [] ≡ nothing → ⊥
      never q = let t : ◌≡◌ {A = ℕ} 0 1 = cc in omega arith
  continuing-adds (beginning k (x ∷ b)) y z = rw (eqb-suc-zero (length b)) (go head.nop refl)
    where
      go : (n : ℕ) → n ≡ head.nop
          → cond (eqb n 0) y (with_piece y (count_piece (suc (length b)) true (ends_at head.plast (n - 1)) (get_or g 0 0) (length_by m 0)) (number 0)) ≡ after_entries y (continuing_step (number 0) head.plast (beginning k (x ∷ b)) (pieces_from d m g 0 n)).entries
      go zero e = sym (after_none y)
      go (suc n) e =
          let left : suc n - 1 ≡ n = omega arith in
          let long : length (piece_at d m 0) ≡ length_by m 0 = piece-length d m head.nop 0 w.marked (omega (arith, e)) in
          let one = (count-piece-is (number 0) 0 true (ends_at head.plast n) (beginning k (x ∷ b)) (piece_of (get_or g 0 0) (piece_at d m 0)) z).adds y in
          rw (eqb-suc-zero n, left, ← long, ends_same head.plast d m g (0 + 1) n) one

  -- what steps 3 and 4 log, with something or nothing held
  contents-adds : (v : Bool) (h : Partial) (x : Forecast) → (length (partial_bytes h) ≡ 0 → h ≡ nothing) → count_contents v head m g (length (partial_bytes h)) x ≡ after_entries x (contents_step v (said_of head m g d) h).entries
  unfolding count_contents
  contents-adds false h x z =
      let es : List Entry = psd_entries (psd_by head m d) in
      let t : Outcome = pieces_step number 0 head.pfirst head.plast h (pieces_from d m g 0 head.nop) in
      let e₁ : with_words x (count_psd (place_at m 0 - head.psd)) ≡ after_entries x es = ap (λ (n : ℕ). with_words x (count_psd n)) (sym (psd-length head m d w)) ∙ psd-adds (psd_by head m d) x in
      ap (count_from number m g head.plast 0 head.nop head.pfirst (length (partial_bytes h))) e₁
      ∙ count-pieces-are number head.plast d m g head.nop w.marked 0 head.nop head.pfirst h (after_entries x es) z (omega arith)
      ∙ after-append x es t.entries
      ∙ ap (λ (o : Outcome). after_entries x o.entries) (sym (contents-is head m g d h))
  contents-adds true h x z =
      let es : List Entry = note 8 0 ∷ [] in
      let t : Outcome = continuing_step (number 0) head.plast h (pieces_from d m g 0 head.nop) in
      continuing-adds h (with_words x 1) z
      ∙ ap (λ (y : Forecast). after_entries y t.entries) (after-note x 8 0)
      ∙ after-append x es t.entries
      ∙ ap (λ (o : Outcome). after_entries x o.entries) (sym (withheld-is head m g d h))

-- with nothing held after a note
noted-or-not : (b : Bool) (f : ℕ → Forecast → Forecast) (h : ℕ) (t : Tally) → cond b (f h (record { words = 0; tally = t })) (f 0 (record { words = 1; tally = t })) ≡ f (cond b h 0) (record { words = cond b 0 1; tally = t })
noted-or-not true f h t = refl
noted-or-not false f h t = refl

-- the words and the tally counted for a PDU are those that receiving it logs
pub count-received : (v : Bool) (s : State) (range : ℕ) (head : Head) (m g d c : List ℕ) (t : Tally) → s.held ≤ 4096 → 4096 ≤ length c → Parsed head d m
    → count_all v s range head m g t ≡ after_entries (record { words = 0; tally = t }) (received range (memory_by s c) (under v (said_of head m g d))).entries
unfolding count_all begins
count-received v s range head m g d c t small big w =
    let n : ℕ = first_cause s range head in
    let h : Partial = partial_of s.held s.number c in
    let b : Outcome = begins s range head c in
    let u : Outcome = contents_step v (said_of head m g d) b.partial in
    let x : Forecast = record { words = 0; tally = t } in
    let fine : Fine b.partial = fine-begun n h (fine-partial s.held s.number c small (omega arith)) in
    let held : length (partial_bytes b.partial) ≡ cond (eqb n 0) s.held 0 = begun-held n h ∙ ap (λ (z : ℕ). cond (eqb n 0) z 0) (partial-length s.held s.number c (omega arith)) in
    let first : record { words = cond (eqb n 0) 0 1; tally = t } ≡ after_entries x b.entries = begun-adds n h t in
    noted-or-not (eqb n 0) (count_contents v head m g) s.held t
    ∙ (λ i. count_contents v head m g (sym held i) (first i))
    ∙ contents-adds head m g d w v b.partial (after_entries x b.entries) fine.1
    ∙ after-append x b.entries u.entries
    ∙ ap (λ (o : Outcome). after_entries x o.entries) (sym (total-is s range head c v m g d))
