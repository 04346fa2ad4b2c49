-- A whole PDU: the note with which it begins, the PSD or note 8, and the pieces.
use Prim.Native.Nat.{ℕ, zero, suc, ◌+◌, ◌-◌, ◌%◌, ◌≤◌}
use mathlib.Core.Path.{◌≡◌, refl, ap, sym, ◌∙◌}
use mathlib.Core.Bool.{Bool, true, false, ◌&&◌, cond}
use mathlib.Core.List.{List, [], ◌∷◌, append_assoc}
use native.Mathlib.Omega.{arith}
use lib.Dec.{eqb, eqb-suc-zero}
use lib.ListN.{length, take, drop, get_or, length-drop, length-take}
use Rattle.buffer.specs.Buffer.{put_at}
use Rattle.packet_log.specs.Log.{Entry, psd, note, entry_words, log_words}
use Rattle.layout.specs.Control.{piece_number}
use Rattle.reassembly.specs.Reassembly.{Said, Partial, nothing, beginning, Outcome, dropped, kept, in_sequence, sequence_step, beginning_step, psd_entries, piece_step, pieces_step, continuing_step, contents_step, received}
use Rattle.reassembly.specs.Rights.{under}
use Rattle.reassembly.specs.Run.{partial_bytes, partial_number, partial_of, run_after, keeps, writes, Did, Room, place_at, piece_at, piece_of, pieces_from, ends_at, psd_by, Parsed, said_of, last_of, memory_by, continued_by, first_cause, begun}
use Rattle.reassembly.specs.declared.Run.{Run}
use Rattle.reassembly.specs.declared.Head.{Head}
use Rattle.reassembly.specs.declared.State.{State}
use Rattle.reassembly.proofs.Laws.{one_entry, did_nothing, same_outcome, same-room}
use Rattle.reassembly.proofs.Runs.{and_then, room-first, room_next, did-both, Fine, fine-nothing, fine-partial, partial-kept, no_number, ends_same}

-- ---- the note with which a PDU begins

pub begun-none : (n : ℕ) (h : Partial) → n ≡ 0 → begun n h ≡ kept h
unfolding begun
begun-none n h e = rw e

pub begun-some : (n cause : ℕ) (h : Partial) → cause ≡ n → (cause ≡ 0 → ⊥) → begun n h ≡ dropped cause 0
unfolding begun
begun-some zero cause h e z = absurd (z e)
begun-some (suc n) cause h e z = rw e refl

-- ---- the PSD

pub psd-none : (b : List ℕ) → length b ≡ 0 → log_words (psd_entries b) ≡ []
unfolding psd_entries log_words
psd-none [] e = refl
psd-none (x ∷ b) e = absurd (omega arith)

pub psd-some : (b : List ℕ) → (length b ≡ 0 → ⊥) → log_words (psd_entries b) ≡ entry_words (psd b)
unfolding psd_entries
psd-some [] z = absurd (z refl)
psd-some (x ∷ b) z = one_entry (psd (x ∷ b))

-- PSD runs up to a, which is La
pub psd-is : (h : Head) (m d : List ℕ) (a : ℕ) → a ≡ get_or m 0 0 → take (a + 1 - h.psd) (drop h.psd d) ≡ psd_by h m d
unfolding psd_by
psd-is h m d a e = rw e refl

pub psd-length : (h : Head) (m d : List ℕ) → Parsed h d m → length (psd_by h m d) ≡ place_at m 0 - h.psd
unfolding psd_by
psd-length h m d w = rw (length-take, length-drop) (omega (arith, w.psd, w.marked.first))

-- ---- steps 1 and 2 together

beginning-is : (held number : ℕ) (c : List ℕ) (pfirst : Bool) (start : ℕ)
    → beginning_step pfirst start (partial_of held number c) ≡ begun (cond (continued_by held number pfirst start) 0 4) (partial_of held number c)
unfolding beginning_step begun
beginning-is zero number c pfirst start = refl
beginning-is (suc h) number c pfirst start = rw (eqb-suc-zero h) (go (pfirst && eqb number ((start + 63) % 64)))
  where
    go : (b : Bool) → cond b (kept (beginning number (take (suc h) c))) (dropped 4 0) ≡ begun (cond b 0 4) (beginning number (take (suc h) c))
    go true = refl
    go false = refl

first-is : (f : Bool) (held number : ℕ) (c : List ℕ) (pfirst : Bool) (start : ℕ)
    → and_then (cond f (kept (partial_of held number c)) (dropped 1 0)) (beginning_step pfirst start (cond f (kept (partial_of held number c)) (dropped 1 0)).partial) ≡ begun (cond f (cond (continued_by held number pfirst start) 0 4) 1) (partial_of held number c)
first-is true held number c pfirst start = beginning-is held number c pfirst start
first-is false held number c pfirst start = unfold beginning_step begun in refl

begun-entries : (n : ℕ) (h u : Partial) → (begun n h).entries ≡ (begun n u).entries
unfolding begun
begun-entries zero h u = refl
begun-entries (suc n) h u = refl

room-entries : (o u : Outcome) (at : ℕ) (l : List ℕ) → o.entries ≡ u.entries → Room u at l → Room o at l
unfolding Room
room-entries o u at l e r = rw e r

pub fine-begun : (n : ℕ) (h : Partial) → Fine h → Fine (begun n h).partial
unfolding begun
fine-begun zero h f = f
fine-begun (suc n) h f = fine-nothing

-- ---- entries logged with what is held left as it is, and an outcome after them

module _ (es : List Entry) (u : Outcome) (r : Run) (c l : List ℕ) (small : r.held ≤ 4096) (plain : r.held ≡ 0 → r.number ≡ 0) (big : 4096 ≤ length c) where
  abbrev pub staying : Outcome
  staying = record { entries = es; partial = partial_of r.held r.number c }

  module _ (room : Room (and_then staying u) r.at l) where
    pub stay-room : r.at + length (log_words es) ≤ length l
    stay-room = let h : Room staying r.at l = room-first staying u r.at l room in unfold Room in h

    module _ (l₂ : List ℕ) (n : ℕ) (same : length l₂ ≡ length l) (en : n ≡ length (log_words es)) (el : l₂ ≡ put_at l r.at (log_words es)) where
      next : Run
      next = record { held = r.held; number = r.number; at = r.at + n }

      stays : Did staying r.at c l c l₂ next
      unfolding next run_after keeps writes
      stays =
          let z = did_nothing r c l (omega (arith, small, big)) plain in
          record { run = λ i. record { held = (z.run i).held; number = (z.run i).number; at = r.at + en i }; carry = z.carry; log = el }

      pub then-room : Room u (r.at + n) l₂
      then-room = room_next staying u r.at (r.at + n) l l₂ (ap (λ (k : ℕ). r.at + k) en) same room

      pub then-did : (c₃ l₃ : List ℕ) (last : Run) → Did u (r.at + n) c l₂ c₃ l₃ last → Did (and_then staying u) r.at c l c₃ l₃ last
      unfolding next
      then-did c₃ l₃ last f =
          let e : keeps c staying ≡ c = sym stays.carry in
          let k : keeps (keeps c staying) u ≡ keeps c u = rw e refl in
          did-both staying u r.at c l c l₂ c₃ l₃ next last room k stays f

-- ---- the whole outcome in its parts

module _ (head : Head) (m g d : List ℕ) where
  -- PSD and pieces
  pub contents-is : (h : Partial) → contents_step false (said_of head m g d) h ≡ and_then (record { entries = psd_entries (psd_by head m d); partial = h }) (pieces_step (piece_number head.pfirst head.start) 0 head.pfirst head.plast h (pieces_from d m g 0 head.nop))
  unfolding contents_step said_of
  contents-is h = refl

  -- note 8, and a piece that continues
  pub withheld-is : (h : Partial) → contents_step true (said_of head m g d) h ≡ and_then (record { entries = note 8 0 ∷ []; partial = h }) (continuing_step (piece_number head.pfirst head.start 0) head.plast h (pieces_from d m g 0 head.nop))
  unfolding contents_step said_of
  withheld-is h = refl

-- steps 3 and 4 put down, from a run on
module _ (head : Head) (m g d : List ℕ) (r : Run) (c l : List ℕ) (small : r.held ≤ 4096) (plain : r.held ≡ 0 → r.number ≡ 0) (big : 4096 ≤ length c) where
  abbrev held : Partial
  held = partial_of r.held r.number c

  abbrev number : ℕ → ℕ
  number = piece_number head.pfirst head.start

  abbrev pieces : Outcome
  pieces = pieces_step number 0 head.pfirst head.plast held (pieces_from d m g 0 head.nop)

  abbrev continuing : Outcome
  continuing = continuing_step (number 0) head.plast held (pieces_from d m g 0 head.nop)

  module _ (room : Room (contents_step false (said_of head m g d) held) r.at l) where
    all : Room (and_then (staying (psd_entries (psd_by head m d)) pieces r c l small plain big) pieces) r.at l
    all = same-room r.at l (contents-is head m g d held) room

    pub psd-room : r.at + length (log_words (psd_entries (psd_by head m d))) ≤ length l
    psd-room = stay-room (psd_entries (psd_by head m d)) pieces r c l small plain big all

    module _ (l₂ : List ℕ) (n : ℕ) (same : length l₂ ≡ length l) (en : n ≡ length (log_words (psd_entries (psd_by head m d)))) (el : l₂ ≡ put_at l r.at (log_words (psd_entries (psd_by head m d)))) where
      pub pieces_room : Room pieces (r.at + n) l₂
      pieces_room = then-room (psd_entries (psd_by head m d)) pieces r c l small plain big all l₂ n same en el

      pub pieces-did : (c₃ l₃ : List ℕ) (last : Run) → Did pieces (r.at + n) c l₂ c₃ l₃ last → Did (contents_step false (said_of head m g d) held) r.at c l c₃ l₃ last
      pieces-did c₃ l₃ last f = same_outcome (contents-is head m g d held) (then-did (psd_entries (psd_by head m d)) pieces r c l small plain big all l₂ n same en el c₃ l₃ last f)

  module _ (room : Room (contents_step true (said_of head m g d) held) r.at l) where
    eight : log_words (note 8 0 ∷ []) ≡ entry_words (note 8 0)
    eight = one_entry (note 8 0)

    every : Room (and_then (staying (note 8 0 ∷ []) continuing r c l small plain big) continuing) r.at l
    every = same-room r.at l (withheld-is head m g d held) room

    pub note-room : r.at + length (entry_words (note 8 0)) ≤ length l
    note-room = rw eight at (stay-room (note 8 0 ∷ []) continuing r c l small plain big every)

    module _ (l₂ : List ℕ) (n : ℕ) (same : length l₂ ≡ length l) (en : n ≡ length (entry_words (note 8 0))) (el : l₂ ≡ put_at l r.at (entry_words (note 8 0))) where
      pub continuing-room : Room continuing (r.at + n) l₂
      continuing-room = then-room (note 8 0 ∷ []) continuing r c l small plain big every l₂ n same (rw eight en) (rw eight el)

      pub continuing-did : (c₃ l₃ : List ℕ) (last : Run) → Did continuing (r.at + n) c l₂ c₃ l₃ last → Did (contents_step true (said_of head m g d) held) r.at c l c₃ l₃ last
      continuing-did c₃ l₃ last f = same_outcome (withheld-is head m g d held) (then-did (note 8 0 ∷ []) continuing r c l small plain big every l₂ n same (rw eight en) (rw eight el) c₃ l₃ last f)

-- ---- a piece that continues what is held, if there is one

module _ (n : ℕ) (plast : Bool) (h number nop : ℕ) (c d m g : List ℕ) where
  abbrev step : Outcome
  step = continuing_step n plast (partial_of h number c) (pieces_from d m g 0 nop)

  pub none-held : h ≡ 0 → step ≡ kept (partial_of h number c)
  unfolding continuing_step
  none-held e = rw e refl

  pub no-piece : nop ≡ 0 → step ≡ kept (partial_of h number c)
  unfolding continuing_step pieces_from
  no-piece e = rw e (go h)
    where
      go : (h : ℕ) → continuing_step n plast (partial_of h number c) (pieces_from d m g 0 0) ≡ kept (partial_of h number c)
      go zero = refl
      go (suc h) = refl

  pub one_piece : (h ≡ 0 → ⊥) → (nop ≡ 0 → ⊥) → step ≡ piece_step n 0 true (ends_at plast (nop - (0 + 1))) (partial_of h number c) (piece_of (get_or g 0 0) (piece_at d m 0))
  unfolding continuing_step pieces_from
  one_piece x y = go h nop x y
    where
      go : (h nop : ℕ) → (h ≡ 0 → ⊥) → (nop ≡ 0 → ⊥)
          → continuing_step n plast (partial_of h number c) (pieces_from d m g 0 nop) ≡ piece_step n 0 true (ends_at plast (nop - (0 + 1))) (partial_of h number c) (piece_of (get_or g 0 0) (piece_at d m 0))
      go zero nop x y = absurd (x refl)
      go (suc h) zero x y = absurd (y refl)
      go (suc h) (suc k) x y =
          let e : suc k - (0 + 1) ≡ k = omega arith in
          rw (e, ends_same plast d m g (0 + 1) k) refl

under-contents : (w : Bool) (t : Said) (h : Partial) → contents_step w (under w t) h ≡ contents_step w t h
unfolding contents_step
under-contents true t h = refl
under-contents false t h = refl

module _ (s : State) (range : ℕ) (head : Head) (c : List ℕ) where
  unfoldable pub begins : Outcome
  begins = begun (first_cause s range head) (partial_of s.held s.number c)

  pub begins-is : begins ≡ begun (first_cause s range head) (partial_of s.held s.number c)
  unfolding begins
  begins-is = refl

  module _ (w : Bool) (m g d : List ℕ) where
    abbrev said : Said
    said = said_of head m g d

    pub total-is : received range (memory_by s c) (under w said) ≡ and_then begins (contents_step w said begins.partial)
    unfolding received sequence_step memory_by said_of begins first_cause
    total-is =
        let e = first-is (in_sequence range (last_of s.known s.last) head.sequence) s.held s.number c head.pfirst head.start in
        rw (← e, append_assoc, ← under-contents w said) refl

    -- the parts put down one after another
    module _ (small : s.held ≤ 4096) (plain : s.held ≡ 0 → s.number ≡ 0) (big : 4096 ≤ length c) (l : List ℕ) (room : Room (received range (memory_by s c) (under w said)) 0 l) where
      all_room : Room (and_then begins (contents_step w said begins.partial)) 0 l
      all_room = rw total-is at room

      pub begin-room : Room (begun (first_cause s range head) nothing) 0 l
      begin-room =
          let h : Room begins 0 l = room-first begins (contents_step w said begins.partial) 0 l all_room in
          let q : (begun (first_cause s range head) nothing).entries ≡ begins.entries = unfold begins in begun-entries (first_cause s range head) nothing (partial_of s.held s.number c) in
          room-entries (begun (first_cause s range head) nothing) begins 0 l q h

      fine-first : Fine begins.partial
      unfolding begins
      fine-first = fine-begun (first_cause s range head) (partial_of s.held s.number c) (fine-partial s.held s.number c small (omega arith))

      module _ (l₁ : List ℕ) (first : Run) (same : length l₁ ≡ length l) (did₀ : Did (begun (first_cause s range head) (partial_of s.held s.number c)) 0 c l c l₁ first) where
        did : Did begins 0 c l c l₁ first
        did = same_outcome begins-is did₀

        rh : first.held ≡ length (partial_bytes begins.partial)
        rh = unfold run_after in ap (λ (x : Run). x.held) did.run

        rn : first.number ≡ partial_number begins.partial
        rn = unfold run_after in ap (λ (x : Run). x.number) did.run

        ra : first.at ≡ 0 + length (log_words begins.entries)
        ra = unfold run_after in ap (λ (x : Run). x.at) did.run

        pub first_small : first.held ≤ 4096
        first_small = rw rh fine-first.0

        pub first_plain : first.held ≡ 0 → first.number ≡ 0
        first_plain z = rn ∙ no_number begins.partial fine-first.1 (sym rh ∙ z)

        first-partial : partial_of first.held first.number c ≡ begins.partial
        first-partial =
            let e : put_at c 0 (partial_bytes begins.partial) ≡ c = unfold keeps in sym did.carry in
            rw (rh, rn) (rw e at (partial-kept begins.partial c fine-first.1))

        -- withheld or not, as v says
        pub rest-room : (v : Bool) → w ≡ v → Room (contents_step v said (partial_of first.held first.number c)) first.at l₁
        rest-room v t = rw (first-partial, ← t) (room_next begins (contents_step w said begins.partial) 0 first.at l l₁ ra same all_room)

        pub accept-did : (v : Bool) → w ≡ v → (c₃ l₃ : List ℕ) (last : Run) → Did (contents_step v said (partial_of first.held first.number c)) first.at c l₁ c₃ l₃ last
            → Did (received range (memory_by s c) (under w said)) 0 c l c₃ l₃ last
        accept-did v t c₃ l₃ last f =
            let u : Outcome = contents_step w said begins.partial in
            let e : keeps c begins ≡ c = sym did.carry in
            let k : keeps (keeps c begins) u ≡ keeps c u = rw e refl in
            same_outcome total-is (did-both begins u 0 c l c l₁ c₃ l₃ first last all_room k did (rw (first-partial, ← t) at f))
