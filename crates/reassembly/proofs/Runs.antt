-- One outcome after another, and the pieces of a PDU one by one.
use Prim.Native.Nat.{ℕ, zero, suc, ◌+◌, ◌-◌, ◌≤◌, ◌<◌}
use mathlib.Core.Path.{◌≡◌, refl, ap, sym, ◌∙◌}
use mathlib.Core.Bool.{Bool, true, false, not, cond}
use mathlib.Core.List.{List, [], ◌∷◌, ◌++◌}
use native.Mathlib.Omega.{arith}
use native.Mathlib.Nat.{sub-zero}
use native.Mathlib.Numerals.{add-one}
use borrow.Author.Tests.{ltb-false}
use lib.Dec.{ltb, eqb}
use lib.ListN.{length, take, drop, get_or, length-append, length-drop, length-take}
use lib.Seq.{length-take-le, drop_at}
use Rattle.buffer.specs.Buffer.{put_at}
use Rattle.buffer.proofs.Laws.{put-nil, put_then, take_put}
use Rattle.packet_log.specs.Log.{log_words}
use Rattle.packet_log.proofs.Words.{log-append}
use Rattle.reassembly.specs.Reassembly.{Piece, Partial, nothing, beginning, Outcome, dropped, kept, finished, joined, piece_step, pieces_step, ends_here}
use Rattle.reassembly.specs.Run.{partial_bytes, partial_number, partial_of, run_after, keeps, writes, Did, Room, length_by, piece_at, piece_of, pieces_from, ends_at, Marked}
use Rattle.reassembly.specs.declared.Run.{Run}
use Rattle.reassembly.proofs.Laws.{delivered, did_nothing}

-- one outcome after another
abbrev pub and_then : Outcome → Outcome → Outcome
and_then o u = record { entries = o.entries ++ u.entries; partial = u.partial }

pub both_words : (o u : Outcome) → length (log_words (and_then o u).entries) ≡ length (log_words o.entries) + length (log_words u.entries)
both_words o u = rw (log-append o.entries u.entries, length-append (log_words o.entries) (log_words u.entries))

pub room-first : (o u : Outcome) (at : ℕ) (l : List ℕ) → Room (and_then o u) at l → Room o at l
unfolding Room
room-first o u at l r = omega (arith, both_words o u)

pub room_next : (o u : Outcome) (at at' : ℕ) (l l' : List ℕ) → at' ≡ at + length (log_words o.entries) → length l' ≡ length l → Room (and_then o u) at l → Room u at' l'
unfolding Room
room_next o u at at' l l' e h r = omega (arith, both_words o u)

pub did-both : (o u : Outcome) (at : ℕ) (c l c₁ l₁ c₂ l₂ : List ℕ) (r₁ r₂ : Run) → Room (and_then o u) at l → keeps (keeps c o) u ≡ keeps c u
    → Did o at c l c₁ l₁ r₁ → Did u r₁.at c₁ l₁ c₂ l₂ r₂ → Did (and_then o u) at c l c₂ l₂ r₂
unfolding run_after writes keeps
did-both o u at c l c₁ l₁ c₂ l₂ r₁ r₂ room same d f =
    let ra : r₁.at ≡ at + length (log_words o.entries) = ap (λ (r : Run). r.at) d.run in
    let le : at + length (log_words o.entries) ≤ length l = unfold Room in omega (arith, both_words o u, room) in
    let n : r₁.at + length (log_words u.entries) ≡ at + length (log_words (o.entries ++ u.entries)) = omega (arith, both_words o u) in
    let la : log_words (o.entries ++ u.entries) ≡ log_words o.entries ++ log_words u.entries = log-append o.entries u.entries in
    record { run = f.run ∙ rw n refl; carry = f.carry ∙ rw d.carry same; log = rw la (put_then l l₁ l₂ (log_words o.entries) (log_words u.entries) at r₁.at le ra d.log f.log) }

-- ---- what is held after a piece: at most 4,096 bytes, and some where it is not nothing

abbrev pub Fine : Partial → Type 0
Fine h = (length (partial_bytes h) ≤ 4096) × (length (partial_bytes h) ≡ 0 → h ≡ nothing)

pub fine-nothing : Fine nothing
fine-nothing = (omega arith, λ e. refl)

fine-cond : (b : Bool) (o u : Outcome) → (b ≡ true → Fine o.partial) → (b ≡ false → Fine u.partial) → Fine (cond b o u).partial
fine-cond true o u f g = f refl
fine-cond false o u f g = g refl

fine-finished : (n k : ℕ) (ends : Bool) (b : List ℕ) → 1 ≤ length b → Fine (finished n k ends b).partial
unfolding finished
fine-finished n k ends b h =
    fine-cond (ltb 4096 (length b)) (dropped 5 k) (cond ends (delivered n b) (kept (beginning n b))) (λ e. fine-nothing)
    (λ e. fine-cond ends (delivered n b) (kept (beginning n b)) (λ f. fine-nothing) (λ f. (ltb-false 4096 (length b) e, λ z. absurd (omega arith))))

fine-joined : (n k : ℕ) (cont ends : Bool) (h : Partial) (b : List ℕ) → 1 ≤ length b → Fine (joined n k cont ends h b).partial
unfolding joined
fine-joined n k false ends h b l = fine-finished n k ends b l
fine-joined n k true ends nothing b l = fine-nothing
fine-joined n k true ends (beginning m a) b l = fine-finished n k ends (a ++ b) (rw length-append (omega arith))

pub fine-piece : (n k : ℕ) (cont ends : Bool) (h : Partial) (p : Piece) → 1 ≤ length p.bytes → Fine (piece_step n k cont ends h p).partial
unfolding piece_step
fine-piece n k cont ends h p l =
    fine-cond (eqb p.cause 0) (joined n k cont ends h p.bytes) (dropped p.cause k) (λ e. fine-joined n k cont ends h p.bytes l) (λ e. fine-nothing)

pub fine-partial : (held m : ℕ) (c : List ℕ) → held ≤ 4096 → held ≤ length c → Fine (partial_of held m c)
fine-partial zero m c h l = fine-nothing
fine-partial (suc x) m c h l = rw (length-take-le (suc x) c l) (h, λ z. absurd (omega arith))

pub partial-kept : (h : Partial) (c : List ℕ) → (length (partial_bytes h) ≡ 0 → h ≡ nothing) → partial_of (length (partial_bytes h)) (partial_number h) (put_at c 0 (partial_bytes h)) ≡ h
partial-kept nothing c z = refl
partial-kept (beginning n []) c z = sym (z refl)
partial-kept (beginning n (x ∷ b)) c z = ap (λ (l : List ℕ). beginning n l) (take_put c (x ∷ b))

pub no_number : (h : Partial) → (length (partial_bytes h) ≡ 0 → h ≡ nothing) → length (partial_bytes h) ≡ 0 → partial_number h ≡ 0
no_number h z e = ap partial_number (z e)

-- ---- the carry buffer

nothing-cond : (b : Bool) (o u : Outcome) → o.partial ≡ nothing → u.partial ≡ nothing → (cond b o u).partial ≡ nothing
nothing-cond true o u p q = p
nothing-cond false o u p q = q

drop-finished : (n k : ℕ) (b : List ℕ) → (finished n k true b).partial ≡ nothing
unfolding finished
drop-finished n k b = nothing-cond (ltb 4096 (length b)) (dropped 5 k) (delivered n b) refl refl

drop-joined : (n k : ℕ) (cont : Bool) (h : Partial) (b : List ℕ) → (joined n k cont true h b).partial ≡ nothing
unfolding joined
drop-joined n k false h b = drop-finished n k b
drop-joined n k true nothing b = refl
drop-joined n k true (beginning m a) b = drop-finished n k (a ++ b)

pub ends-drops : (n k : ℕ) (cont : Bool) (h : Partial) (p : Piece) → (piece_step n k cont true h p).partial ≡ nothing
unfolding piece_step
ends-drops n k cont h p = nothing-cond (eqb p.cause 0) (joined n k cont true h p.bytes) (dropped p.cause k) (drop-joined n k cont h p.bytes) refl

pub keeps-nothing : (c : List ℕ) (o u : Outcome) → o.partial ≡ nothing → keeps (keeps c o) u ≡ keeps c u
unfolding keeps
keeps-nothing c o u e = rw (e, put-nil c 0)

pub keeps_same : (c : List ℕ) (o u : Outcome) → u.partial ≡ o.partial → keeps (keeps c o) u ≡ keeps c u
unfolding keeps put_at
keeps_same c o u e =
    let b : List ℕ = partial_bytes o.partial in
    let z : 0 + length b ≡ length b = omega arith in
    rw (e, z, drop_at b (drop (length b) c) (length b) refl)

-- ---- the pieces, one by one

pub ends_same : (plast : Bool) (d m g : List ℕ) (k n : ℕ) → ends_here plast (pieces_from d m g k n) ≡ ends_at plast n
unfolding pieces_from ends_at
ends_same plast d m g k zero = refl
ends_same plast d m g k (suc n) = refl

module _ (num : ℕ → ℕ) (plast : Bool) (d m g : List ℕ) where
  unfoldable pub this : ℕ → ℕ → Bool → Partial → Outcome
  this k left cont h = piece_step (num k) k cont (ends_at plast left) h (piece_of (get_or g k 0) (piece_at d m k))

  unfoldable pub rest : ℕ → ℕ → Partial → Outcome
  rest k left h = pieces_step num (k + 1) false plast h (pieces_from d m g (k + 1) left)

  pub all_cons : (k n : ℕ) (cont : Bool) (h : Partial) → pieces_step num k cont plast h (pieces_from d m g k (suc n)) ≡ and_then (this k n cont h) (rest k n (this k n cont h).partial)
  unfolding pieces_step pieces_from this rest
  all_cons k n cont h = rw (ends_same plast d m g (k + 1) n, add-one k) refl

  pub all-next : (k nop : ℕ) (cont : Bool) (h : Partial) → k < nop
      → pieces_step num k cont plast h (pieces_from d m g k (nop - k)) ≡ and_then (this k (nop - (k + 1)) cont h) (rest k (nop - (k + 1)) (this k (nop - (k + 1)) cont h).partial)
  all-next k nop cont h l =
      let e : nop - k ≡ suc (nop - (k + 1)) = omega arith in
      rw e (all_cons k (nop - (k + 1)) cont h)

  pub all_none : (k : ℕ) (cont : Bool) (h : Partial) → pieces_step num k cont plast h (pieces_from d m g k 0) ≡ kept h
  unfolding pieces_step pieces_from
  all_none k cont h = refl

  pub carry-piece : (k left : ℕ) (cont : Bool) (h : Partial) (c : List ℕ) → keeps (keeps c (this k left cont h)) (rest k left (this k left cont h).partial) ≡ keeps c (rest k left (this k left cont h).partial)
  unfolding this ends_at rest
  carry-piece k zero cont h c = keeps_same c _ _ (ap (λ (o : Outcome). o.partial) (all_none (k + 1) false (piece_step (num k) k cont (not plast) h (piece_of (get_or g k 0) (piece_at d m k))).partial))
  carry-piece k (suc left) cont h c = keeps-nothing c _ _ (ends-drops (num k) k cont h (piece_of (get_or g k 0) (piece_at d m k)))

  pub this-is : (k left : ℕ) (cont : Bool) (h : Partial) → piece_step (num k) k cont (ends_at plast left) h (piece_of (get_or g k 0) (piece_at d m k)) ≡ this k left cont h
  unfolding this
  this-is k left cont h = refl

  pub rest-is : (k left : ℕ) (h : Partial) → pieces_step num (k + 1) false plast h (pieces_from d m g (k + 1) left) ≡ rest k left h
  unfolding rest
  rest-is k left h = refl

  pub fine-this : (k left : ℕ) (cont : Bool) (h : Partial) → 1 ≤ length (piece_at d m k) → Fine (this k left cont h).partial
  unfolding this
  fine-this k left cont h l = fine-piece (num k) k cont (ends_at plast left) h (piece_of (get_or g k 0) (piece_at d m k)) l

-- a piece from the places a and e of its marks
pub piece_is : (d m : List ℕ) (k cause a e n n' : ℕ) (cont ends ends' : Bool) (h : Partial) → a ≡ get_or m k 0 → e ≡ get_or m (k + 1) 0 → n ≡ n' → ends ≡ ends'
    → piece_step n k cont ends h (piece_of cause (take (e - (a + 1)) (drop (a + 1) d))) ≡ piece_step n' k cont ends' h (piece_of cause (piece_at d m k))
unfolding piece_at
piece_is d m k cause a e n n' cont ends ends' h p q r f = rw (p, q, r, f) refl

-- a piece has a byte or more, and lies within the PDU
pub piece-length : (d m : List ℕ) (n k : ℕ) → Marked d m n → k < n → length (piece_at d m k) ≡ length_by m k
unfolding piece_at
piece-length d m n k w h = rw (length-take, length-drop) (omega (arith, w.rising k h, w.within k h))

pub piece-some : (d m : List ℕ) (n k : ℕ) → Marked d m n → k < n → 1 ≤ length (piece_at d m k)
piece-some d m n k w h = omega (arith, piece-length d m n k w h, w.rising k h)

pub part_small : (d m : List ℕ) (n k a e : ℕ) → Marked d m n → k < n → a ≡ get_or m k 0 → e ≡ get_or m (k + 1) 0 → length (take (e - (a + 1)) (drop (a + 1) d)) ≤ length d
part_small d m n k a e w h p q = rw (length-take, length-drop) (omega arith)

-- ---- a run of outcomes: from here on, `left` is still to be done of `whole`

pub record Going (whole left : Outcome) (at₀ : ℕ) (c₀ l₀ c l : List ℕ) (r : Run) : Type 0 where
  pub small : r.held ≤ 4096
  pub plain : r.held ≡ 0 → r.number ≡ 0
  pub carry : length c ≡ length c₀
  pub log : length l ≡ length l₀
  pub room : Room left r.at l
  pub does : (c₂ l₂ : List ℕ) (r₂ : Run) → Did left r.at c l c₂ l₂ r₂ → Did whole at₀ c₀ l₀ c₂ l₂ r₂

module _ (num : ℕ → ℕ) (plast : Bool) (d m g : List ℕ) (nop k at₀ : ℕ) (cont : Bool) (whole : Outcome) (c₀ l₀ c l c₁ l₁ : List ℕ) (r r₁ : Run) (more : k < nop) (some : 1 ≤ length (piece_at d m k)) where
  h : Partial
  h = partial_of r.held r.number c

  o : Outcome
  unfolding h
  o = this num plast d m g k (nop - (k + 1)) cont h

  u : Outcome
  unfolding o
  u = rest num plast d m g k (nop - (k + 1)) o.partial

  pub going-room : Going whole (pieces_step num k cont plast (partial_of r.held r.number c) (pieces_from d m g k (nop - k))) at₀ c₀ l₀ c l r
      → Room (this num plast d m g k (nop - (k + 1)) cont (partial_of r.held r.number c)) r.at l
  unfolding h o u
  going-room i = room-first o u r.at l (rw (all-next num plast d m g k nop cont h more) at i.room)

  pub going-turn : length c₁ ≡ length c → length l₁ ≡ length l
      → Going whole (pieces_step num k cont plast (partial_of r.held r.number c) (pieces_from d m g k (nop - k))) at₀ c₀ l₀ c l r
      → Did (this num plast d m g k (nop - (k + 1)) cont (partial_of r.held r.number c)) r.at c l c₁ l₁ r₁
      → Going whole (pieces_step num (k + 1) false plast (partial_of r₁.held r₁.number c₁) (pieces_from d m g (k + 1) (nop - (k + 1)))) at₀ c₀ l₀ c₁ l₁ r₁
  unfolding h o u
  going-turn hc hl i f =
      let e : pieces_step num k cont plast h (pieces_from d m g k (nop - k)) ≡ and_then o u = all-next num plast d m g k nop cont h more in
      let fine : Fine o.partial = fine-this num plast d m g k (nop - (k + 1)) cont h some in
      let rh : r₁.held ≡ length (partial_bytes o.partial) = unfold run_after in ap (λ (x : Run). x.held) f.run in
      let rn : r₁.number ≡ partial_number o.partial = unfold run_after in ap (λ (x : Run). x.number) f.run in
      let ra : r₁.at ≡ r.at + length (log_words o.entries) = unfold run_after in ap (λ (x : Run). x.at) f.run in
      let cc : c₁ ≡ put_at c 0 (partial_bytes o.partial) = unfold keeps in f.carry in
      let v : partial_of r₁.held r₁.number c₁ ≡ o.partial = rw (rh, rn, cc) (partial-kept o.partial c fine.1) in
      let w : pieces_step num (k + 1) false plast (partial_of r₁.held r₁.number c₁) (pieces_from d m g (k + 1) (nop - (k + 1))) ≡ u = rest-is num plast d m g k (nop - (k + 1)) (partial_of r₁.held r₁.number c₁) ∙ ap (rest num plast d m g k (nop - (k + 1))) v in
      let room : Room (and_then o u) r.at l = rw e at i.room in
      record {
        small = rw rh fine.0;
        plain = λ z. rn ∙ no_number o.partial fine.1 (sym rh ∙ z);
        carry = hc ∙ i.carry;
        log = hl ∙ i.log;
        room = rw w (room_next o u r.at r₁.at l l₁ ra hl room);
        does = λ c₂ l₂ r₂ x. i.does c₂ l₂ r₂ (rw e (did-both o u r.at c l c₁ l₁ c₂ l₂ r₁ r₂ room (carry-piece num plast d m g k (nop - (k + 1)) cont h c) f (rw w at x)));
      }

pub going_start : (num : ℕ → ℕ) (plast cont : Bool) (d m g : List ℕ) (nop : ℕ) (h : Partial) (c l : List ℕ) (r : Run) → r.held ≤ 4096 → (r.held ≡ 0 → r.number ≡ 0)
    → Room (pieces_step num 0 cont plast h (pieces_from d m g 0 nop)) r.at l
    → Going (pieces_step num 0 cont plast h (pieces_from d m g 0 nop)) (pieces_step num 0 cont plast h (pieces_from d m g 0 (nop - 0))) r.at c l c l r
going_start num plast cont d m g nop h c l r s z room = rw (sub-zero nop) (record { small = s; plain = z; carry = refl; log = refl; room = room; does = λ c₂ l₂ r₂ x. x })

pub going_end : (num : ℕ → ℕ) (plast cont : Bool) (d m g : List ℕ) (nop k at₀ : ℕ) (whole : Outcome) (c₀ l₀ c l : List ℕ) (r : Run) → nop ≤ k → 4096 ≤ length c₀
    → Going whole (pieces_step num k cont plast (partial_of r.held r.number c) (pieces_from d m g k (nop - k))) at₀ c₀ l₀ c l r → Did whole at₀ c₀ l₀ c l r
going_end num plast cont d m g nop k at₀ whole c₀ l₀ c l r e big i =
    let z : nop - k ≡ 0 = omega arith in
    i.does c l r (rw (z, all_none num plast d m g k cont (partial_of r.held r.number c)) (did_nothing r c l (omega (arith, i.small, i.carry)) i.plain))
