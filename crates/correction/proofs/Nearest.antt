-- What the search of `near` answers: a code word within k where there is one, and none where there is none.
use mathlib.Core.Path.{◌≡◌, refl, sym, ◌∙◌, ap}
use mathlib.Core.List.{List}
use mathlib.Core.Bool.{Bool, true, false}
use mathlib.Core.Option.{Option, none, some, or_else}
use Prim.Native.Nat.{ℕ, zero, suc, ◌≤◌, ◌<◌}
use native.Mathlib.Omega.{arith}
use native.Mathlib.Decide.{ℕ_discrete}
use lib.ListN.{length, get_or, set, length-set}
use Rattle.algebra.specs.Places.{All}
use Rattle.header.specs.Header.{is_code_word, distance}
use Rattle.header.proofs.Distances.{distance-set, Nearer, nearer, distance_self, distance-zero, all_set, all-at}
use Rattle.correction.specs.Correction.{only_if, at_place, at_places, near, Near}

-- A hit is what is looked for.
module _ (P : List ℕ → Type 0) (f : List ℕ → Option (List ℕ)) (w : List ℕ) where
  else-hit : (a b : Option (List ℕ)) → ((c : List ℕ) → a ≡ some c → P c) → ((c : List ℕ) → b ≡ some c → P c) → (c : List ℕ) → or_else a b ≡ some c → P c
  unfolding or_else
  else-hit (some d) b p r c e = p c e
  else-hit none b p r c e = r c e

  pub place-hit : (i v : ℕ) → ((u : ℕ) → u < v → (c : List ℕ) → f (set w i u) ≡ some c → P c) → (c : List ℕ) → at_place f w i v ≡ some c → P c
  place-hit i zero h c e = let z : ◌≡◌ {A = ℕ} 0 1 = cc in absurd (omega arith)
  place-hit i (suc v) h c e = else-hit (at_place f w i v) (f (set w i v)) (place-hit i v (λ u l. h u (omega arith))) (h v (omega arith)) c e

  places-hit : (m : ℕ) → ((i : ℕ) → i < m → (u : ℕ) → u < 256 → (c : List ℕ) → f (set w i u) ≡ some c → P c) → (c : List ℕ) → at_places f w m ≡ some c → P c
  places-hit zero h c e = let z : ◌≡◌ {A = ℕ} 0 1 = cc in absurd (omega arith)
  places-hit (suc m) h c e = else-hit (at_places f w m) (at_place f w m 256) (places-hit m (λ i l. h i (omega arith))) (place-hit m 256 (h m (omega arith))) c e

-- No hit: there is none to find.
else-none : (a b : Option (List ℕ)) → or_else a b ≡ none → (a ≡ none) × (b ≡ none)
unfolding or_else
else-none (some d) b e = let z : ◌≡◌ {A = ℕ} 0 1 = cc in absurd (omega arith)
else-none none b e = (refl, e)

module _ (f : List ℕ → Option (List ℕ)) (w : List ℕ) where
  pub place_none : (i v : ℕ) → at_place f w i v ≡ none → (u : ℕ) → u < v → f (set w i u) ≡ none
  place_none i zero e u l = absurd (omega arith)
  place_none i (suc v) e u l = go (ℕ_discrete u v) (λ m. place_none i v (else-none _ _ e).0 u m)
    where
      go : Dec (u ≡ v) → (u < v → f (set w i u) ≡ none) → f (set w i u) ≡ none
      go (yes p) r = rw p (else-none (at_place f w i v) (f (set w i v)) e).1
      go (no p) r = r (omega arith)

  places-none : (m : ℕ) → at_places f w m ≡ none → (i : ℕ) → i < m → (u : ℕ) → u < 256 → f (set w i u) ≡ none
  places-none zero e i l u b = absurd (omega arith)
  places-none (suc m) e i l u b = go (ℕ_discrete i m) (λ k. places-none m (else-none _ _ e).0 i k u b)
    where
      go : Dec (i ≡ m) → (i < m → f (set w i u) ≡ none) → f (set w i u) ≡ none
      go (yes p) r = rw p (place_none m 256 (else-none (at_places f w m) (at_place f w m 256) e).1 u b)
      go (no p) r = r (omega arith)

found_here : (b : Bool) (w c : List ℕ) (k : ℕ) → All (λ x. x < 256) w → is_code_word w ≡ b → only_if b w ≡ some c → Near k w c
found_here true w c k a e h =
    let p : w ≡ c = cc in
    record { right = ap is_code_word (sym p) ∙ e; close = (let z : distance w w ≡ 0 = distance_self w in rw (← p) (omega arith)); long = ap length (sym p); bytes = rw p at a }
found_here false w c k a e h = let z : ◌≡◌ {A = ℕ} 0 1 = cc in absurd (omega arith)

pub near-sound : (k : ℕ) (w c : List ℕ) → All (λ x. x < 256) w → near k w ≡ some c → Near k w c
unfolding near
near-sound zero w c a e = found_here (is_code_word w) w c 0 a refl e
near-sound (suc k) w c a e =
    else-hit (Near (suc k) w) (λ u. near k u) w (only_if (is_code_word w) w) (at_places (λ u. near k u) w (length w))
    (λ d p. found_here (is_code_word w) w d (suc k) a refl p)
    (places-hit (Near (suc k) w) (λ u. near k u) w (length w)
    (λ i l u b d p. (let n : Near k (set w i u) d = near-sound k (set w i u) d (all_set 256 w i u b a) p in
    let s : distance w d ≤ suc (distance (set w i u) d) = distance-set w d i u in
    let t : distance (set w i u) d ≤ k = n.close in
    record { right = n.right; close = omega arith; long = n.long ∙ length-set w i u; bytes = n.bytes })))
    c e

not-here : (b : Bool) (w c : List ℕ) → is_code_word w ≡ b → only_if b w ≡ none → w ≡ c → is_code_word c ≡ true → ⊥
not-here true w c e h p g = let z : ◌≡◌ {A = ℕ} 0 1 = cc in omega arith
not-here false w c e h p g = let z : ◌≡◌ {A = ℕ} 0 1 = cc in omega arith

pub near-complete : (k : ℕ) (w c : List ℕ) → near k w ≡ none → Near k w c → ⊥
unfolding near
near-complete zero w c e n = let l : distance w c ≤ 0 = n.close in not-here (is_code_word w) w c refl e (distance-zero w c n.long (omega arith)) n.right
near-complete (suc k) w c e n = go (distance w c) refl (λ u. near-complete k u c)
  where
    go : (d : ℕ) → distance w c ≡ d → ((u : List ℕ) → near k u ≡ none → Near k u c → ⊥) → ⊥
    go zero p rec = not-here (is_code_word w) w c refl (else-none (only_if (is_code_word w) w) (at_places (λ u. near k u) w (length w)) e).0 (distance-zero w c n.long p) n.right
    go (suc d) p rec =
        let m : Nearer w c d = nearer w c d p in
        let b : m.place < length w = m.inside in
        let lg : length c ≡ length w = n.long in
        let cl : distance w c ≤ suc k = n.close in
        let f : distance (set w m.place (get_or c m.place 0)) c ≡ d = m.closer in
        rec (set w m.place (get_or c m.place 0))
        (places-none (λ u. near k u) w (length w) (else-none (only_if (is_code_word w) w) (at_places (λ u. near k u) w (length w)) e).1 m.place b (get_or c m.place 0) (all-at 256 c m.place (omega arith) n.bytes))
        (record { right = n.right; close = omega arith; long = n.long ∙ sym (length-set w m.place (get_or c m.place 0)); bytes = n.bytes })
