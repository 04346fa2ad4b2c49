-- Marked places: how many unmarked bytes differ, and that at most one code word is within reach.
use mathlib.Core.Path.{◌≡◌, refl, sym, ◌∙◌, ap, subst}
use mathlib.Core.Bool.{Bool, true, false, not, ◌||◌, cond}
use mathlib.Core.List.{List, [], ◌∷◌}
use mathlib.Core.Option.{Option, none, some}
use Prim.Native.Nat.{ℕ, suc, ◌+◌, ◌*◌, ◌<◌, ◌≤◌}
use native.Mathlib.Omega.{arith}
use lib.Dec.{eqb}
use lib.ListN.{length, get_or, set, length-set}
use lib.Seq.{get_or-set_same, get_or-set_other}
use borrow.Author.Tests.{eqb-true, eqb-false, eq-eqb}
use Rattle.algebra.specs.Places.{All, below, keep}
use Rattle.algebra.proofs.Places.{one}
use Rattle.header.specs.Header.{is_code_word, distance}
use Rattle.header.proofs.Distances.{count, triangle-step, distance-set, all_set}
use Rattle.header.proofs.Unique.{all-bytes, code-words-apart}
use Rattle.correction.specs.Correction.{near, Near}
use Rattle.correction.specs.Marks.{is_marked, unmarked_distance, Within, CandidateWith, at_marks, spare, corrected_with, adopted}
use Rattle.correction.proofs.Counting.{keep_same, keep-sum, keep-le, keep-none, distance-count}
use Rattle.correction.proofs.Nearest.{place-hit, place_none, near-sound, near-complete}

-- ---- a word with its marked bytes set to those of another

pub adopted-length : (marks w c : List ℕ) → length (adopted marks w c) ≡ length w
adopted-length [] w c = refl
adopted-length (i ∷ marks) w c = adopted-length marks (set w i (get_or c i 0)) c ∙ length-set w i (get_or c i 0)

pub adopted-bytes : (marks w c : List ℕ) → All (λ x. x < 256) w → All (λ x. x < 256) c → All (λ x. x < 256) (adopted marks w c)
adopted-bytes [] w c a b = a
adopted-bytes (i ∷ marks) w c a b = adopted-bytes marks (set w i (get_or c i 0)) c (all_set 256 w i (get_or c i 0) (all-bytes c b i) a) b

pub adopted-at : (marks w c : List ℕ) (i : ℕ) → i < length w → get_or (adopted marks w c) i 0 ≡ cond (is_marked marks i) (get_or c i 0) (get_or w i 0)
adopted-at [] w c i l = refl
adopted-at (k ∷ marks) w c i l =
    adopted-at marks (set w k (get_or c k 0)) c i (subst (λ (n : ℕ). i < n) (sym (length-set w k (get_or c k 0))) l) ∙ go (eqb k i) refl (is_marked marks i)
  where
    go : (b : Bool) → eqb k i ≡ b → (m : Bool) → cond m (get_or c i 0) (get_or (set w k (get_or c k 0)) i 0) ≡ cond (b || m) (get_or c i 0) (get_or w i 0)
    go true e true = refl
    go true e false = let q : k ≡ i = eqb-true k i e in rw q (get_or-set_same w i (get_or c i 0) 0 l)
    go false e true = refl
    go false e false = get_or-set_other w k i (get_or c k 0) 0 (λ q. eqb-false k i e (sym q))

pub unmarked-adopted : (marks w c : List ℕ) → length c ≡ length w → unmarked_distance marks w c ≡ distance (adopted marks w c) c
unfolding unmarked_distance
unmarked-adopted marks w c l =
    keep-length (length w) (λ i b. go i b (is_marked marks i) refl (eqb (get_or w i 0) (get_or c i 0)) refl)
    ∙ ap (λ (n : ℕ). length (keep (λ i. not (eqb (get_or (adopted marks w c) i 0) (get_or c i 0))) (below n))) (sym (adopted-length marks w c))
    ∙ sym (distance-count (adopted marks w c) c (l ∙ sym (adopted-length marks w c)))
  where
    keep-length : (n : ℕ) → ((i : ℕ) → i < n → not (is_marked marks i || eqb (get_or w i 0) (get_or c i 0)) ≡ not (eqb (get_or (adopted marks w c) i 0) (get_or c i 0)))
        → length (keep (λ i. not (is_marked marks i || eqb (get_or w i 0) (get_or c i 0))) (below n)) ≡ length (keep (λ i. not (eqb (get_or (adopted marks w c) i 0) (get_or c i 0))) (below n))
    keep-length n h = ap length (keep_same (λ i. not (is_marked marks i || eqb (get_or w i 0) (get_or c i 0))) (λ i. not (eqb (get_or (adopted marks w c) i 0) (get_or c i 0))) n h)

    go : (i : ℕ) → i < length w → (m : Bool) → is_marked marks i ≡ m → (b : Bool) → eqb (get_or w i 0) (get_or c i 0) ≡ b → not (m || b) ≡ not (eqb (get_or (adopted marks w c) i 0) (get_or c i 0))
    go i h true e b f =
        let a : get_or (adopted marks w c) i 0 ≡ get_or c i 0 = adopted-at marks w c i h ∙ ap (λ (x : Bool). cond x (get_or c i 0) (get_or w i 0)) e in
        sym (ap not (eq-eqb _ _ a))
    go i h false e b f =
        let a : get_or (adopted marks w c) i 0 ≡ get_or w i 0 = adopted-at marks w c i h ∙ ap (λ (x : Bool). cond x (get_or c i 0) (get_or w i 0)) e in
        ap not (sym f ∙ ap (λ (x : ℕ). eqb x (get_or c i 0)) (sym a))

pub adopted-close : (marks b c : List ℕ) → distance b c ≤ length marks + distance (adopted marks b c) c
adopted-close [] b c = omega arith
adopted-close (i ∷ marks) b c =
    let p : distance b c ≤ suc (distance (set b i (get_or c i 0)) c) = distance-set b c i (get_or c i 0) in
    let q : distance (set b i (get_or c i 0)) c ≤ length marks + distance (adopted marks (set b i (get_or c i 0)) c) c = adopted-close marks (set b i (get_or c i 0)) c in
    omega arith

-- ---- at most one code word within reach

unequal : (b : Bool) → count b 0 ≡ one (not b)
unequal true = refl
unequal false = refl

triangle-test : (m : Bool) (x y z : ℕ) → one (not (m || eqb y z)) ≤ one (not (m || eqb x y)) + one (not (m || eqb x z))
triangle-test true x y z = omega arith
triangle-test false x y z = rw (← unequal (eqb y z), ← unequal (eqb x y), ← unequal (eqb x z)) (triangle-step x y z 0 0 0 (omega arith))

pub unmarked-triangle : (marks w b c : List ℕ) → length b ≡ length w → unmarked_distance marks b c ≤ unmarked_distance marks w b + unmarked_distance marks w c
unfolding unmarked_distance
unmarked-triangle marks w b c l =
    rw l (keep-sum (λ i. not (is_marked marks i || eqb (get_or b i 0) (get_or c i 0))) (λ i. not (is_marked marks i || eqb (get_or w i 0) (get_or b i 0)))
    (λ i. not (is_marked marks i || eqb (get_or w i 0) (get_or c i 0))) (length w) (λ i h. triangle-test (is_marked marks i) (get_or w i 0) (get_or b i 0) (get_or c i 0)))

-- c is a code word that differs from w in at most h unmarked bytes
pub record Reached (marks : List ℕ) (h : ℕ) (w c : List ℕ) : Type 0 where
  pub right : is_code_word c ≡ true
  pub close : unmarked_distance marks w c ≤ h
  pub long : length c ≡ length w
  pub bytes : All (λ x. x < 256) c

-- one code word at most differs in so few
pub reached-only : (marks w b c : List ℕ) (g h : ℕ) → length w ≡ 96 → g + h + length marks ≤ 8 → Reached marks g w b → Reached marks h w c → b ≡ c
reached-only marks w b c g h l few m n =
    let lb : length b ≡ length w = m.long in
    let lc : length c ≡ length w = n.long in
    let t : unmarked_distance marks b c ≤ unmarked_distance marks w b + unmarked_distance marks w c = unmarked-triangle marks w b c lb in
    let e : unmarked_distance marks b c ≡ distance (adopted marks b c) c = unmarked-adopted marks b c (lc ∙ sym lb) in
    let d : distance b c ≤ length marks + distance (adopted marks b c) c = adopted-close marks b c in
    code-words-apart b c (lb ∙ l) (lc ∙ l) m.bytes n.bytes m.right n.right (omega (arith, m.close, n.close))

module _ (marks : List ℕ) (few : length marks ≤ 8) (w c : List ℕ) where
  pub within-reached : Within marks w c → Reached marks (spare marks) w c
  within-reached n = record { right = n.right; close = omega (arith, n.close); long = n.long; bytes = n.bytes }

  pub reached-within : Reached marks (spare marks) w c → Within marks w c
  reached-within n = record { right = n.right; close = omega (arith, n.close); long = n.long; bytes = n.bytes }

pub within-only : (marks w b c : List ℕ) → length w ≡ 96 → Within marks w b → Within marks w c → b ≡ c
within-only marks w b c l m n =
    let few : length marks ≤ 8 = omega (arith, m.close) in
    reached-only marks w b c (spare marks) (spare marks) l (omega arith) (within-reached marks few w b m) (within-reached marks few w c n)

-- where twice the differing unmarked bytes plus the marks is nine for one code word, none is within reach
pub nine-beyond : (marks w c : List ℕ) → length w ≡ 96 → Reached marks (unmarked_distance marks w c) w c → 2 * unmarked_distance marks w c + length marks ≡ 9
    → (b : List ℕ) → ¬ Within marks w b
nine-beyond marks w c l r nine b n =
    let few : length marks ≤ 8 = omega (arith, n.close) in
    let m : Reached marks (spare marks) w b = within-reached marks few w b n in
    let e : b ≡ c = reached-only marks w b c (spare marks) (unmarked_distance marks w c) l (omega arith) m r in
    let d : unmarked_distance marks w c ≤ spare marks = subst (λ (u : List ℕ). unmarked_distance marks w u ≤ spare marks) e m.close in
    omega arith

-- ---- the search finds it

unmarked-set : (i : ℕ) (marks w c : List ℕ) (v : ℕ) → unmarked_distance (i ∷ marks) w c ≤ unmarked_distance marks (set w i v) c
unfolding unmarked_distance
unmarked-set i marks w c v =
    subst (λ (n : ℕ). length (keep (λ j. not (is_marked (i ∷ marks) j || eqb (get_or w j 0) (get_or c j 0))) (below (length w)))
    ≤ length (keep (λ j. not (is_marked marks j || eqb (get_or (set w i v) j 0) (get_or c j 0))) (below n))) (sym (length-set w i v))
    (keep-le (λ j. not (is_marked (i ∷ marks) j || eqb (get_or w j 0) (get_or c j 0))) (λ j. not (is_marked marks j || eqb (get_or (set w i v) j 0) (get_or c j 0))) (length w)
    (λ j l. go j (eqb i j) refl))
  where
    go : (j : ℕ) (b : Bool) → eqb i j ≡ b → one (not (b || is_marked marks j || eqb (get_or w j 0) (get_or c j 0))) ≤ one (not (is_marked marks j || eqb (get_or (set w i v) j 0) (get_or c j 0)))
    go j true e = omega arith
    go j false e = let q : get_or (set w i v) j 0 ≡ get_or w j 0 = get_or-set_other w i j v 0 (λ p. eqb-false i j e (sym p)) in rw q (omega arith)

pub marks-sound : (marks : List ℕ) (h : ℕ) (w c : List ℕ) → All (λ x. x < 256) w → at_marks marks (λ u. near h u) w ≡ some c → Reached marks h w c
marks-sound [] h w c a e =
    let n : Near h w c = near-sound h w c a e in
    let q : unmarked_distance [] w c ≡ distance w c = unmarked-adopted [] w c n.long in
    let d : distance w c ≤ h = n.close in
    record { right = n.right; close = omega arith; long = n.long; bytes = n.bytes }
marks-sound (i ∷ marks) h w c a e =
    place-hit (Reached (i ∷ marks) h w) (λ u. at_marks marks (λ u. near h u) u) w i 256
    (λ v b d p. (let n : Reached marks h (set w i v) d = marks-sound marks h (set w i v) d (all_set 256 w i v b a) p in
    let m : unmarked_distance (i ∷ marks) w d ≤ unmarked_distance marks (set w i v) d = unmarked-set i marks w d v in
    let k : unmarked_distance marks (set w i v) d ≤ h = n.close in
    record { right = n.right; close = omega arith; long = n.long ∙ length-set w i v; bytes = n.bytes }))
    c e

marks-none : (marks : List ℕ) (f : List ℕ → Option (List ℕ)) (w c : List ℕ) → All (λ x. x < 256) c → at_marks marks f w ≡ none → f (adopted marks w c) ≡ none
marks-none [] f w c b e = e
marks-none (i ∷ marks) f w c b e =
    marks-none marks f (set w i (get_or c i 0)) c b (place_none (λ u. at_marks marks f u) w i 256 e (get_or c i 0) (all-bytes c b i))

pub marks-complete : (marks : List ℕ) (h : ℕ) (w c : List ℕ) → at_marks marks (λ u. near h u) w ≡ none → Reached marks h w c → ⊥
marks-complete marks h w c e n =
    let q : unmarked_distance marks w c ≡ distance (adopted marks w c) c = unmarked-adopted marks w c n.long in
    let d : unmarked_distance marks w c ≤ h = n.close in
    near-complete h (adopted marks w c) c (marks-none marks (λ u. near h u) w c n.bytes e)
    (record { right = n.right; close = omega arith; long = n.long ∙ sym (adopted-length marks w c); bytes = n.bytes })

pub unmarked-self : (marks w : List ℕ) → unmarked_distance marks w w ≡ 0
unfolding unmarked_distance
unmarked-self marks w = keep-none (λ i. not (is_marked marks i || eqb (get_or w i 0) (get_or w i 0))) (length w) (λ i l. at (is_marked marks i) (get_or w i 0))
  where
    at : (m : Bool) (x : ℕ) → not (m || eqb x x) ≡ false
    at true x = refl
    at false x = ap not (eq-eqb x x refl)

module _ (marks : List ℕ) (few : length marks ≤ 8) (w : List ℕ) (l : length w ≡ 96) (a : All (λ x. x < 256) w) where
  -- the corrected header is a code word within reach
  pub with-within : (c : List ℕ) → corrected_with marks w ≡ some c → Within marks w c
  unfolding corrected_with
  with-within c e = reached-within marks few w c (marks-sound marks (spare marks) w c a e)

  -- a code word within reach is the corrected header
  pub with-some : (c : List ℕ) → Within marks w c → corrected_with marks w ≡ some c
  unfolding corrected_with
  with-some c n = go (corrected_with marks w) refl
    where
      go : (o : Option (List ℕ)) → corrected_with marks w ≡ o → o ≡ some c
      go none e = absurd (marks-complete marks (spare marks) w c e (within-reached marks few w c n))
      go (some b) e = ap some (within-only marks w b c l (with-within b e) n)

  -- there is none exactly when no code word is within reach
  pub with_none : ((c : List ℕ) → Within marks w c → ⊥) → corrected_with marks w ≡ none
  with_none n = go (corrected_with marks w) refl
    where
      go : (o : Option (List ℕ)) → corrected_with marks w ≡ o → o ≡ none
      go none e = refl
      go (some b) e = absurd (n b (with-within b e))

  -- where the candidate is a code word within reach, it is the corrected header, and there is none where it is not
  pub candidate-some : (r : List ℕ) → CandidateWith marks w r → is_code_word r ≡ true → unmarked_distance marks w r ≤ spare marks → corrected_with marks w ≡ some r
  candidate-some r k g d = with-some r (reached-within marks few w r (record { right = g; close = d; long = k.long ∙ sym l; bytes = k.bytes }))

  pub candidate-none : (r : List ℕ) → CandidateWith marks w r → (is_code_word r ≡ true → unmarked_distance marks w r ≤ spare marks → ⊥) → corrected_with marks w ≡ none
  candidate-none r k bad =
      with_none (λ c n. (let e : r ≡ c = k.only c n in
      bad (ap is_code_word e ∙ n.right) (subst (λ (u : List ℕ). unmarked_distance marks w u ≤ spare marks) (sym e) (within-reached marks few w c n).close)))

  -- a code word is its own corrected header
  pub with-self : is_code_word w ≡ true → corrected_with marks w ≡ some w
  with-self e =
      let z : unmarked_distance marks w w ≡ 0 = unmarked-self marks w in
      with-some w (record { right = e; close = omega arith; long = refl; bytes = a })
