-- Reading the locators that were written gives them, and they take the bytes counted.
use mathlib.Core.Path.{◌≡◌, refl, ap, ap₂, ◌∙◌}
use mathlib.Core.Bool.{Bool, true, false, cond}
use mathlib.Core.List.{List, [], ◌∷◌, ◌++◌}
use Prim.Native.Nat.{ℕ, zero, suc, ◌+◌, ◌*◌, ◌%◌, ◌/◌, ◌<◌, ◌≤◌}
use native.Mathlib.Omega.{arith}
use lib.Dec.{eqb}
use borrow.Author.Tests.{eq-eqb}
use lib.ListN.{length, get_or}
use Rattle.layout.specs.Locators.{bytes16, bytes12, locator_bytes, locator_size, locator16, locator12, locator_at}

-- a byte after the first 14
after : (pre q : List ℕ) (n j : ℕ) → length pre ≡ n → get_or (pre ++ q) (n + j) 0 ≡ get_or q j 0
after [] q n j e = ap (λ (k : ℕ). get_or q k 0) (omega arith)
after (x ∷ pre) q zero j e = absurd (omega arith)
after (x ∷ pre) q (suc n) j e = let s : suc n + j ≡ suc (n + j) = omega arith in rw s (after pre q n j (omega arith))

pair16 : (ls rest : List ℕ) (k : ℕ) → k < length ls → get_or ls k 0 < 65536
    → get_or (bytes16 ls ++ rest) (2 * k) 0 + 256 * get_or (bytes16 ls ++ rest) (1 + 2 * k) 0 ≡ get_or ls k 0
unfolding bytes16
pair16 [] rest k h l = absurd (omega arith)
pair16 (a ∷ ls) rest zero h l = let e : a % 256 + 256 * (a / 256 % 256) ≡ a = omega arith in e
pair16 (a ∷ ls) rest (suc k) h l =
    let e : 2 * suc k ≡ suc (suc (2 * k)) = omega arith in
    let f : 1 + 2 * suc k ≡ suc (suc (1 + 2 * k)) = omega arith in
    rw (f, e) (pair16 ls rest k (omega arith) l)

-- locator k of bytes that begin with the locators
from12 : List ℕ → ℕ → ℕ
from12 q k =
    cond (eqb (k % 2) 0) (get_or q (3 * (k / 2)) 0 + 256 * (get_or q (1 + 3 * (k / 2)) 0 % 16)) (get_or q (1 + 3 * (k / 2)) 0 / 16 + 16 * get_or q (2 + 3 * (k / 2)) 0)

pair12 : (ls rest : List ℕ) (k : ℕ) → k < length ls → get_or ls k 0 < 4096 → from12 (bytes12 ls ++ rest) k ≡ get_or ls k 0
unfolding bytes12 from12
pair12 [] rest k h l = absurd (omega arith)
pair12 (a ∷ []) rest zero h l = let e : a % 256 + 256 * (a / 256 % 16 % 16) ≡ a = omega arith in e
pair12 (a ∷ []) rest (suc k) h l = absurd (omega arith)
pair12 (a ∷ b ∷ ls) rest zero h l =
    let d : (a / 256 % 16 + 16 * (b % 16)) % 16 ≡ a / 256 = omega arith in
    let e : a % 256 + 256 * (a / 256) ≡ a = omega arith in
    rw d e
pair12 (a ∷ b ∷ ls) rest (suc zero) h l =
    let d : (a / 256 % 16 + 16 * (b % 16)) / 16 ≡ b % 16 = omega arith in
    let e : b % 16 + 16 * (b / 16 % 256) ≡ b = omega arith in
    rw d e
pair12 (a ∷ b ∷ ls) rest (suc (suc k)) h l =
    let m : suc (suc k) % 2 ≡ k % 2 = omega arith in
    let d : suc (suc k) / 2 ≡ suc (k / 2) = omega arith in
    let e : 3 * suc (k / 2) ≡ suc (suc (suc (3 * (k / 2)))) = omega arith in
    let f : 1 + suc (suc (suc (3 * (k / 2)))) ≡ suc (suc (suc (1 + 3 * (k / 2)))) = omega arith in
    let g : 2 + suc (suc (suc (3 * (k / 2)))) ≡ suc (suc (suc (2 + 3 * (k / 2)))) = omega arith in
    rw (m, d, e, f, g) (pair12 ls rest k (omega arith) l)

-- what a width can hold
abbrev pub roof : ℕ → ℕ
roof width = cond (eqb width 16) 65536 4096

-- with 14 bytes before the locators' bytes and anything behind them, each is read as it was written
module _ (pre ls rest : List ℕ) (long : length pre ≡ 14) (k : ℕ) (inside : k < length ls) where
  law16 : get_or ls k 0 < 65536 → locator16 (pre ++ (bytes16 ls ++ rest)) k ≡ get_or ls k 0
  unfolding locator16
  law16 fits =
      let e : 15 + 2 * k ≡ 14 + (1 + 2 * k) = omega arith in
      rw e
      (ap₂ (λ (x y : ℕ). x + 256 * y) (after pre (bytes16 ls ++ rest) 14 (2 * k) long) (after pre (bytes16 ls ++ rest) 14 (1 + 2 * k) long)
      ∙ pair16 ls rest k inside fits)

  read12 : (q : List ℕ) → locator12 (pre ++ q) k ≡ from12 q k
  unfolding locator12 from12
  read12 q =
      let e : 15 + 3 * (k / 2) ≡ 14 + (1 + 3 * (k / 2)) = omega arith in
      let f : 16 + 3 * (k / 2) ≡ 14 + (2 + 3 * (k / 2)) = omega arith in
      let x : get_or (pre ++ q) (14 + 3 * (k / 2)) 0 ≡ get_or q (3 * (k / 2)) 0 = after pre q 14 (3 * (k / 2)) long in
      let y : get_or (pre ++ q) (15 + 3 * (k / 2)) 0 ≡ get_or q (1 + 3 * (k / 2)) 0 = rw e (after pre q 14 (1 + 3 * (k / 2)) long) in
      let z : get_or (pre ++ q) (16 + 3 * (k / 2)) 0 ≡ get_or q (2 + 3 * (k / 2)) 0 = rw f (after pre q 14 (2 + 3 * (k / 2)) long) in
      rw (x, y, z)

  law12 : get_or ls k 0 < 4096 → locator12 (pre ++ (bytes12 ls ++ rest)) k ≡ get_or ls k 0
  law12 fits = read12 (bytes12 ls ++ rest) ∙ pair12 ls rest k inside fits

  pub locator-law : (width : ℕ) → get_or ls k 0 < roof width → locator_at width (pre ++ (locator_bytes width ls ++ rest)) k ≡ get_or ls k 0
  locator-law width = go (eqb width 16)
    where
      go : (b : Bool) → get_or ls k 0 < cond b 65536 4096
          → cond b (locator16 (pre ++ (cond b (bytes16 ls) (bytes12 ls) ++ rest)) k) (locator12 (pre ++ (cond b (bytes16 ls) (bytes12 ls) ++ rest)) k) ≡ get_or ls k 0
      go true fits = law16 fits
      go false fits = law12 fits

-- the four bits that an odd last locator of 12 bits leaves are ignored: bits 7-4 of its second byte
pub spare-bits-ignored : (p q : List ℕ) (k : ℕ) → k % 2 ≡ 0 → get_or p (14 + 3 * (k / 2)) 0 ≡ get_or q (14 + 3 * (k / 2)) 0
    → get_or p (15 + 3 * (k / 2)) 0 % 16 ≡ get_or q (15 + 3 * (k / 2)) 0 % 16 → locator12 p k ≡ locator12 q k
unfolding locator12
spare-bits-ignored p q k e x y = let t : eqb (k % 2) 0 ≡ true = eq-eqb _ _ e in rw (t, x, y)

-- the bytes counted
length16 : (ls : List ℕ) → length (bytes16 ls) ≡ (16 * length ls + 7) / 8
unfolding bytes16
length16 [] = refl
length16 (a ∷ ls) = let h = length16 ls in omega arith

length12 : (ls : List ℕ) → length (bytes12 ls) ≡ (12 * length ls + 7) / 8
unfolding bytes12
length12 [] = refl
length12 (a ∷ []) = refl
length12 (a ∷ b ∷ ls) = let h = length12 ls in omega arith

pub length-locators : (width : ℕ) (ls : List ℕ) → length (locator_bytes width ls) ≡ locator_size width (length ls)
length-locators width ls = go (eqb width 16)
  where
    go : (b : Bool) → length (cond b (bytes16 ls) (bytes12 ls)) ≡ cond b ((16 * length ls + 7) / 8) ((12 * length ls + 7) / 8)
    go true = length16 ls
    go false = length12 ls

-- more locators take no fewer bytes
pub size-grows : (width j k : ℕ) → j ≤ k → locator_size width j ≤ locator_size width k
size-grows width j k h = go (eqb width 16)
  where
    go : (b : Bool) → cond b ((16 * j + 7) / 8) ((12 * j + 7) / 8) ≤ cond b ((16 * k + 7) / 8) ((12 * k + 7) / 8)
    go true = omega arith
    go false = omega arith
