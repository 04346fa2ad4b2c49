-- Document 01, "Control word": locators begin at byte 14. A width is 12 or 16 bits; any other is read as 12.
use Rattle.std.specs.Prelude.{cond, List, [], ◌∷◌, ℕ, ◌+◌, ◌*◌, ◌%◌, ◌/◌, eqb, get_or}

-- 16 bits: low byte first
unfoldable pub bytes16 : List ℕ → List ℕ
bytes16 [] = []
bytes16 (a ∷ ls) = a % 256 ∷ a / 256 % 256 ∷ bytes16 ls

-- 12 bits: a pair takes three bytes: low eight bits of the first; its top four in bits 3-0 with the second's low four in
-- 7-4; the second's top eight. An odd last one leaves four bits: written zero
unfoldable pub bytes12 : List ℕ → List ℕ
bytes12 [] = []
bytes12 (a ∷ []) = a % 256 ∷ a / 256 % 16 ∷ []
bytes12 (a ∷ b ∷ ls) = a % 256 ∷ (a / 256 % 16 + 16 * (b % 16)) ∷ b / 16 % 256 ∷ bytes12 ls

abbrev pub locator_bytes : ℕ → List ℕ → List ℕ
locator_bytes width ls = cond (eqb width 16) (bytes16 ls) (bytes12 ls)

-- how many bytes n locators take, rounded up
abbrev pub locator_size : ℕ → ℕ → ℕ
locator_size width n = cond (eqb width 16) ((16 * n + 7) / 8) ((12 * n + 7) / 8)

-- locator k of a PDU, k from 0
unfoldable pub locator16 : List ℕ → ℕ → ℕ
locator16 p k = get_or p (14 + 2 * k) 0 + 256 * get_or p (15 + 2 * k) 0

unfoldable pub locator12 : List ℕ → ℕ → ℕ
locator12 p k =
    cond (eqb (k % 2) 0)
    (get_or p (14 + 3 * (k / 2)) 0 + 256 * (get_or p (15 + 3 * (k / 2)) 0 % 16))
    (get_or p (15 + 3 * (k / 2)) 0 / 16 + 16 * get_or p (16 + 3 * (k / 2)) 0)

abbrev pub locator_at : ℕ → List ℕ → ℕ → ℕ
locator_at width p k = cond (eqb width 16) (locator16 p k) (locator12 p k)
