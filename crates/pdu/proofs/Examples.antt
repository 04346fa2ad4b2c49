-- Wrong locators, and counts of pieces, computed: locators of 16 bits, in PDUs of mode 0.
use mathlib.Core.Path.{◌≡◌, refl}
use mathlib.Core.Bool.{true, false}
use mathlib.Core.List.{List, [], ◌∷◌, ◌++◌}
use Prim.Native.Nat.{ℕ, ◌+◌, ◌*◌}
use lib.Dec.{ltb}
use lib.ListN.{take, replicate}
use Rattle.modes.specs.Modes.{listing}
use Rattle.layout.specs.Control.{control_of, control_at}
use Rattle.layout.specs.Locators.{bytes16, locator16}
use Rattle.pieces.specs.Pieces.{locators_from}
use Rattle.pdu.specs.Reading.{wrong_locator, any_below, lowest_below, judged, width_of, wrong_of}

-- NOP 3, La 19
abbrev three : ℕ → ℕ → ℕ → List ℕ
three a b c = replicate 12 0 ++ (6 ∷ 19 ∷ a ∷ 0 ∷ b ∷ 0 ∷ c ∷ 0 ∷ []) ++ replicate 76 0

-- 100, 30 and 40: the second is judged from 100, as sent
pub from-100 : wrong_locator 16 (control_at (three 100 30 40)) (three 100 30 40) 1 ≡ true
unfolding wrong_locator control_of locator16
from-100 = refl

-- and the third from 30
pub from-30 : wrong_locator 16 (control_at (three 100 30 40)) (three 100 30 40) 2 ≡ false
unfolding wrong_locator control_of locator16
from-30 = refl

-- of two that pass, the smaller
pub one_of_two : lowest_below 3 (λ k. ltb 0 k) ≡ 1
unfolding lowest_below
one_of_two = refl

-- 50, 30 and 60: the second alone is wrong, and comes with 11
pub second-alone : (judged (three 50 30 60) ≡ 11) × (wrong_of (three 50 30 60) 11 ≡ 1)
unfolding listing judged width_of wrong_of wrong_locator any_below lowest_below control_of locator16
second-alone = (refl, refl)

-- ---- any count of pieces (document 02, Ask 9)

-- n pieces of one byte
abbrev pieces : ℕ → List ℕ
pieces n = replicate 12 0 ++ ((2 * n) ∷ (13 + 2 * n) ∷ bytes16 (locators_from (14 + 2 * n) (replicate n 1))) ++ replicate (2 * n) 0

pub forty-two : judged (pieces 42) ≡ 0
unfolding listing judged wrong_locator any_below control_of bytes16 locator16 locators_from
forty-two = refl

pub sixty-three : judged (pieces 63) ≡ 0
unfolding listing judged wrong_locator any_below control_of bytes16 locator16 locators_from
sixty-three = refl

-- 63 in 96 bytes: 9 is judged before a locator is looked at, and all of these are wrong
pub cut_off : judged (take 96 (pieces 63)) ≡ 9
unfolding listing judged wrong_locator any_below control_of bytes16 locator16 locators_from
cut_off = refl
