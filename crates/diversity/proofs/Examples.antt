-- Two copies, computed.
use mathlib.Core.Path.{◌≡◌, refl, ap}
use mathlib.Core.Bool.{true, false}
use mathlib.Core.List.{List, [], ◌∷◌, ◌++◌}
use Prim.Native.Nat.{ℕ}
use lib.ListN.{replicate}
use denote.Ref.{Bor}
use Rattle.crc.specs.Crc.{crc_from, crc_byte, crc_bits, crc_bit}
use Rattle.modes.specs.Modes.{listing}
use Rattle.layout.specs.Control.{control_of, control_at}
use Rattle.layout.specs.Locators.{locator16}
use Rattle.correction.specs.declared.Correction.TheVariants.{Corrected, Refused}
use Rattle.pdu.specs.Reading.{wrong_locator, lowest_below, width_of}
use Rattle.reassembly.specs.Reassembly.{Piece, nothing, dropped, piece_step}
use Rattle.packet_log.specs.Log.{same_list}
use Rattle.diversity.specs.Diversity.{neither, the_first, the_second, better, Chosen, pair_piece, pair_pieces, lower, wrong_in_pair, differ}

-- ---- the better copy

-- equal: the first
pub equal-first : better (Corrected 2) (Corrected 2) ≡ the_first
equal-first = refl

pub fewer-second : better (Corrected 3) (Corrected 1) ≡ the_second
fewer-second = refl

-- of a refused length, and corrected in four bytes
pub other-second : better (Refused 3) (Corrected 4) ≡ the_second
other-second = refl

pub none-neither : better (Refused 3) (Refused 4) ≡ neither
none-neither = refl

-- the chosen buffer has the bytes that it had, corrected or not
pub not-corrected : (first second r : Bor (List ℕ)) → Chosen the_first first second r → r.now ≡ first.now
not-corrected first second r e = ap (λ (x : Bor (List ℕ)). x.now) e

-- ---- pieces

-- NOP 2, La 17, pieces of one byte: a with the CRC c, and b with the CRC d
abbrev two : ℕ → ℕ → ℕ → ℕ → List ℕ
two a c b d = replicate 12 0 ++ (4 ∷ 17 ∷ 19 ∷ 0 ∷ 21 ∷ 0 ∷ a ∷ c ∷ b ∷ d ∷ [])

abbrev pieces : List ℕ → List ℕ → List Piece
pieces y z = pair_pieces 0 16 (control_at y) y z 0 2

-- the CRC of 1 is 49, that of 128 is 122. One piece is wrong in the first, the other in the second: both are taken, each from its own copy
pub each-from-one : pieces (two 1 48 128 122) (two 1 49 128 121) ≡ record { cause = 0; bytes = 1 ∷ [] } ∷ record { cause = 0; bytes = 128 ∷ [] } ∷ []
unfolding pair_pieces same_list control_of locator16 crc_from crc_byte crc_bits crc_bit
each-from-one = refl

-- both wrong and alike: a wrong CRC
pub both-wrong : pieces (two 1 48 128 122) (two 1 48 128 122) ≡ record { cause = 2; bytes = 1 ∷ [] } ∷ record { cause = 0; bytes = 128 ∷ [] } ∷ []
unfolding pair_pieces same_list control_of locator16 crc_from crc_byte crc_bits crc_bit
both-wrong = refl

-- both right and different: 7
pub both_right : pieces (two 1 49 128 122) (two 128 122 128 122) ≡ record { cause = 7; bytes = 1 ∷ [] } ∷ record { cause = 0; bytes = 128 ∷ [] } ∷ []
unfolding pair_pieces same_list control_of locator16 crc_from crc_byte crc_bits crc_bit
both_right = refl

-- which is noted where 2 would be: before 3, for a piece that continues nothing
pub before-three : piece_step 5 0 true true nothing (pair_piece (record { cause = 0; bytes = 1 ∷ [] }) (record { cause = 0; bytes = 2 ∷ [] })) ≡ dropped 7 0
unfolding same_list piece_step
before-three = refl

-- ---- rows

-- 12 in the first and 7 in the second: 7; 6 in the first alone: 6
pub seven : lower 12 7 ≡ 7
seven = refl

pub six : lower 6 0 ≡ 6
six = refl

-- La 15, parity a, an expansion byte b before La, and c after it
abbrev front : ℕ → ℕ → ℕ → List ℕ
front a b c = replicate 8 a ++ (0 ∷ 0 ∷ 0 ∷ 0 ∷ 0 ∷ 15 ∷ 7 ∷ b ∷ c ∷ [])

-- parity and bytes after La may differ
pub parity-ignored : differ (front 1 9 5) (front 2 9 6) ≡ false
unfolding differ same_list control_of
parity-ignored = refl

-- a byte before La may not, nor the length
pub byte-differs : differ (front 1 9 5) (front 1 8 5) ≡ true
unfolding differ same_list control_of
byte-differs = refl

pub length-differs : differ (front 1 9 5) (front 1 9 5 ++ (0 ∷ [])) ≡ true
unfolding differ same_list control_of
length-differs = refl

-- NOP 3, La 19, 16 bits: locators 50, 30 and 60, of which the second is wrong, and 10, 50 and 60, of which the first is
abbrev three : ℕ → ℕ → ℕ → List ℕ
three a b c = replicate 12 0 ++ (6 ∷ 19 ∷ a ∷ 0 ∷ b ∷ 0 ∷ c ∷ 0 ∷ []) ++ replicate 76 0

pub lowest-of-second : wrong_in_pair (three 50 30 60) (three 10 50 60) 11 ≡ 0
unfolding wrong_in_pair listing width_of wrong_locator lowest_below control_of locator16
lowest-of-second = refl

-- no pieces, and so none wrong, in the second
pub none-in-second : wrong_in_pair (three 50 30 60) (replicate 13 0 ++ (13 ∷ []) ++ replicate 82 0) 11 ≡ 1
unfolding wrong_in_pair listing width_of wrong_locator lowest_below control_of locator16
none-in-second = refl
