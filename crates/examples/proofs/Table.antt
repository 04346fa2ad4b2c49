-- The table of examples holds.
use mathlib.Core.Path.{◌≡◌, refl, sym, ◌∙◌, ap, ap₂}
use mathlib.Core.Bool.{Bool, true, false}
use mathlib.Core.List.{List, [], ◌∷◌, ◌++◌, map}
use mathlib.Core.Option.{some}
use Prim.Native.Nat.{ℕ, zero, suc, ◌+◌, ◌*◌, ◌<◌, ◌≤◌}
use native.Mathlib.Decide.{dec_lt}
use native.Mathlib.Omega.{arith}
use lib.Bits.{bit_xor}
use lib.Dec.{eqb, eqb→eq, ltb, ltb→lt, lit<}
use borrow.Author.Tests.{eq-eqb}
use lib.ListN.{length, get_or, replicate, get_or-replicate, get_or-eq_default}
use Rattle.bits.proofs.Computed.{below, at}
use Rattle.field.specs.Field.{times_a, mul, shift, pow}
use Rattle.field.proofs.Laws.{mul-zero-l}
use Rattle.algebra.specs.Places.{All}
use Rattle.layout.specs.Control.{control_bytes}
use Rattle.layout.specs.Locators.{bytes16, bytes12}
use Rattle.modes.specs.Modes.{listing}
use Rattle.expansion.specs.Expansion.{chained}
use Rattle.expansion.specs.Writing.{expansion_bytes}
use Rattle.settings.specs.Settings.{fields_for}
use Rattle.pieces.specs.Pieces.{cut_by, locators_from, total}
use Rattle.packing.specs.Packing.{largest_up_to, most_pieces, fit, wholes_from, part_after, part_from}
use Rattle.writer.specs.Writing.{writer_opened, write_answer}
use Rattle.crc.proofs.Examples as crc
use Rattle.packet_log.proofs.Examples as log
use Rattle.header.specs.Header.{sum_up, term, syndrome, is_code_word, distance, exponents, length_refusal}
use Rattle.header.proofs.CodeWords.{Bytes, zero-code-word}
use Rattle.header.proofs.Distances.{count, count-le, distance_self}
use Rattle.header.specs.Horner.{value}
use Rattle.header.proofs.Division.{syndrome-value}
use Rattle.header.proofs.Unique.{bytes-all}
use Rattle.correction.specs.Correction.{corrected}
use Rattle.correction.proofs.Decoding.{corrected-some}
use Rattle.examples.specs.Examples.{generator_word, zeroing, chosen, Examples}

-- ---- (g): the generator is a code word, by its values at a to a^8

byte-test : ℕ → ℕ → Bool
byte-test i x = ltb x 256

generator-length : length generator_word ≡ 96
unfolding generator_word
generator-length = refl

generator-inside : (i : ℕ) → i < 96 → get_or generator_word i 0 < 256
unfolding generator_word byte-test pow shift times_a
generator-inside i h = ltb→lt (get_or generator_word i 0) 256 (at byte-test generator_word tt i h)

generator-bytes : Bytes generator_word
generator-bytes i = go (dec_lt i 96)
  where
    go : Dec (i < 96) → get_or generator_word i 0 < 256
    go (yes h) = generator-inside i h
    go (no h) =
        let l : length generator_word ≤ i = omega (arith, generator-length) in
        let e : get_or generator_word i 0 ≡ 0 = get_or-eq_default generator_word 0 l in
        omega arith

value-test : ℕ → Bool
value-test j = eqb (value (suc j) generator_word) 0

generator-syndromes : (j : ℕ) → j < 8 → syndrome (suc j) generator_word ≡ 0
unfolding value-test generator_word value pow shift times_a
generator-syndromes j h =
    syndrome-value (suc j) generator_word generator-length generator-bytes ∙ eqb→eq (value (suc j) generator_word) 0 (below value-test 8 tt j h)

generator-code-word : is_code_word generator_word ≡ true
generator-code-word = zero-code-word generator_word generator-syndromes

-- ---- words with some bytes zeroed

length-zeroing : (choice : List Bool) (w : List ℕ) → length (zeroing choice w) ≡ length w
length-zeroing [] w = refl
length-zeroing (true ∷ choice) [] = refl
length-zeroing (false ∷ choice) [] = refl
length-zeroing (true ∷ choice) (x ∷ w) = ap suc (length-zeroing choice w)
length-zeroing (false ∷ choice) (x ∷ w) = ap suc (length-zeroing choice w)

bytes-zeroing : (choice : List Bool) (w : List ℕ) → All (λ x. x < 256) w → All (λ x. x < 256) (zeroing choice w)
bytes-zeroing [] w a = a
bytes-zeroing (true ∷ choice) [] a = a
bytes-zeroing (false ∷ choice) [] a = a
bytes-zeroing (true ∷ choice) (x ∷ w) a = (lit< tt, bytes-zeroing choice w a.1)
bytes-zeroing (false ∷ choice) (x ∷ w) a = (a.0, bytes-zeroing choice w a.1)

-- as many bytes differ as are zeroed, at the most
distance-zeroed : (choice : List Bool) (w : List ℕ) → distance (zeroing choice w) w ≤ chosen choice
unfolding distance
distance-zeroed [] w = let z : distance w w ≡ 0 = distance_self w in omega arith
distance-zeroed (true ∷ choice) [] = omega arith
distance-zeroed (false ∷ choice) [] = omega arith
distance-zeroed (true ∷ choice) (x ∷ w) = count-le (eqb 0 x) _ _ (distance-zeroed choice w)
distance-zeroed (false ∷ choice) (x ∷ w) = rw (eq-eqb x x refl) (distance-zeroed choice w)

-- and from all zero, as many as are not
distance-zero-word : (choice : List Bool) (u m : List ℕ) → length choice ≡ length u
    → distance (zeroing choice (u ++ m)) (replicate (length u) 0 ++ m) + chosen choice ≤ length u
unfolding distance
distance-zero-word [] [] m l = let z : distance m m ≡ 0 = distance_self m in omega arith
distance-zero-word [] (x ∷ u) m l = absurd (omega arith)
distance-zero-word (b ∷ choice) [] m l = absurd (omega arith)
distance-zero-word (true ∷ choice) (x ∷ u) m l = let r : distance (zeroing choice (u ++ m)) (replicate (length u) 0 ++ m) + chosen choice ≤ length u = distance-zero-word choice u m (omega arith) in omega arith
distance-zero-word (false ∷ choice) (x ∷ u) m l =
    let r : distance (zeroing choice (u ++ m)) (replicate (length u) 0 ++ m) + chosen choice ≤ length u = distance-zero-word choice u m (omega arith) in
    let c : count (eqb x 0) (distance (zeroing choice (u ++ m)) (replicate (length u) 0 ++ m)) ≤ suc (distance (zeroing choice (u ++ m)) (replicate (length u) 0 ++ m)) = count-le (eqb x 0) _ _ (omega arith) in
    omega arith

-- ---- the word of zeros

abbrev zeros : List ℕ
zeros = replicate 96 0

zero-at : (n : ℕ) → get_or zeros n 0 ≡ 0
zero-at n = go (dec_lt n 96)
  where
    go : Dec (n < 96) → get_or zeros n 0 ≡ 0
    go (yes h) = get_or-replicate 96 n 0 0 h
    go (no h) = let l : length zeros ≤ n = omega arith in get_or-eq_default zeros 0 l

zero-sum : (j n : ℕ) → sum_up (term j zeros) n ≡ 0
unfolding sum_up term
zero-sum j zero = refl
zero-sum j (suc n) = ap₂ bit_xor (zero-sum j n) (ap (λ (x : ℕ). mul x (pow (n * j))) (zero-at n) ∙ mul-zero-l (pow (n * j)))

zero-code-word-96 : is_code_word zeros ≡ true
unfolding syndrome
zero-code-word-96 = zero-code-word zeros (λ j h. zero-sum (suc j) 96)

zero-bytes : (n : ℕ) → All (λ x. x < 256) (replicate n 0)
zero-bytes zero = tt
zero-bytes (suc n) = (lit< tt, zero-bytes n)

-- ---- the table

module _ (choice : List Bool) (l : length choice ≡ 9) where
  zeroed-length : length (zeroing choice generator_word) ≡ 96
  zeroed-length = length-zeroing choice generator_word ∙ generator-length

  zeroed-bytes : All (λ x. x < 256) (zeroing choice generator_word)
  zeroed-bytes = bytes-zeroing choice generator_word (bytes-all generator_word generator-bytes)

  four : chosen choice ≡ 4 → corrected (zeroing choice generator_word) ≡ some generator_word
  four e =
      corrected-some (zeroing choice generator_word) zeroed-length zeroed-bytes generator_word
      (record {
        right = generator-code-word;
        close = (let d : distance (zeroing choice generator_word) generator_word ≤ chosen choice = distance-zeroed choice generator_word in omega arith);
        long = sym (length-zeroing choice generator_word);
        bytes = bytes-all generator_word generator-bytes;
      })

  near-zero : distance (zeroing choice generator_word) (replicate 96 0) + chosen choice ≤ 9
  unfolding generator_word
  near-zero = distance-zero-word choice (map pow exponents) (replicate 87 0) l

  five : chosen choice ≡ 5 → corrected (zeroing choice generator_word) ≡ some (replicate 96 0)
  five e =
      corrected-some (zeroing choice generator_word) zeroed-length zeroed-bytes (replicate 96 0)
      (record {
        right = zero-code-word-96;
        close = omega (arith, near-zero);
        long = sym zeroed-length;
        bytes = zero-bytes 96;
      })

pub examples : Examples
unfolding control_bytes bytes16 bytes12 listing writer_opened write_answer fields_for expansion_bytes chained total largest_up_to most_pieces fit wholes_from part_after part_from cut_by locators_from length_refusal
examples = record {
  a = refl;
  b = refl;
  c = refl;
  d = crc.of-01;
  e = crc.of-80;
  f = crc.of-01-00;
  g = generator-code-word;
  h = four;
  i = five;
  j = refl;
  j-mode = refl;
  j-locators = refl;
  j-plast = refl;
  k = refl;
  k-locators = refl;
  k_start = refl;
  l = refl;
  m-fits = refl;
  m-not = refl;
  n = log.of-packet-5;
  n-length = refl;
}
