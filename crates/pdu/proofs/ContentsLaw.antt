-- Reading the locators, PSD and pieces that were written gives them.
use mathlib.Core.Path.{◌≡◌, refl, sym, ap, ap₂, ◌∙◌}
use mathlib.Core.List.{List, [], ◌∷◌, ◌++◌, map, append_assoc}
use Prim.Native.Nat.{ℕ, zero, suc, ◌+◌, ◌-◌, ◌<◌}
use native.Mathlib.Omega.{arith}
use lib.ListN.{length, get_or, take, drop, length-append}
use lib.Seq.{take_at, drop_at, get_or-append-add}
use Rattle.layout.specs.declared.ControlWord.{ControlWord}
use Rattle.layout.specs.Locators.{locator_bytes, locator_size, locator_at}
use Rattle.layout.proofs.LocatorLaw.{roof, locator-law, length-locators}
use Rattle.crc.specs.Crc.{crc_from}
use Rattle.pieces.specs.Pieces.{with_crc, piece_bytes, locators_from}
use Rattle.pieces.proofs.Cutting.{length_from}
use Rattle.pdu.specs.Reading.{start_at, length_at}
use Rattle.contents.specs.Contents.{first_piece, locators_of, contents}

-- where piece k starts, with the first at a place and these locators
abbrev pub start_from : ℕ → List ℕ → ℕ → ℕ
start_from at ls zero = at
start_from at ls (suc k) = get_or ls k 0 + 1

pub length-map : (ps : List (List ℕ)) → length (map length ps) ≡ length ps
length-map [] = refl
length-map (p ∷ ps) = ap suc (length-map ps)

-- piece k and its CRC byte stand between its start and its locator
pub record Stands (register : ℕ) (y ls : List ℕ) (at k : ℕ) (piece : List ℕ) : Type 0 where
  pub ends : get_or ls k 0 ≡ start_from at ls k + length piece
  pub bytes : take (length piece) (drop (start_from at ls k) y) ≡ piece
  pub crc : get_or y (get_or ls k 0) 0 ≡ crc_from register piece

first-stands : (register : ℕ) (q piece rest ls : List ℕ) (at : ℕ) → length q ≡ at → Stands register (q ++ (with_crc register piece ++ rest)) ((at + length piece) ∷ ls) at 0 piece
first-stands register q piece rest ls at e =
    let y = q ++ (with_crc register piece ++ rest) in
    let a : with_crc register piece ++ rest ≡ piece ++ (crc_from register piece ∷ rest) = append_assoc piece (crc_from register piece ∷ []) rest in
    let d : drop at y ≡ with_crc register piece ++ rest = drop_at q (with_crc register piece ++ rest) at e in
    record {
      ends = refl;
      bytes = ap (take (length piece)) (d ∙ a) ∙ take_at piece (crc_from register piece ∷ rest) (length piece) refl;
      crc =
          ap (λ (n : ℕ). get_or y (n + length piece) 0) (sym e)
          ∙ get_or-append-add q (with_crc register piece ++ rest) (length piece) 0
          ∙ ap (λ (r : List ℕ). get_or r (length piece) 0) a
          ∙ last piece;
    }
  where
    last : (p : List ℕ) → get_or (p ++ (crc_from register piece ∷ rest)) (length p) 0 ≡ crc_from register piece
    last [] = refl
    last (x ∷ p) = last p

next_start : (ls : List ℕ) (l k : ℕ) → start_from (l + 1) ls k ≡ get_or (l ∷ ls) k 0 + 1
next_start ls l zero = refl
next_start ls l (suc k) = refl

pub pieces-stand : (register : ℕ) (q rest : List ℕ) (ps : List (List ℕ)) (at k : ℕ) → length q ≡ at → k < length ps
    → Stands register (q ++ (piece_bytes register ps ++ rest)) (locators_from at (map length ps)) at k (get_or ps k [])
unfolding piece_bytes locators_from
pieces-stand register q rest [] at k e h = absurd (omega arith)
pieces-stand register q rest (p ∷ ps) at zero e h =
    let a : (with_crc register p ++ piece_bytes register ps) ++ rest ≡ with_crc register p ++ (piece_bytes register ps ++ rest) = append_assoc (with_crc register p) (piece_bytes register ps) rest in
    rw a (first-stands register q p (piece_bytes register ps ++ rest) (locators_from (at + length p + 1) (map length ps)) at e)
pieces-stand register q rest (p ∷ ps) at (suc k) e h =
    let w : length (with_crc register p) ≡ length p + 1 = length-append p (crc_from register p ∷ []) in
    let n : length (q ++ with_crc register p) ≡ at + length p + 1 = length-append q (with_crc register p) ∙ omega (arith, w, e) in
    let s = pieces-stand register (q ++ with_crc register p) rest ps (at + length p + 1) k n (omega arith) in
    let a : (q ++ with_crc register p) ++ (piece_bytes register ps ++ rest) ≡ q ++ ((with_crc register p ++ piece_bytes register ps) ++ rest) =
    append_assoc q (with_crc register p) (piece_bytes register ps ++ rest) ∙ ap (λ (r : List ℕ). q ++ r) (sym (append_assoc (with_crc register p) (piece_bytes register ps) rest)) in
    let ls = locators_from (at + length p + 1) (map length ps) in
    let y = q ++ ((with_crc register p ++ piece_bytes register ps) ++ rest) in
    let f : start_from (at + length p + 1) ls k ≡ get_or ((at + length p) ∷ ls) k 0 + 1 = next_start ls (at + length p) k in
    record {
      ends = s.ends ∙ ap (λ (n : ℕ). n + length (get_or ps k [])) f;
      bytes = sym (ap₂ (λ (n : ℕ) (r : List ℕ). take (length (get_or ps k [])) (drop n r)) f a) ∙ s.bytes;
      crc = sym (ap (λ (r : List ℕ). get_or r (get_or ls k 0) 0) a) ∙ s.crc;
    }

with-crc : (register : ℕ) (p : List ℕ) (ps : List (List ℕ)) → length (with_crc register p ++ piece_bytes register ps) ≡ length p + 1 + length (piece_bytes register ps)
with-crc register p ps =
    let w : length (with_crc register p) ≡ length p + 1 = length-append p (crc_from register p ∷ []) in
    length-append (with_crc register p) (piece_bytes register ps) ∙ omega (arith, w)

-- a locator stands before the end of the pieces
pub locator-below : (register : ℕ) (ps : List (List ℕ)) (at k : ℕ) → k < length ps → get_or (locators_from at (map length ps)) k 0 < at + length (piece_bytes register ps)
unfolding piece_bytes locators_from
locator-below register [] at k h = absurd (omega arith)
locator-below register (p ∷ ps) at zero h = let n = with-crc register p ps in omega (arith, n)
locator-below register (p ∷ ps) at (suc k) h = let n = with-crc register p ps in let r = locator-below register ps (at + length p + 1) k (omega arith) in omega (arith, r, n)

-- a part of a list, from where it stands
part_at : (y q part after : List ℕ) (n : ℕ) → y ≡ q ++ (part ++ after) → length q ≡ n → take (length part) (drop n y) ≡ part
part_at y q part after n e long =
    ap (λ (r : List ℕ). take (length part) (drop n r)) e
    ∙ ap (take (length part)) (drop_at q (part ++ after) n long)
    ∙ take_at part after (length part) refl

-- with 14 bytes before the contents and anything after them
module _ (register width : ℕ) (pre expansion psd rest : List ℕ) (ps : List (List ℕ)) (long : length pre ≡ 14) where
  abbrev pub written : List ℕ
  written = pre ++ (contents register width expansion psd ps ++ rest)

  abbrev pub at : ℕ
  at = first_piece width expansion psd ps

  abbrev pub ls : List ℕ
  ls = locators_of width expansion psd ps

  count : length ls ≡ length ps
  count = length_from (map length ps) at ∙ length-map ps

  size : length (locator_bytes width ls) ≡ locator_size width (length ps)
  size = length-locators width ls ∙ ap (locator_size width) count

  -- locators and what follows them
  apart : written ≡ pre ++ (locator_bytes width ls ++ (expansion ++ (psd ++ (piece_bytes register ps ++ rest))))
  apart = simp append_assoc

  front : List ℕ
  front = pre ++ (locator_bytes width ls ++ (expansion ++ psd))

  -- the pieces after all that stands before them
  behind : written ≡ front ++ (piece_bytes register ps ++ rest)
  unfolding front
  behind = simp append_assoc

  front_length : length front ≡ at
  unfolding front
  front_length = simp (length-append, size, long) (omega arith)

  pub written-length : length written ≡ at + length (piece_bytes register ps) + length rest
  written-length =
      ap length behind
      ∙ length-append front (piece_bytes register ps ++ rest)
      ∙ ap₂ (λ (i j : ℕ). i + j) front_length (length-append (piece_bytes register ps) rest)
      ∙ omega arith

  -- every locator is below the length
  pub locators-below : (k : ℕ) → k < length ps → get_or ls k 0 < length written
  locators-below k h = let r = locator-below register ps at k h in omega (arith, r, written-length)

  pub locators-back : (k : ℕ) → k < length ps → get_or ls k 0 < roof width → locator_at width written k ≡ get_or ls k 0
  locators-back k h fits =
      ap (λ (r : List ℕ). locator_at width r k) apart ∙ locator-law pre ls (expansion ++ (psd ++ (piece_bytes register ps ++ rest))) long k (omega (arith, count)) width fits

  -- a control word that counts the pieces and has La before the first
  module _ (c : ControlWord) (la : c.la + 1 ≡ at) (fits : (k : ℕ) → k < length ps → get_or ls k 0 < roof width) where
    start_back : (k : ℕ) → k < length ps → start_at width c written k ≡ start_from at ls k
    start_back zero h = la
    start_back (suc k) h = ap (λ (n : ℕ). n + 1) (locators-back k (omega arith) (fits k (omega arith)))

    pub record Back (k : ℕ) (piece : List ℕ) : Type 0 where
      pub start : start_at width c written k ≡ start_from at ls k
      pub size : length_at width c written k ≡ length piece
      pub bytes : take (length_at width c written k) (drop (start_at width c written k) written) ≡ piece
      pub ends : locator_at width written k ≡ start_at width c written k + length_at width c written k
      pub crc : get_or written (locator_at width written k) 0 ≡ crc_from register piece

    -- each piece is read as it was written, and the byte at its locator is its CRC
    pub pieces-back : (k : ℕ) → k < length ps → Back k (get_or ps k [])
    pieces-back k h =
        let s : Stands register (front ++ (piece_bytes register ps ++ rest)) ls at k (get_or ps k []) = pieces-stand register front rest ps at k front_length h in
        let l = locators-back k h (fits k h) in
        let b = start_back k h in
        let n : length_at width c written k ≡ length (get_or ps k []) = ap₂ (λ (x y : ℕ). x - y) l b ∙ omega (arith, s.ends) in
        record {
          start = b;
          size = n;
          bytes =
              ap₂ (λ (m d : ℕ). take m (drop d written)) n b
              ∙ ap (λ (r : List ℕ). take (length (get_or ps k [])) (drop (start_from at ls k) r)) behind
              ∙ s.bytes;
          ends = l ∙ omega (arith, s.ends, b, n);
          crc = ap (λ (m : ℕ). get_or written m 0) l ∙ ap (λ (r : List ℕ). get_or r (get_or ls k 0) 0) behind ∙ s.crc;
        }

  -- the expansion bytes and the PSD stand where they were written
  pub expansion-back : take (length expansion) (drop (14 + locator_size width (length ps)) written) ≡ expansion
  expansion-back =
      let n = 14 + locator_size width (length ps) in
      let e : length (pre ++ locator_bytes width ls) ≡ n = simp (length-append, size, long) in
      let a : written ≡ (pre ++ locator_bytes width ls) ++ (expansion ++ (psd ++ (piece_bytes register ps ++ rest))) = simp append_assoc in
      part_at written (pre ++ locator_bytes width ls) expansion (psd ++ (piece_bytes register ps ++ rest)) n a e

  pub psd-back : take (length psd) (drop (14 + locator_size width (length ps) + length expansion) written) ≡ psd
  psd-back =
      let n = 14 + locator_size width (length ps) + length expansion in
      let e : length (pre ++ (locator_bytes width ls ++ expansion)) ≡ n = simp (length-append, size, long) (omega arith) in
      let a : written ≡ (pre ++ (locator_bytes width ls ++ expansion)) ++ (psd ++ (piece_bytes register ps ++ rest)) = simp append_assoc in
      part_at written (pre ++ (locator_bytes width ls ++ expansion)) psd (piece_bytes register ps ++ rest) n a e
