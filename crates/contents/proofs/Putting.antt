-- Lists put one after the other, and pieces of known lengths.
use mathlib.Core.Path.{◌≡◌, refl, sym, ap, ap₂, ◌∙◌}
use mathlib.Core.List.{List, [], ◌∷◌, ◌++◌, map, append_assoc}
use Prim.Native.Nat.{ℕ, suc, ◌+◌, ◌-◌, ◌≤◌}
use native.Mathlib.Omega.{arith}
use lib.ListN.{length, take, drop, length-append, length-drop}
use lib.Seq.{length-take-le}
use Rattle.buffer.specs.Buffer.{put_at}
use Rattle.buffer.proofs.Laws.{put_then}
use Rattle.layout.specs.Locators.{locator_size, locator_bytes}
use Rattle.layout.proofs.LocatorLaw.{length-locators}
use Rattle.pieces.proofs.Cutting.{length_from}
use Rattle.crc.specs.Crc.{crc_from}
use Rattle.pieces.specs.Pieces.{cut_by, with_crc, piece_bytes, locators_from, total}
use Rattle.contents.specs.Contents.{contents}

pub four-puts : (z l1 l2 l3 l4 a b x d : List ℕ) (m p q : ℕ) → 8 + length a + length b + length x + length d ≤ length z → m ≡ 8 + length a → p ≡ m + length b → q ≡ p + length x
    → l1 ≡ put_at z 8 a → l2 ≡ put_at l1 m b → l3 ≡ put_at l2 p x → l4 ≡ put_at l3 q d → l4 ≡ put_at z 8 (a ++ (b ++ (x ++ d)))
four-puts z l1 l2 l3 l4 a b x d m p q room em ep eq e1 e2 e3 e4 =
    let n2 : length (a ++ b) ≡ length a + length b = length-append a b in
    let n3 : length ((a ++ b) ++ x) ≡ length (a ++ b) + length x = length-append (a ++ b) x in
    let f2 : l2 ≡ put_at z 8 (a ++ b) = put_then z l1 l2 a b 8 m (omega arith) em e1 e2 in
    let f3 : l3 ≡ put_at z 8 ((a ++ b) ++ x) = put_then z l2 l3 (a ++ b) x 8 p (omega (arith, n2)) (omega (arith, n2, em, ep)) f2 e3 in
    let f4 : l4 ≡ put_at z 8 (((a ++ b) ++ x) ++ d) = put_then z l3 l4 ((a ++ b) ++ x) d 8 q (omega (arith, n2, n3)) (omega (arith, n2, n3, em, ep, eq)) f3 e4 in
    f4 ∙ ap (put_at z 8) (simp append_assoc)

-- pieces cut by lengths have these lengths
pub cut-lengths : (ns bytes : List ℕ) → total ns ≤ length bytes → map length (cut_by ns bytes) ≡ ns
unfolding cut_by total
cut-lengths [] bytes h = refl
cut-lengths (n ∷ ns) bytes h =
    let d : length (drop n bytes) ≡ length bytes - n = length-drop n bytes in
    ap₂ (λ (x : ℕ) (r : List ℕ). x ∷ r) (length-take-le n bytes (omega arith)) (cut-lengths ns (drop n bytes) (omega (arith, d)))

pub cut-count : (ns bytes : List ℕ) → length (cut_by ns bytes) ≡ length ns
unfolding cut_by
cut-count [] bytes = refl
cut-count (n ∷ ns) bytes = ap suc (cut-count ns (drop n bytes))

module _ (register width : ℕ) (expansion psd ns bytes : List ℕ) (enough : total ns ≤ length bytes) where
  -- where the first piece starts
  abbrev pub first : ℕ
  first = 14 + locator_size width (length ns) + length expansion + length psd

  pub cut-contents : contents register width expansion psd (cut_by ns bytes) ≡ locator_bytes width (locators_from first ns) ++ (expansion ++ (psd ++ piece_bytes register (cut_by ns bytes)))
  cut-contents = rw (cut-count ns bytes, cut-lengths ns bytes enough)

  -- what was put in two parts, and what it is
  pub two-puts : (z l1 l2 control locs : List ℕ) (at : ℕ) → length control ≡ 6 → 14 + locator_size width (length ns) + length expansion + length psd + total ns + length ns ≤ length z
      → locs ≡ locators_from first ns → at ≡ first → l1 ≡ put_at z 8 (control ++ (locator_bytes width locs ++ (expansion ++ psd))) → l2 ≡ put_at l1 at (piece_bytes register (cut_by ns bytes))
      → l2 ≡ put_at z 8 (control ++ contents register width expansion psd (cut_by ns bytes))
  two-puts z l1 l2 control locs at six room el ea e1 e2 =
      let lb = locator_bytes width (locators_from first ns) in
      let front = control ++ (lb ++ (expansion ++ psd)) in
      let f1 : l1 ≡ put_at z 8 front = rw el at e1 in
      let nl : length lb ≡ locator_size width (length ns) = length-locators width (locators_from first ns) ∙ ap (locator_size width) (length_from ns first) in
      let n : length front ≡ 6 + (locator_size width (length ns) + (length expansion + length psd)) = simp (length-append, nl, six) in
      put_then z l1 l2 front (piece_bytes register (cut_by ns bytes)) 8 at (omega (arith, n, room)) (omega (arith, n, ea)) f1 e2
      ∙ ap (put_at z 8) (simp append_assoc)
      ∙ ap (λ (r : List ℕ). put_at z 8 (control ++ r)) (sym cut-contents)

-- how long contents are
pub piece-bytes-length : (register : ℕ) (ns bytes : List ℕ) → total ns ≤ length bytes → length (piece_bytes register (cut_by ns bytes)) ≡ total ns + length ns
unfolding cut_by piece_bytes total
piece-bytes-length register [] bytes h = refl
piece-bytes-length register (n ∷ ns) bytes h =
    let t : length (take n bytes) ≡ n = length-take-le n bytes (omega arith) in
    let d : length (drop n bytes) ≡ length bytes - n = length-drop n bytes in
    let r = piece-bytes-length register ns (drop n bytes) (omega (arith, d)) in
    let w : length (with_crc register (take n bytes)) ≡ n + 1 = length-append (take n bytes) (crc_from register (take n bytes) ∷ []) ∙ omega (arith, t) in
    length-append (with_crc register (take n bytes)) (piece_bytes register (cut_by ns (drop n bytes))) ∙ omega (arith, r, w)

pub length-contents : (register width : ℕ) (expansion psd ns bytes : List ℕ) → total ns ≤ length bytes
    → length (contents register width expansion psd (cut_by ns bytes)) ≡ locator_size width (length ns) + (length expansion + (length psd + (total ns + length ns)))
length-contents register width expansion psd ns bytes h =
    let f = 14 + locator_size width (length ns) + length expansion + length psd in
    let nl : length (locator_bytes width (locators_from f ns)) ≡ locator_size width (length ns) = length-locators width (locators_from f ns) ∙ ap (locator_size width) (length_from ns f) in
    ap length (cut-contents register width expansion psd ns bytes h) ∙ simp (length-append, nl, piece-bytes-length register ns bytes h)
