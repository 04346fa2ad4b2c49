-- One turn of writing pieces, on what is left of lengths and bytes.
use mathlib.Core.Path.{◌≡◌, refl, sym, ap, ap₂, ◌∙◌}
use mathlib.Core.List.{List, [], ◌∷◌, ◌++◌}
use Prim.Native.Nat.{ℕ, suc, ◌+◌, ◌-◌, ◌<◌, ◌≤◌}
use native.Mathlib.Omega.{arith}
use native.Mathlib.Numerals.{add-one}
use lib.ListN.{length, get_or, set, take, drop, length-append, length-drop, drop_of_length-le}
use lib.Seq.{drop-cons, drop-drop, length-take-le}
use Rattle.buffer.specs.Buffer.{put_at}
use Rattle.buffer.proofs.Laws.{put_then, put-nil, put-cons, take_put}
use Rattle.pieces.specs.Pieces.{cut_by, with_crc, piece_bytes, locators_from, total}

-- what is left after k lengths
pub total-drop : (ns : List ℕ) (k : ℕ) → k < length ns → total (drop k ns) ≡ get_or ns k 0 + total (drop (k + 1) ns)
unfolding total
total-drop ns k h = rw (add-one k, drop-cons ns k 0 h)

module _ (register : ℕ) (l l2 ns bytes goal : List ℕ) (place from k n : ℕ) where
  pub turn : k < length ns → n ≡ get_or ns k 0 → from + n ≤ length bytes → place + n + 1 ≤ length l
      → l2 ≡ put_at l place (with_crc register (take n (drop from bytes)))
      → put_at l place (piece_bytes register (cut_by (drop k ns) (drop from bytes))) ≡ goal
      → put_at l2 (place + n + 1) (piece_bytes register (cut_by (drop (k + 1) ns) (drop (from + n) bytes))) ≡ goal
  unfolding cut_by piece_bytes
  turn h e fits room put g =
      let d : drop k ns ≡ n ∷ drop (suc k) ns = rw e (drop-cons ns k 0 h) in
      let t : put_at l place (with_crc register (take n (drop from bytes)) ++ piece_bytes register (cut_by (drop (suc k) ns) (drop n (drop from bytes)))) ≡ goal = rw d at g in
      let q : length (drop from bytes) ≡ length bytes - from = length-drop from bytes in
      let m : length (take n (drop from bytes)) ≡ n = length-take-le n (drop from bytes) (omega arith) in
      let w : length (with_crc register (take n (drop from bytes))) ≡ n + 1 = simp (length-append, m) in
      let p : place + n + 1 ≡ place + length (with_crc register (take n (drop from bytes))) = omega arith in
      let f : drop n (drop from bytes) ≡ drop (from + n) bytes = drop-drop n from bytes in
      let t2 : put_at l place (with_crc register (take n (drop from bytes)) ++ piece_bytes register (cut_by (drop (suc k) ns) (drop (from + n) bytes))) ≡ goal = rw f at t in
      let s : put_at l2 (place + n + 1) (piece_bytes register (cut_by (drop (k + 1) ns) (drop (from + n) bytes))) ≡ put_at l place (with_crc register (take n (drop from bytes)) ++ piece_bytes register (cut_by (drop (k + 1) ns) (drop (from + n) bytes))) =
      put_then l l2 (put_at l2 (place + n + 1) (piece_bytes register (cut_by (drop (k + 1) ns) (drop (from + n) bytes)))) (with_crc register (take n (drop from bytes))) (piece_bytes register (cut_by (drop (k + 1) ns) (drop (from + n) bytes))) place (place + n + 1) (omega arith) p put refl in
      s ∙ rw (add-one k) t2

-- no length is left
pub none_left : (register : ℕ) (l ns bytes goal : List ℕ) (place from k : ℕ) → length ns ≤ k → put_at l place (piece_bytes register (cut_by (drop k ns) (drop from bytes))) ≡ goal → l ≡ goal
unfolding cut_by piece_bytes
none_left register l ns bytes goal place from k h g =
    let d : drop k ns ≡ [] = drop_of_length-le ns {i = k} h in
    let t : put_at l place [] ≡ goal = rw d at g in
    sym (put-nil l place) ∙ t

-- one turn of the locators
pub turn-locators : (l ns goal : List ℕ) (place k : ℕ) → k < length ns → k < length l → put_at l k (locators_from place (drop k ns)) ≡ goal
    → put_at (set l k (place + get_or ns k 0)) (k + 1) (locators_from (place + get_or ns k 0 + 1) (drop (k + 1) ns)) ≡ goal
unfolding locators_from
turn-locators l ns goal place k h m g =
    let t : put_at l k ((place + get_or ns k 0) ∷ locators_from (place + get_or ns k 0 + 1) (drop (suc k) ns)) ≡ goal = rw (drop-cons ns k 0 h) at g in
    put-cons l (locators_from (place + get_or ns k 0 + 1) (drop (k + 1) ns)) k (place + get_or ns k 0) m ∙ rw (add-one k) t

pub no-locator-left : (l ns goal : List ℕ) (place k : ℕ) → length ns ≤ k → put_at l k (locators_from place (drop k ns)) ≡ goal → l ≡ goal
unfolding locators_from
no-locator-left l ns goal place k h g =
    let t : put_at l k [] ≡ goal = rw (drop_of_length-le ns {i = k} h) at g in
    sym (put-nil l k) ∙ t

pub length_from : (ns : List ℕ) (at : ℕ) → length (locators_from at ns) ≡ length ns
unfolding locators_from
length_from [] at = refl
length_from (n ∷ ns) at = ap suc (length_from ns (at + n + 1))

-- the locators at the front of what was filled with them
pub filled : (out z ns : List ℕ) (at : ℕ) → out ≡ put_at z 0 (locators_from at ns) → take (length ns) out ≡ locators_from at ns
filled out z ns at e = ap₂ (λ (n : ℕ) (r : List ℕ). take n r) (sym (length_from ns at)) e ∙ take_put z (locators_from at ns)
