-- Loops over the words of a log: a word more.
use mathlib.Core.Path.{◌≡◌, sym, ap, ◌∙◌}
use mathlib.Core.Bool.{true, false, ◌&&◌}
use mathlib.Core.List.{List, [], ◌∷◌, ◌++◌, append-nil, append_assoc}
use Prim.Native.Nat.{ℕ, ◌+◌, ◌<◌, ◌≤◌}
use native.Mathlib.Numerals.{add-one}
use native.Mathlib.Omega.{arith}
use lib.Dec.{eqb}
use lib.ListN.{length, get_or, take, drop, drop_of_length-le}
use lib.Seq.{slice, slice_empty, drop-cons, take-suc, drop-append-le, length-take-le}
use borrow.Author.Tests.{eq-eqb, ne_eqb}
use Rattle.packet_log.specs.Log.{kind_of}
use Rattle.join.specs.Join.{number}
use Rattle.join.specs.Scan.{fits, left_after, is_rest, is_packet, numbers, data_run, from_number}

module _ (log : List ℕ) (i : ℕ) (h : i < length log) where
  word : ℕ
  word = get_or log i 0

  split : drop i log ≡ get_or log i 0 ∷ drop (i + 1) log
  split = rw (add-one i) (drop-cons log i 0 h)

  -- ---- number 23

  pub formed-stop : (left : ℕ) → fits left (get_or log i 0) ≡ false → false ≡ is_rest left (drop i log)
  unfolding is_rest
  formed-stop left e = rw (split, e)

  pub formed-next : (left : ℕ) → fits left (get_or log i 0) ≡ true → is_rest (left_after left (get_or log i 0)) (drop (i + 1) log) ≡ is_rest left (drop i log)
  unfolding is_rest
  formed-next left e = rw (split, e)

  -- ---- packets

  pub numbers-next : is_packet (get_or log i 0) ≡ false → numbers (drop (i + 1) log) ≡ numbers (drop i log)
  unfolding numbers
  numbers-next e = rw (split, e)

  pub numbers-here : is_packet (get_or log i 0) ≡ true → numbers (drop i log) ≡ number (get_or log i 0) ∷ numbers (drop (i + 1) log)
  unfolding numbers
  numbers-here e = rw (split, e)

  pub found_here : (n : ℕ) → (is_packet (get_or log i 0) && eqb (number (get_or log i 0)) n) ≡ true → drop i log ≡ from_number n (drop i log)
  unfolding from_number
  found_here n e = rw (split, e)

  pub found-next : (n : ℕ) → (is_packet (get_or log i 0) && eqb (number (get_or log i 0)) n) ≡ false → from_number n (drop (i + 1) log) ≡ from_number n (drop i log)
  unfolding from_number
  found-next n e = rw (split, e)

  -- ---- data words

  run_more : kind_of (get_or log i 0) ≡ 1 → data_run (drop i log) ≡ get_or log i 0 ∷ data_run (drop (i + 1) log)
  unfolding data_run
  run_more e = rw (split, eq-eqb (kind_of (get_or log i 0)) 1 e)

  run_none : (kind_of (get_or log i 0) ≡ 1 → ⊥) → data_run (drop i log) ≡ []
  unfolding data_run
  run_none e = rw (split, ne_eqb (kind_of (get_or log i 0)) 1 e)

  slice-more : (from : ℕ) → from ≤ i → slice from (i + 1) log ≡ slice from i log ++ (get_or log i 0 ∷ [])
  slice-more from l =
      let k : length (take i log) ≡ i = length-take-le i log (omega arith) in
      ap (drop from) (rw (add-one i) (take-suc log i 0 h)) ∙ drop-append-le from (take i log) (get_or log i 0 ∷ []) (omega arith)

  pub run-next : (from : ℕ) → from ≤ i → kind_of (get_or log i 0) ≡ 1
      → slice from (i + 1) log ++ data_run (drop (i + 1) log) ≡ slice from i log ++ data_run (drop i log)
  run-next from l e =
      ap (λ (s : List ℕ). s ++ data_run (drop (i + 1) log)) (slice-more from l)
      ∙ append_assoc (slice from i log) (get_or log i 0 ∷ []) (data_run (drop (i + 1) log))
      ∙ ap (λ (s : List ℕ). slice from i log ++ s) (sym (run_more e))

  pub run-stop : (from : ℕ) → (kind_of (get_or log i 0) ≡ 1 → ⊥) → slice from i log ++ data_run (drop i log) ≡ slice from i log
  run-stop from e = ap (λ (s : List ℕ). slice from i log ++ s) (run_none e) ∙ append-nil (slice from i log)

-- the end of the log
module _ (log : List ℕ) (i : ℕ) (h : length log ≤ i) where
  gone : drop i log ≡ []
  gone = drop_of_length-le log h

  pub formed-end : (left : ℕ) → eqb left 0 ≡ is_rest left (drop i log)
  unfolding is_rest
  formed-end left = rw gone

  pub found-end : (n : ℕ) → drop i log ≡ from_number n (drop i log)
  unfolding from_number
  found-end n = rw gone

  pub numbers-end : numbers (drop i log) ≡ []
  unfolding numbers
  numbers-end = rw gone

  pub run-last : (from : ℕ) → slice from i log ++ data_run (drop i log) ≡ slice from i log
  unfolding data_run
  run-last from = rw gone (append-nil (slice from i log))

pub run-first : (log : List ℕ) (from : ℕ) → slice from from log ++ data_run (drop from log) ≡ data_run (drop from log)
run-first log from = ap (λ (s : List ℕ). s ++ data_run (drop from log)) (slice_empty from log)
