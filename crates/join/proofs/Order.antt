-- Numbers that rise: a packet more.
use mathlib.Core.Path.{◌≡◌, sym, ap, ◌∙◌}
use mathlib.Core.Bool.{Bool, true, false, ◌&&◌}
use mathlib.Core.List.{List}
use Prim.Native.Nat.{ℕ, ◌+◌, ◌<◌, ◌≤◌}
use lib.Dec.{ltb}
use lib.ListN.{length, get_or, drop}
use borrow.Author.Tests.{lt-ltb, le-ltb}
use Rattle.join.specs.Join.{number, counted_from, rising_after, rising}
use Rattle.join.specs.Scan.{is_packet, numbers}
use Rattle.join.proofs.Scanning.{numbers-here, numbers-end}

module _ (log : List ℕ) (start : ℕ) (e : numbers (drop start log) ≡ numbers (drop 0 log)) where
  pub rising_none : length log ≤ start → true ≡ rising (numbers log)
  unfolding rising
  rising_none h = ap rising (sym (numbers-end log start h) ∙ e)

  pub rising-first : (f j : ℕ) → start < length log → is_packet (get_or log start 0) ≡ true → f ≡ number (get_or log start 0)
      → numbers (drop j log) ≡ numbers (drop (start + 1) log) → rising_after f 0 (numbers (drop j log)) ≡ rising (numbers log)
  unfolding rising
  rising-first f j h p q r =
      ap (λ (ns : List ℕ). rising_after f 0 ns) r ∙ ap (λ (k : ℕ). rising_after k 0 (numbers (drop (start + 1) log))) q
      ∙ ap rising (sym (numbers-here log start h p) ∙ e)

module _ (log : List ℕ) (i f last n : ℕ) (h : i < length log) (p : is_packet (get_or log i 0) ≡ true) (q : n ≡ counted_from f (number (get_or log i 0))) where
  here : rising_after f last (numbers (drop i log)) ≡ (ltb last n && rising_after f n (numbers (drop (i + 1) log)))
  unfolding rising_after
  here =
      ap (rising_after f last) (numbers-here log i h p)
      ∙ ap (λ (k : ℕ). ltb last k && rising_after f k (numbers (drop (i + 1) log))) (sym q)

  pub rising-stop : n ≤ last → false ≡ rising_after f last (numbers (drop i log))
  rising-stop l = sym (here ∙ ap (λ (b : Bool). b && rising_after f n (numbers (drop (i + 1) log))) (le-ltb last n l))

  pub rising-next : (j : ℕ) → last < n → numbers (drop j log) ≡ numbers (drop (i + 1) log)
      → rising_after f n (numbers (drop j log)) ≡ rising_after f last (numbers (drop i log))
  rising-next j l e =
      ap (rising_after f n) e
      ∙ sym (here ∙ ap (λ (b : Bool). b && rising_after f n (numbers (drop (i + 1) log))) (lt-ltb last n l))

pub rising-end : (log : List ℕ) (i f last : ℕ) → length log ≤ i → true ≡ rising_after f last (numbers (drop i log))
unfolding rising_after
rising-end log i f last h = sym (ap (rising_after f last) (numbers-end log i h))
