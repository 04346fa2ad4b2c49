-- One turn of reading a number.
use Rattle.std.proofs.Common.{◌≡◌, ℕ, suc, ◌+◌, ◌<◌, ◌≤◌, cond, ltb, List, length, get_or, drop, None, Some, add-one, drop_of_length-le, drop-cons, le-ltb, lt-ltb}
use Rattle.text.specs.Text.{with_digit, read_from, number_of}

module _ (t : List ℕ) (v i : ℕ) (h : i < length t) where
  read-turn : read_from v (drop i t) ≡ elim (with_digit v (get_or t i 0)) [ None ↦ None | Some n ↦ cond (ltb 4294967295 n) None (read_from n (drop (suc i) t)) ]
  unfolding read_from
  read-turn = rw (drop-cons t i 0)

  -- a byte that is no digit
  pub read-none : with_digit v (get_or t i 0) ≡ None → read_from v (drop i t) ≡ None
  read-none e = rw (read-turn, e)

  pub read_past : (n : ℕ) → with_digit v (get_or t i 0) ≡ Some n → 4294967295 < n → read_from v (drop i t) ≡ None
  read_past n e p = rw (read-turn, e) (rw (lt-ltb _ _ p))

  pub read-on : (n : ℕ) → with_digit v (get_or t i 0) ≡ Some n → n ≤ 4294967295 → read_from v (drop i t) ≡ read_from n (drop (i + 1) t)
  read-on n e p = rw (read-turn, e) (rw (le-ltb _ _ p, add-one))

pub read-end : (t : List ℕ) (v i : ℕ) → length t ≤ i → read_from v (drop i t) ≡ Some v
unfolding read_from
read-end t v i h = rw (drop_of_length-le t h)

pub some-text : (t : List ℕ) → 0 < length t → number_of t ≡ read_from 0 t
some-text t h = rw (lt-ltb 0 (length t) h)

pub no_text : (t : List ℕ) → length t ≤ 0 → number_of t ≡ None
no_text t h = rw (le-ltb 0 (length t) h)
