-- Which PDU lengths are refused, and what a PDU of a length that is not has in its first 96 bytes.
use mathlib.Core.Path.{◌≡◌, ap, ◌∙◌}
use mathlib.Core.Bool.{true, false}
use mathlib.Core.List.{List, ◌++◌, append-nil}
use Prim.Native.Nat.{ℕ, ◌<◌, ◌≤◌}
use native.Mathlib.Omega.{arith}
use lib.Dec.{leb}
use lib.ListN.{length, take, drop, replicate, drop_of_length-le}
use lib.Seq.{take_all, length-take-le}
use borrow.Author.Tests.{le-leb, lt-leb}
use Rattle.header.specs.Header.{parity_of, header_of, front_replaced, length_refusal, with_parity}

pub short-refused : (n : ℕ) → n < 96 → length_refusal n ≡ 3
unfolding length_refusal
short-refused n h = let a : leb 96 n ≡ false = lt-leb 96 n h in rw a

pub long-refused : (n : ℕ) → 20480 < n → length_refusal n ≡ 3
unfolding length_refusal
long-refused n h =
    let a : leb 96 n ≡ true = le-leb 96 n (omega arith) in
    let b : leb n 20480 ≡ false = lt-leb n 20480 h in
    rw (a, b)

pub length-allowed : (n : ℕ) → 96 ≤ n → n ≤ 20480 → length_refusal n ≡ 0
unfolding length_refusal
length-allowed n h k =
    let a : leb 96 n ≡ true = le-leb 96 n h in
    let b : leb n 20480 ≡ true = le-leb n 20480 k in
    rw (a, b)

pub header-of-long : (p : List ℕ) → 96 ≤ length p → header_of p ≡ take 96 p
unfolding header_of
header-of-long p h = ap (λ (u : List ℕ). take 96 p ++ u) (drop_of_length-le (replicate 96 0) h) ∙ append-nil (take 96 p)

pub parity-of-header : (p : List ℕ) → 96 ≤ length p → parity_of (header_of p) ≡ parity_of p
unfolding parity_of
parity-of-header p h =
    ap parity_of (header-of-long p h) ∙ ap (λ (u : List ℕ). remainder_of u) (take_all 96 (take 96 p) (omega (arith, length-take-le 96 p h)))
  where
    remainder_of : List ℕ → List ℕ
    remainder_of u = Rattle.header.specs.Header.remainder (drop 8 u)

pub parity-refused : (p : List ℕ) → length_refusal (length p) ≡ 3 → with_parity p ≡ p
unfolding with_parity
parity-refused p e = rw e

pub parity-written : (p : List ℕ) → length_refusal (length p) ≡ 0 → with_parity p ≡ parity_of p ++ drop 8 p
unfolding with_parity
parity-written p e = rw e

pub front_fits : (p f : List ℕ) → length f ≤ length p → front_replaced p f ≡ f ++ drop (length f) p
unfolding front_replaced
front_fits p f h = ap (λ (u : List ℕ). u ++ drop (length f) p) (take_all (length p) f h)
