-- What a line holds after bytes were put into it.
use Rattle.std.proofs.Common.{◌≡◌, ℕ, ◌+◌, ◌-◌, ◌≤◌, min, List, ◌++◌, length, take, drop, ap, sym, ◌∙◌, arith}
use Rattle.std.proofs.Math.Seq.{take-append-add, take_at}
use Rattle.std.proofs.lemmas.List.{length-append, length-take-le, take_min}
use Rattle.buffer.specs.Buffer.{put_at}
use Rattle.text.specs.Text.{placed}

-- the first bytes kept, and as many of the others as there is room for
pub put_after : (N k : ℕ) (l w : List ℕ) → length l ≡ N → k ≤ N → take (min (min k N + length w) N) (placed l k w) ≡ take N (take k l ++ w)
unfolding put_at
put_after N k l w e h =
    let v = take (min (length w) (N - k)) w in
    let room : length l - min k (length l) ≡ N - k = omega arith in
    let at : min k (length l) ≡ k = omega arith in
    let kept : length (take k l) ≡ k = length-take-le k l (omega arith) in
    let n : length v ≡ min (length w) (N - k) = length-take-le _ w (omega arith) in
    let ends : min (min k N + length w) N ≡ k + length v = omega arith in
    let left : take (k + length v) ((take k l ++ v) ++ drop (k + length v) l) ≡ take k l ++ v = take_at (take k l ++ v) (drop (k + length v) l) (k + length v) (simp (length-append, kept)) in
    let all : length (take k l) + (N - k) ≡ N = omega arith in
    let right : take N (take k l ++ w) ≡ take k l ++ take (N - k) w = ap (λ m. take m (take k l ++ w)) (sym all) ∙ take-append-add (take k l) w (N - k) in
    let same : v ≡ take (N - k) w = ap (λ m. take m w) (omega arith) ∙ take_min (N - k) w in
    rw (room, at, ends) (left ∙ ap (λ (r : List ℕ). take k l ++ r) same ∙ sym right)
