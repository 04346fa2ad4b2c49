-- G against the writer's state: after g bytes, which packet is unfinished and how many of its bytes are sent.
use mathlib.Core.Path.{◌≡◌, refl, sym, ap, ◌∙◌}
use mathlib.Core.List.{List, [], ◌∷◌, map}
use Prim.Native.Nat.{ℕ, zero, suc, ◌+◌, ◌-◌, ◌≤◌}
use native.Mathlib.Omega.{arith}
use native.Mathlib.Nat.{zero-add, le_of_suc-le-suc, not-suc-le-zero}
use borrow.Author.Tests.{le-leb, lt-leb}
use lib.ListN.{length, take, drop}
use Rattle.pieces.specs.Pieces.{total}
use Rattle.runs.proofs.Model.{cut, Fits, Sized, bytes_in}
use Rattle.runs.specs.Spans.{packet_at}
use Rattle.runs.proofs.Spans.{packet-past, packet-first, Stands}
use Rattle.runs.proofs.Theorem.{cut-none, Unfinished}
use Rattle.delivery.specs.Delivery.{already_sent}

pub bytes-total : (bs : List (List ℕ)) → total (map length bs) ≡ bytes_in bs
unfolding total
bytes-total [] = refl
bytes-total (b ∷ bs) = ap (λ (n : ℕ). length b + n) (bytes-total bs)

module _ (ps : List (List ℕ)) (i s : ℕ) where
  past : (p : List ℕ) → length p + bytes_in (take i ps) + s - length p ≡ bytes_in (take i ps) + s
  past p = omega arith

sent-at : (ps : List (List ℕ)) (i s : ℕ) → i ≤ length ps → Unfinished s (drop i ps) → already_sent ps (bytes_in (take i ps) + s) ≡ s
sent-at [] zero s b u = sym u
sent-at [] (suc i) s b u = absurd (not-suc-le-zero b)
sent-at (p ∷ ps) zero s b u = rw (zero-add, lt-leb (length p) s u)
sent-at (p ∷ ps) (suc i) s b u =
    rw (le-leb (length p) (length p + bytes_in (take i ps) + s) (omega arith), past ps i s p) (sent-at ps i s (le_of_suc-le-suc b) u)

pub stands-index : (ps : List (List ℕ)) (g i s : ℕ) → Stands ps g i s → packet_at ps g ≡ i
stands-index ps g i s v =
    let e : packet_at ps g ≡ i + packet_at (drop i ps) s = ap (packet_at ps) v.place ∙ packet-past ps i s v.bound in
    let f : packet_at (drop i ps) s ≡ 0 = packet-first (drop i ps) s v.rest in
    omega (arith, e, f)

pub stands-sent : (ps : List (List ℕ)) (g i s : ℕ) → Stands ps g i s → already_sent ps g ≡ s
stands-sent ps g i s v = ap (already_sent ps) v.place ∙ sent-at ps i s v.bound v.rest

-- ---- the packets offered are the first of those left

pub fits_more : (s e t k : ℕ) (rest : List (List ℕ)) → Fits s e t (take k rest) → Fits s e t rest
fits_more s zero zero k rest h = h
fits_more s zero (suc t) zero rest h = absurd h
fits_more s zero (suc t) (suc k) [] h = absurd h
fits_more s zero (suc t) (suc k) (p ∷ ps) h = h
fits_more s (suc e) t zero rest h = absurd h
fits_more s (suc e) t (suc k) [] h = absurd h
fits_more s (suc e) t (suc k) (p ∷ ps) h = fits_more 0 e t k ps h

pub cut-more : (s e t k : ℕ) (rest : List (List ℕ)) → Fits s e t (take k rest) → cut s e t (take k rest) ≡ cut s e t rest
unfolding cut
cut-more s zero zero k rest h = cut-none s (take k rest) ∙ sym (cut-none s rest)
cut-more s zero (suc t) zero rest h = absurd h
cut-more s zero (suc t) (suc k) [] h = absurd h
cut-more s zero (suc t) (suc k) (p ∷ ps) h = refl
cut-more s (suc e) t zero rest h = absurd h
cut-more s (suc e) t (suc k) [] h = absurd h
cut-more s (suc e) t (suc k) (p ∷ ps) h = ap (λ (l : List (List ℕ)). drop s p ∷ l) (cut-more 0 e t k ps h)

pub sized-take : (k : ℕ) (rest : List (List ℕ)) → Sized rest → Sized (take k rest)
sized-take zero rest z = tt
sized-take (suc k) [] z = tt
sized-take (suc k) (p ∷ ps) z = (z.0, z.1, sized-take k ps z.2)
