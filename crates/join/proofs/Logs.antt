-- Logs one after another are a log, and logs are never refused with 23.
use mathlib.Core.Path.{◌≡◌, sym, ap₂, subst, ◌∙◌}
use mathlib.Core.Bool.{Bool, true, false, not, ◌&&◌, cond, true≢false}
use mathlib.Core.List.{List, [], ◌∷◌, ◌++◌}
use Prim.Native.Nat.{ℕ}
use native.Mathlib.Omega.{arith}
use lib.Dec.{ltb}
use lib.ListN.{length}
use Rattle.packet_log.specs.Log.{Entry}
use Rattle.packet_log.proofs.Words.{log-append}
use Rattle.packet_log.proofs.Packets.{fit_append}
use Rattle.join.specs.Join.{entries_of, sized, all_sized, is_log, numbers_of, out_of_order, result_words, join_refusal}
use Rattle.bits.proofs.Tests.{both, one-and}
use Rattle.join.proofs.Entries.{words-log, log-words}

pub sized-append : (a b : List Entry) → all_sized a ≡ true → all_sized b ≡ true → all_sized (a ++ b) ≡ true
unfolding all_sized
sized-append [] b e f = f
sized-append (x ∷ a) b e f =
    let p = both (sized x) (all_sized a) e in
    one-and (sized x) (all_sized (a ++ b)) p.0 (sized-append a b p.1 f)

pub log-after : (a b : List ℕ) → is_log a ≡ true → is_log b ≡ true → is_log (a ++ b) ≡ true
log-after a b e f =
    let p = log-words a e in
    let q = log-words b f in
    subst (λ (ws : List ℕ). is_log ws ≡ true) (log-append (entries_of a) (entries_of b) ∙ ap₂ (λ (x y : List ℕ). x ++ y) p.2 q.2)
    (words-log (entries_of a ++ entries_of b) (fit_append (entries_of a) (entries_of b) p.0 q.0) (sized-append (entries_of a) (entries_of b) p.1 q.1))

later : (p q r s : Bool) → p ≡ true → q ≡ true → ◌≡◌ {A = ℕ} (cond (not (p && q)) 23 (cond r 24 (cond s 13 0))) 23 → ⊥
later false q r s e f g = absurd (true≢false (sym e))
later true false r s e f g = absurd (true≢false (sym f))
later true true true s e f g = omega arith
later true true false true e f g = omega arith
later true true false false e f g = omega arith

pub never-23 : (core enhanced : List ℕ) (room : ℕ) → is_log core ≡ true → is_log enhanced ≡ true → join_refusal core enhanced room ≡ 23 → ⊥
unfolding join_refusal
never-23 core enhanced room e f =
    later (is_log core) (is_log enhanced) (out_of_order (numbers_of (entries_of core)) (numbers_of (entries_of enhanced))) (ltb room (length (result_words core enhanced))) e f
