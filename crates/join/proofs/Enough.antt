-- As many words as both logs have together always suffice for the result.
use mathlib.Core.Path.{◌≡◌, refl, sym, ap, subst, ◌∙◌}
use mathlib.Core.Bool.{Bool, true, false, not, ◌&&◌, cond, true≢false}
use mathlib.Core.List.{List, [], ◌∷◌, ◌++◌}
use Prim.Native.Nat.{ℕ, ◌+◌, ◌-◌, ◌%◌, ◌<◌, ◌≤◌}
use native.Mathlib.Omega.{arith}
use lib.Dec.{eqb, ltb}
use lib.ListN.{length, length-append}
use borrow.Author.Tests.{lt-ltb, ltb-true, eqb-true, ne_eqb}
use Rattle.packet_log.specs.Log.{Entry, packet, psd, note, entry_words, log_words}
use Rattle.join.specs.Join.{entries_of, is_log, numbers_of, counted_from, rising_after, rising, out_of_order, with_bit29, partner_of, side_by_side, result_words, join_refusal}
use Rattle.bits.proofs.Tests.{both}
use Rattle.join.proofs.Entries.{log-words}

-- ---- numbers that rise are distinct

abbrev Absent : ℕ → List ℕ → Type 0
Absent m [] = Unit {0}
Absent m (n ∷ ns) = (eqb m n ≡ false) × Absent m ns

abbrev Distinct : List ℕ → Type 0
Distinct [] = Unit {0}
Distinct (n ∷ ns) = Absent n ns × Distinct ns

abbrev Above : ℕ → ℕ → List ℕ → Type 0
Above first last [] = Unit {0}
Above first last (n ∷ ns) = (last < counted_from first n) × Above first last ns

above-less : (first a b : ℕ) (ns : List ℕ) → a ≤ b → Above first b ns → Above first a ns
above-less first a b [] h p = tt
above-less first a b (n ∷ ns) h p = (omega (arith, p.0, h), above-less first a b ns h p.1)

rising-above : (first last : ℕ) (ns : List ℕ) → rising_after first last ns ≡ true → Above first last ns
unfolding rising_after
rising-above first last [] e = tt
rising-above first last (n ∷ ns) e =
    let p = both (ltb last (counted_from first n)) (rising_after first (counted_from first n) ns) e in
    let l = ltb-true last (counted_from first n) p.0 in
    (l, above-less first last (counted_from first n) ns (omega (arith, l)) (rising-above first (counted_from first n) ns p.1))

above-absent : (first m last : ℕ) (ns : List ℕ) → counted_from first m ≡ last → Above first last ns → Absent m ns
above-absent first m last [] c p = tt
above-absent first m last (n ∷ ns) c p =
    (ne_eqb m n (λ e. let q = ap (counted_from first) e in omega (arith, p.0, c, q)), above-absent first m last ns c p.1)

rising-distinct : (first last : ℕ) (ns : List ℕ) → rising_after first last ns ≡ true → Distinct ns
unfolding rising_after
rising-distinct first last [] e = tt
rising-distinct first last (n ∷ ns) e =
    let p = both (ltb last (counted_from first n)) (rising_after first (counted_from first n) ns) e in
    (above-absent first n (counted_from first n) ns refl (rising-above first (counted_from first n) ns p.1), rising-distinct first (counted_from first n) ns p.1)

-- the first counts 0
counted-self : (n : ℕ) → counted_from n n ≡ 0
counted-self n =
    let p : n + 64 - n ≡ 64 = omega arith in
    ap (λ (k : ℕ). k % 64) p

distinct : (ns : List ℕ) → rising ns ≡ true → Distinct ns
unfolding rising
distinct [] e = tt
distinct (n ∷ ns) e = (above-absent n n 0 ns (counted-self n) (rising-above n 0 ns e), rising-distinct n 0 ns e)

-- ---- how many words the enhanced packets of some numbers have

abbrev partners : List Entry → List ℕ → ℕ
partners enhanced [] = 0
partners enhanced (n ∷ ns) = length (partner_of enhanced n) + partners enhanced ns

marked-size : (ws : List ℕ) → length (with_bit29 ws) ≡ length ws
unfolding with_bit29
marked-size [] = refl
marked-size (w ∷ ws) = refl

none-partners : (ns : List ℕ) → partners [] ns ≡ 0
unfolding partner_of
none-partners [] = refl
none-partners (n ∷ ns) = omega (arith, none-partners ns)

same-partners : (a b : List Entry) → ((n : ℕ) → length (partner_of a n) ≡ length (partner_of b n)) → (ns : List ℕ) → partners a ns ≡ partners b ns
same-partners a b f [] = refl
same-partners a b f (n ∷ ns) = omega (arith, f n, same-partners a b f ns)

-- a packet more at the front of the enhanced log
module _ (m : ℕ) (bytes : List ℕ) (es : List Entry) where
  here : (n : ℕ) → eqb m n ≡ true → length (partner_of (packet m bytes ∷ es) n) ≡ length (entry_words (packet m bytes))
  unfolding partner_of
  here n e = ap (λ (b : Bool). length (cond b (with_bit29 (entry_words (packet m bytes))) (partner_of es n))) e ∙ marked-size (entry_words (packet m bytes))

  past : (n : ℕ) → eqb m n ≡ false → length (partner_of (packet m bytes ∷ es) n) ≡ length (partner_of es n)
  unfolding partner_of
  past n e = ap (λ (b : Bool). length (cond b (with_bit29 (entry_words (packet m bytes))) (partner_of es n))) e

  -- of a number that is not asked for, nothing comes of it
  absent-same : (ns : List ℕ) → Absent m ns → partners (packet m bytes ∷ es) ns ≡ partners es ns
  absent-same [] a = refl
  absent-same (n ∷ ns) a = omega (arith, past n a.0, absent-same ns a.1)

  -- it comes once at most
  one_more : (ns : List ℕ) → Distinct ns → partners (packet m bytes ∷ es) ns ≤ length (entry_words (packet m bytes)) + partners es ns
  one_more [] d = omega arith
  one_more (n ∷ ns) d = go (eqb m n) refl (one_more ns d.1)
    where
      go : (b : Bool) → eqb m n ≡ b → partners (packet m bytes ∷ es) ns ≤ length (entry_words (packet m bytes)) + partners es ns
          → partners (packet m bytes ∷ es) (n ∷ ns) ≤ length (entry_words (packet m bytes)) + partners es (n ∷ ns)
      go true e r = omega (arith, here n e, absent-same ns (subst (λ (k : ℕ). Absent k ns) (sym (eqb-true m n e)) d.0))
      go false e r = omega (arith, past n e, r)

-- distinct numbers have no more words than the enhanced log
partners-size : (enhanced : List Entry) (ns : List ℕ) → Distinct ns → partners enhanced ns ≤ length (log_words enhanced)
unfolding log_words partner_of
partners-size [] ns d = omega (arith, none-partners ns)
partners-size (packet m bytes ∷ es) ns d =
    omega (arith, one_more m bytes es ns d, partners-size es ns d, length-append (entry_words (packet m bytes)) (log_words es))
partners-size (psd bytes ∷ es) ns d = omega (arith, same-partners (psd bytes ∷ es) es (λ n. refl) ns, partners-size es ns d, length-append (entry_words (psd bytes)) (log_words es))
partners-size (note cause piece ∷ es) ns d =
    omega (arith, same-partners (note cause piece ∷ es) es (λ n. refl) ns, partners-size es ns d, length-append (entry_words (note cause piece)) (log_words es))

-- ---- the result

result-size : (enhanced es : List Entry) → length (side_by_side enhanced es) ≤ length (log_words es) + partners enhanced (numbers_of es)
unfolding log_words side_by_side numbers_of
result-size enhanced [] = omega arith
result-size enhanced (packet n bytes ∷ es) =
    omega (
      arith,
      result-size enhanced es,
      length-append (entry_words (packet n bytes)) (partner_of enhanced n ++ side_by_side enhanced es),
      length-append (partner_of enhanced n) (side_by_side enhanced es),
      length-append (entry_words (packet n bytes)) (log_words es),
    )
result-size enhanced (psd bytes ∷ es) = omega (arith, result-size enhanced es, length-append (entry_words (psd bytes)) (log_words es))
result-size enhanced (note cause piece ∷ es) = omega (arith, result-size enhanced es, length-append (entry_words (note cause piece)) (log_words es))

in_order : (core enhanced : List ℕ) → out_of_order core enhanced ≡ false → rising core ≡ true
unfolding out_of_order
in_order [] enhanced e = unfold rising in refl
in_order (n ∷ ns) enhanced e = go (ltb 0 (length (n ∷ ns))) (rising (n ∷ ns)) (rising enhanced) (lt-ltb 0 (length (n ∷ ns)) (omega arith)) e
  where
    go : (t p q : Bool) → t ≡ true → (t && not (p && q)) ≡ false → p ≡ true
    go true true q s f = refl
    go true false q s f = absurd (true≢false f)
    go false p q s f = absurd (true≢false (sym s))

thirteen : (a b q r : Bool) → ◌≡◌ {A = ℕ} (cond (not (a && b)) 23 (cond q 24 (cond r 13 0))) 13 → (a ≡ true) × (b ≡ true) × (q ≡ false) × (r ≡ true)
thirteen false b q r e = absurd (omega arith)
thirteen true false q r e = absurd (omega arith)
thirteen true true true r e = absurd (omega arith)
thirteen true true false true e = (refl, refl, refl, refl)
thirteen true true false false e = absurd (omega arith)

-- so no such result buffer is refused with 13
pub enough : (core enhanced : List ℕ) (room : ℕ) → length core + length enhanced ≤ room → join_refusal core enhanced room ≡ 13 → ⊥
unfolding join_refusal
enough core enhanced room h e =
    let p =
    thirteen (is_log core) (is_log enhanced) (out_of_order (numbers_of (entries_of core)) (numbers_of (entries_of enhanced))) (ltb room (length (result_words core enhanced))) e in
    let c = log-words core p.0 in
    let d = log-words enhanced p.1 in
    let l = ltb-true room (length (result_words core enhanced)) p.3 in
    let s = result-size (entries_of enhanced) (entries_of core) in
    let t = partners-size (entries_of enhanced) (numbers_of (entries_of core)) (distinct (numbers_of (entries_of core)) (in_order (numbers_of (entries_of core)) (numbers_of (entries_of enhanced)) p.2)) in
    omega (arith, h, l, s, t, ap length c.2, ap length d.2)
