-- Document 02, Ask 14: delivered and missing.
use Rattle.std.specs.Prelude.{Bool, ◌||◌, cond, List, [], ◌∷◌, ℕ, zero, suc, ◌+◌, ◌-◌, ◌%◌, ◌≤◌, eqb, ltb}
use Rattle.packet_log.specs.Log.{Entry, packet, psd, note}
use Rattle.reassembly.specs.declared.Tally.{Tally as Counts}

-- counts, and the last delivered number; with delivered 0 the other two are 0
abbrev pub Tally : Type 0
Tally = Counts

abbrev pub no_tally : Tally
no_tally = record { delivered = 0; missing = 0; last = 0 }

-- a number minus the last minus 1, modulo 64; the last is at most 63
abbrev pub gap : ℕ → ℕ → ℕ
gap last n = (n + 63 - last) % 64

-- a delivery of number n: after the first, each adds its gap
unfoldable pub counted : Tally → ℕ → Tally
counted t n = record { delivered = suc t.delivered; missing = t.missing + cond (eqb t.delivered 0) 0 (gap t.last n); last = n }

-- the deliveries among entries
unfoldable pub tallied : Tally → List Entry → Tally
tallied t [] = t
tallied t (packet n b ∷ es) = tallied (counted t n) es
tallied t (psd b ∷ es) = tallied t es
tallied t (note c k ∷ es) = tallied t es

-- counts at least as high
pub record Grows (t u : Tally) : Type 0 where
  pub delivered : t.delivered ≤ u.delivered
  pub missing : t.missing ≤ u.missing

-- neither count passes 4,294,967,295
abbrev pub Countable : Tally → Type 0
Countable t = (t.delivered ≤ 4294967295) × (t.missing ≤ 4294967295)

-- 27: a count passes 4,294,967,295
abbrev pub passes_limit : Tally → Bool
passes_limit t = ltb 4294967295 t.delivered || ltb 4294967295 t.missing
