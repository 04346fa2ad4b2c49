-- What receivers logged is never refused with 23.
use mathlib.Core.Path.{◌≡◌}
use mathlib.Core.Bool.{Bool, true, false, not, ◌||◌, cond}
use mathlib.Core.List.{List, [], ◌∷◌}
use Prim.Native.Nat.{ℕ}
use lib.Dec.{eqb}
use lib.ListN.{take}
use Rattle.algebra.specs.Places.{All}
use Rattle.writer.specs.RoundTrip.{Bytes}
use Rattle.join.specs.Join.{is_log}
use Rattle.join.proofs.Logs.{log-after, never-23}
use Rattle.delivery.specs.Delivery.{Station, Call, receive, batch, mark_lost, effect_of, defined, station_after, taken_by, logged_by, seen_from, logs_in, alone, paired}
use Rattle.delivery.specs.Interruptions.{BytesIn}
use Rattle.joinable.specs.Joinable.{NeverRefused}
use Rattle.joinable.proofs.Calls.{no_words, received-log, carry-bytes, lost-log}
use Rattle.joinable.proofs.Batches.{batch-log}
use Rattle.joinable.proofs.Pairs.{pair-log}

-- ---- a call: its log as far as its answer counts, and the carry after it

call-log : (x : Station) (c : Call) → Bytes x.carry → BytesIn c → (is_log (take (effect_of x c).answer.words (effect_of x c).log) ≡ true) × Bytes (effect_of x c).carry
call-log x (receive (alone marks pdu) log) b h = (received-log marks x.carry pdu log x.receiver b h, carry-bytes marks x.carry pdu log x.receiver b h)
call-log x (batch lengths pdus log) b h = batch-log lengths x.carry pdus log x.receiver b h
call-log x (receive (paired first second) log) b h = pair-log x.carry first second log x.receiver b h.0 h.1
call-log x (mark_lost log) b h = (lost-log log x.receiver, b)

-- where its log does not count, nothing is logged
counted-log : (t : Bool) (l : List ℕ) → is_log l ≡ true → is_log (cond t l []) ≡ true
counted-log true l e = e
counted-log false l e = no_words

-- ---- lists of calls

pub logs-log : (x : Station) (calls : List Call) → Bytes x.carry → All BytesIn calls → is_log (logs_in (seen_from defined x calls)) ≡ true
logs-log x [] b h = no_words
logs-log x (c ∷ calls) b h =
    let f = call-log x c b h.0 in
    log-after (logged_by defined x c) (logs_in (seen_from defined (station_after defined x c) calls))
    (counted-log (eqb (effect_of x c).answer.refusal 0 || not (eqb (taken_by defined x c) 0)) (take (effect_of x c).answer.words (effect_of x c).log) f.0)
    (logs-log (station_after defined x c) calls f.1 h.1)

pub never-refused : NeverRefused
never-refused core enhanced calls others room b c h i =
    never-23 (logs_in (seen_from defined core calls)) (logs_in (seen_from defined enhanced others)) room (logs-log core calls b h) (logs-log enhanced others c i)
