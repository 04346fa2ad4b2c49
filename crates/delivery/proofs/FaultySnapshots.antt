-- Ways to write a receiver out and read it again that forget something. Each is that of document 02, Ask 13, but for what its line says; the claim of
-- Interruptions.antt is shown false of each in proofs/InterruptedRuns.antt.
use mathlib.Core.Bool.{false}
use Rattle.receiver.specs.declared.Receiver.{Receiver}
use Rattle.snapshot.specs.Snapshot.{loaded}
use Rattle.delivery.specs.Delivery.{Station}
use Rattle.delivery.specs.Interruptions.{Snapshot, defined_snapshot}

-- what is loaded comes back otherwise
abbrev pub changing : (Receiver → Receiver) → Snapshot
changing f = record { saved = defined_snapshot.saved; words = defined_snapshot.words; loaded = λ ws c. record { refusal = (loaded ws c).refusal; receiver = f (loaded ws c).receiver }; carry = defined_snapshot.carry }

-- the starting register: CRCs start with 0
abbrev pub unregistered : Receiver → Receiver
unregistered r = record { mode = r.mode; stream = r.stream; register = 0; entitled = r.entitled; known = r.known; sequence = r.sequence; held = r.held; number = r.number; serviced = r.serviced; services = r.services; delivered = r.delivered; missing = r.missing; last = r.last }

abbrev pub forgets_register : Snapshot
forgets_register = changing unregistered

-- the last sequence
abbrev pub unsequenced : Receiver → Receiver
unsequenced r = record { mode = r.mode; stream = r.stream; register = r.register; entitled = r.entitled; known = false; sequence = 0; held = r.held; number = r.number; serviced = r.serviced; services = r.services; delivered = r.delivered; missing = r.missing; last = r.last }

abbrev pub forgets_sequence : Snapshot
forgets_sequence = changing unsequenced

-- the held bytes: the carry stays as it was lent
abbrev pub forgets_held : Snapshot
forgets_held = record { saved = defined_snapshot.saved; words = defined_snapshot.words; loaded = defined_snapshot.loaded; carry = λ ws c. c }

-- the counts: no word of kind 6 is written (document 02, Ask 14). Its words are those of the receiver with nothing delivered
abbrev pub uncounted : Station → Station
uncounted x =
    let r = x.receiver in
    record {
      receiver = record { mode = r.mode; stream = r.stream; register = r.register; entitled = r.entitled; known = r.known; sequence = r.sequence; held = r.held; number = r.number; serviced = r.serviced; services = r.services; delivered = 0; missing = 0; last = 0 };
      carry = x.carry;
    }

abbrev pub forgets_counts : Snapshot
forgets_counts = record { saved = λ x. defined_snapshot.saved (uncounted x); words = λ x. defined_snapshot.words (uncounted x); loaded = defined_snapshot.loaded; carry = defined_snapshot.carry }
