-- The receivers that document 01 wants thrown out by demand 3, one that delivers a packet for a PDU marked lost, one that joins across a lost PDU, one that
-- does not take the register it is given, one whose batches hand back the receiver that they got, one that takes the whole of the better copy, one that looks at no CRC, and one whose counts
-- marking lost sets back. Each is the receiver of document 01 but for what its line says; demand 3 is shown false of `zeroed` in proofs/Registers.antt, of `handing_back` in proofs/BatchRuns.antt, and of the others in
-- proofs/WrongReceivers.antt, but the promise over runs of pairs of `choosing`, in proofs/PairRuns.antt, the promise for entitled programs of `supposing` and
-- `keeping`, in proofs/WrongRights.antt, and the promise over bursts of `trusting`, in proofs/WrongBursts.antt.
use mathlib.Core.Bool.{◌||◌, cond}
use mathlib.Core.List.{List, [], ◌∷◌, map}
use Prim.Native.Nat.{ℕ}
use lib.Dec.{eqb}
use lib.ListN.{length}
use Rattle.buffer.specs.Buffer.{put_at}
use Rattle.packet_log.specs.Log.{Entry, packet, log_words}
use Rattle.reassembly.specs.Reassembly.{Piece, received, forgotten}
use Rattle.reassembly.specs.Holder.{Come}
use Rattle.receiver.specs.Receiving.{memory_of, kept_of, tally_of, remembering, keeps_services, shown, mode_of, come}
use Rattle.receiver.specs.declared.Receiver.{Receiver}
use Rattle.diversity.specs.Diversity.{Choice, neither, the_first, the_second, choice_of}
use Rattle.delivery.proofs.Parts.{answer_of, carry_of, log_of}
use Rattle.batch.specs.declared.Batch.{Batch}
use Rattle.delivery.specs.Delivery.{Behaviour, Station, Call, receive, batch, mark_lost, defined, alone, paired}

-- a receiver by what each of its calls answers and leaves in carry and log
abbrev behaving : ((mode stream register : ℕ) (programs : List ℕ) → Receiver) → (Station → Call → Batch) → (Station → Call → List ℕ) → (Station → Call → List ℕ) → Behaviour
behaving opening answer carry log = record { opening = opening; effect = λ x c. record { answer = answer x c; carry = carry x c; log = log x c } }

-- an answer with another count of words, or with another receiver
abbrev pub with_words : ℕ → Batch → Batch
with_words n a = record { refusal = a.refusal; wrong = a.wrong; taken = a.taken; words = n; receiver = a.receiver }

abbrev pub with_receiver : Receiver → Batch → Batch
with_receiver r a = record { refusal = a.refusal; wrong = a.wrong; taken = a.taken; words = a.words; receiver = r }

-- the log as it was lent
abbrev pub lent_log : Call → List ℕ
lent_log (receive copies log) = log
lent_log (batch lengths pdus log) = log
lent_log (mark_lost log) = log

-- what a call says or leaves, but for one kind of call: a PDU alone, a batch, or marking lost
abbrev pub but_alone : {A : Type 0} → (Station → Call → A) → (Station → List ℕ → List ℕ → List ℕ → A) → Station → Call → A
but_alone usual own x (receive (alone marks pdu) log) = own x marks pdu log
but_alone usual own x (batch lengths pdus log) = usual x (batch lengths pdus log)
but_alone usual own x (receive (paired first second) log) = usual x (receive (paired first second) log)
but_alone usual own x (mark_lost log) = usual x (mark_lost log)

abbrev pub but_batches : {A : Type 0} → (Station → Call → A) → (Station → List ℕ → List ℕ → List ℕ → A) → Station → Call → A
but_batches usual own x (receive copies log) = usual x (receive copies log)
but_batches usual own x (batch lengths pdus log) = own x lengths pdus log
but_batches usual own x (mark_lost log) = usual x (mark_lost log)

abbrev pub but_lost : {A : Type 0} → (Station → Call → A) → (Station → List ℕ → A) → Station → Call → A
but_lost usual own x (receive copies log) = usual x (receive copies log)
but_lost usual own x (batch lengths pdus log) = usual x (batch lengths pdus log)
but_lost usual own x (mark_lost log) = own x log

-- an empty log for everything
abbrev pub silent : Behaviour
silent = behaving defined.opening (λ x c. with_words 0 (answer_of x c)) carry_of (λ x c. lent_log c)

-- it leaves the log untouched
abbrev pub untouched : Behaviour
untouched = behaving defined.opening answer_of carry_of (λ x c. lent_log c)

-- it delivers one fixed packet for every PDU handed to it by a single call, also for one that it refuses
module _ (number : ℕ) (bytes : List ℕ) where
  abbrev pub fixed_words : List ℕ
  fixed_words = log_words (packet number bytes ∷ [])

  abbrev pub fixed_answer : Station → Call → Batch
  fixed_answer = but_alone answer_of (λ x marks pdu log. with_words (length fixed_words) (answer_of x (receive (alone marks pdu) log)))

  abbrev pub fixed_log : Station → Call → List ℕ
  fixed_log = but_alone log_of (λ x marks pdu log. put_at log 0 fixed_words)

  abbrev pub fixed : Behaviour
  fixed = behaving defined.opening fixed_answer carry_of fixed_log

  -- it delivers the packet for every PDU marked lost, and says that it took none
  abbrev pub inventing_answer : Station → Call → Batch
  inventing_answer = but_lost answer_of (λ x log. record { refusal = (answer_of x (mark_lost log)).refusal; wrong = 0; taken = 0; words = length fixed_words; receiver = (answer_of x (mark_lost log)).receiver })

  abbrev pub inventing_log : Station → Call → List ℕ
  inventing_log = but_lost log_of (λ x log. put_at log 0 fixed_words)

  abbrev pub inventing : Behaviour
  inventing = behaving defined.opening inventing_answer carry_of inventing_log

-- it joins in the first PDU, and then, by single calls, only advances
abbrev pub advancing_answer : Station → Call → Batch
advancing_answer = but_alone answer_of (λ x marks pdu log. cond x.receiver.known (with_words 0 (answer_of x (receive (alone marks pdu) log))) (answer_of x (receive (alone marks pdu) log)))

abbrev pub advancing : Behaviour
advancing = behaving defined.opening advancing_answer carry_of log_of

-- marking lost leaves it as it was, so that the one-bit sequence may fit again
abbrev pub joining_answer : Station → Call → Batch
joining_answer = but_lost answer_of (λ x log. with_receiver x.receiver (answer_of x (mark_lost log)))

abbrev pub joining : Behaviour
joining = behaving defined.opening joining_answer carry_of log_of

-- it opens with a register of 0, whatever is asked for (document 02, Ask 2)
abbrev pub zeroed : Behaviour
zeroed = behaving (λ mode stream register programs. defined.opening mode stream 0 programs) answer_of carry_of log_of

-- a batch hands back the receiver that it got (document 02, Ask 1)
abbrev pub handing_back_answer : Station → Call → Batch
handing_back_answer = but_batches answer_of (λ x lengths pdus log. with_receiver x.receiver (answer_of x (batch lengths pdus log)))

abbrev pub handing_back : Behaviour
handing_back = behaving defined.opening handing_back_answer carry_of log_of

-- it chooses the better copy of a pair and receives that one alone (document 02, Ask 5)
abbrev pub chosen_copy : Choice → List ℕ → List ℕ → List ℕ
chosen_copy neither first second = []
chosen_copy the_first first second = first
chosen_copy the_second first second = second

abbrev pub better_alone : Call → Call
better_alone (receive (alone marks pdu) log) = receive (alone marks pdu) log
better_alone (batch lengths pdus log) = batch lengths pdus log
better_alone (receive (paired first second) log) = receive (alone [] (chosen_copy (choice_of first second) first second)) log
better_alone (mark_lost log) = mark_lost log

abbrev pub choosing : Behaviour
choosing = behaving defined.opening (λ x c. answer_of x (better_alone c)) (λ x c. carry_of x (better_alone c)) (λ x c. log_of x (better_alone c))

-- ---- document 02, Ask 10, for core of sequence range 0-7

-- applied services that are unknown count as 0
abbrev pub assuming : Receiver → Receiver
assuming r = record {
  mode = r.mode;
  stream = r.stream;
  register = r.register;
  entitled = r.entitled;
  known = r.known;
  sequence = r.sequence;
  held = r.held;
  number = r.number;
  serviced = r.serviced || keeps_services (mode_of r).sequences r;
  services = r.services;
  delivered = r.delivered;
  missing = r.missing;
  last = r.last;
}

abbrev pub assumed : Station → Station
assumed x = record { receiver = assuming x.receiver; carry = x.carry }

abbrev pub supposing : Behaviour
supposing = behaving defined.opening (λ x c. answer_of (assumed x) c) (λ x c. carry_of (assumed x) c) (λ x c. log_of (assumed x) c)

-- marking lost keeps the applied services
abbrev pub services_kept : Station → Receiver
services_kept x = remembering x.receiver forgotten (kept_of x.receiver) (tally_of x.receiver)

abbrev pub keeping_answer : Station → Call → Batch
keeping_answer = but_lost answer_of (λ x log. with_receiver (services_kept x) (answer_of x (mark_lost log)))

abbrev pub keeping : Behaviour
keeping = behaving defined.opening keeping_answer carry_of log_of

-- ---- document 02, Ask 12: by single calls it logs a PDU as if the CRC of each piece were right

abbrev pub piece_taken : Piece → Piece
piece_taken p = record { cause = 0; bytes = p.bytes }

abbrev pub all_taken : Come → Come
all_taken d = record {
  said = record {
    sequence = d.said.sequence;
    pfirst = d.said.pfirst;
    plast = d.said.plast;
    start = d.said.start;
    psd_bytes = d.said.psd_bytes;
    pieces = map piece_taken d.said.pieces;
    withheld = d.said.withheld;
  };
  label = d.label;
}

module _ (x : Station) (marks pdu log : List ℕ) where
  abbrev pub trusted_entries : List Entry
  trusted_entries =
      let r = x.receiver in
      (received (mode_of r).sequences (memory_of r x.carry) (shown (mode_of r).sequences r x.carry (all_taken (come marks x.carry pdu log r)))).entries

  abbrev pub trusted_words : List ℕ
  trusted_words = log_words trusted_entries

abbrev pub trusting_answer : Station → Call → Batch
trusting_answer = but_alone answer_of (λ x marks pdu log. let a = answer_of x (receive (alone marks pdu) log) in with_words (cond (eqb a.refusal 0) (length (trusted_words x marks pdu log)) 0) a)

abbrev pub trusting_log : Station → Call → List ℕ
trusting_log = but_alone log_of (λ x marks pdu log. cond (eqb (answer_of x (receive (alone marks pdu) log)).refusal 0) (put_at log 0 (trusted_words x marks pdu log)) log)

abbrev pub trusting : Behaviour
trusting = behaving defined.opening trusting_answer carry_of trusting_log

-- ---- document 02, Ask 14

-- marking lost sets the counts back to 0
abbrev pub uncounted : Receiver → Receiver
uncounted r = record {
  mode = r.mode;
  stream = r.stream;
  register = r.register;
  entitled = r.entitled;
  known = r.known;
  sequence = r.sequence;
  held = r.held;
  number = r.number;
  serviced = r.serviced;
  services = r.services;
  delivered = 0;
  missing = 0;
  last = 0;
}

abbrev pub resetting_answer : Station → Call → Batch
resetting_answer = but_lost answer_of (λ x log. with_receiver (uncounted (answer_of x (mark_lost log)).receiver) (answer_of x (mark_lost log)))

abbrev pub resetting : Behaviour
resetting = behaving defined.opening resetting_answer carry_of log_of
