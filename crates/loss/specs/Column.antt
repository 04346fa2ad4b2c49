-- Document 02, Ask 14: the loss column after the words of a log (document 01, "Receiver").
use Rattle.std.specs.Prelude.{ℕ, ◌/◌, ◌%◌, cond, List, [], ◌∷◌, ◌==◌}
use Rattle.packet_log.specs.Log.{kind_of}
use Rattle.reassembly.specs.Tally.{Tally, counted}
use Rattle.receiver.specs.declared.Receiver.{Receiver}
use Rattle.loss.specs.declared.Loss.{Loss}

-- delivered, missing and the last delivered number
abbrev pub tally_in : Loss → Tally
tally_in l = record { delivered = l.delivered; missing = l.missing; last = l.last }

-- a receiver's record with these three, and else as it was
abbrev pub with_tally : Receiver → Tally → Receiver
with_tally r t = record {
  mode = r.mode;
  stream = r.stream;
  register = r.register;
  entitled = r.entitled;
  known = r.known;
  sequence = r.sequence;
  held = r.held;
  number = r.number;
  serviced = r.serviced;
  services = r.services;
  delivered = t.delivered;
  missing = t.missing;
  last = t.last;
}

-- counts of 32 bits and a number of 6, each modulo its range
abbrev pub wrapped : Tally → Tally
wrapped t = record { delivered = t.delivered % 0x100000000; missing = t.missing % 0x100000000; last = t.last % 64 }

-- a word of kind 0 begins a packet, whose number is in bits 21-16: a delivery; other words change nothing
unfoldable pub after_word : Tally → ℕ → Tally
after_word t w = cond (kind_of w == 0) (wrapped (counted (wrapped t) (w / 0x10000 % 64))) t

-- word by word
unfoldable pub after_words : Tally → List ℕ → Tally
after_words t [] = t
after_words t (w ∷ ws) = after_words (after_word t w) ws
