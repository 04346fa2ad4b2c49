-- The definitions of the claims' pages at small values, computed: a wrong definition is refused here first.
use mathlib.Core.Path.{◌≡◌, refl}
use mathlib.Core.Bool.{true, false}
use mathlib.Core.List.{List, [], ◌∷◌, map}
use Prim.Native.Nat.{ℕ}
use Rattle.packet_log.specs.Log.{packet, data_words, entry_words, log_words, same_list}
use Rattle.runs.specs.Spans.{Span, lies, packet_at, every, due_at}
use Rattle.runs.proofs.Model.{whole_packets}
use Rattle.runs.proofs.Calls.{plain_fate}
use Rattle.delivery.specs.Delivery.{already_sent, defined, mark_lost, logged_by, in_received, receives, alone, loses}
use Rattle.layout.specs.Control.{control_of}
use Rattle.layout.specs.Locators.{locator16}
use Rattle.buffer.specs.Buffer.{put_at}
use Rattle.modes.specs.Modes.{listing}
use Rattle.reassembly.specs.Reassembly.{lost_entries}
use Rattle.receiver.specs.Receiving.{fresh, lost_number, lost_answer, log_after_lost}
use Rattle.delivery.specs.Copies.{as_sent, ways_from}

-- packets of 5, 2 and 3 bytes in four PDUs: 3 bytes; 2 and 1; 1 and 2; 1
abbrev three : List (List ℕ)
three = (1 ∷ 2 ∷ 3 ∷ 4 ∷ 5 ∷ []) ∷ (6 ∷ 7 ∷ []) ∷ (8 ∷ 9 ∷ 10 ∷ []) ∷ []

abbrev four_spans : List Span
four_spans = record { from = 0; count = 3 } ∷ record { from = 3; count = 3 } ∷ record { from = 6; count = 3 } ∷ record { from = 9; count = 1 } ∷ []

-- six bytes sent: packet 1 is unfinished, with one of its bytes sent
pub six-sent : (packet_at three 6 ≡ 1) × (already_sent three 6 ≡ 1)
six-sent = (refl, refl)

-- the second PDU lost: packets 0 and 1 have bytes in it
pub second-lost : whole_packets (every (in_received four_spans (true ∷ false ∷ true ∷ true ∷ []))) 0 0 three ≡ packet 2 (8 ∷ 9 ∷ 10 ∷ []) ∷ []
unfolding whole_packets
second-lost = refl

-- over a channel, the second PDU lost
pub second-missing : whole_packets (due_at (lies three four_spans (map plain_fate (ways_from (as_sent 16) ([] ∷ [] ∷ [] ∷ [] ∷ []) (receives (alone [] []) [] ∷ loses [] ∷ receives (alone [] []) [] ∷ receives (alone [] []) [] ∷ []))))) 0 0 three ≡ packet 2 (8 ∷ 9 ∷ 10 ∷ []) ∷ []
unfolding whole_packets same_list control_of locator16
second-missing = refl

-- of a PDU marked lost, with a log of two words, the word is logged that the answer counts
pub lost-counted : logged_by defined (record { receiver = fresh 1 0 0 255; carry = [] }) (mark_lost (0 ∷ 0x41440000 ∷ [])) ≡ log_words lost_entries
unfolding listing lost_number lost_answer log_after_lost put_at log_words entry_words data_words
lost-counted = refl
