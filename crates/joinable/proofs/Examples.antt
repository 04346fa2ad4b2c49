-- What calls logged, computed.
use mathlib.Core.Path.{◌≡◌, refl}
use mathlib.Core.Bool.{true}
use mathlib.Core.List.{List, [], ◌∷◌}
use Rattle.buffer.specs.Buffer.{put_at}
use Rattle.modes.specs.Modes.{listing}
use Rattle.packet_log.specs.Log.{data_words, entry_words, log_words, same_list, data_bytes}
use Rattle.receiver.specs.Receiving.{fresh, lost_number, lost_answer, log_after_lost}
use Rattle.join.specs.Join.{data_of, begun_entry, entries_of, sized, all_sized, is_log}
use Rattle.delivery.specs.Delivery.{Station, Call, mark_lost, defined, seen_from, logs_in}

-- a PDU marked lost, with a log of two words of which the second is a data word, as it was lent
abbrev lost : List Call
lost = mark_lost (0 ∷ 0x41440000 ∷ []) ∷ []

abbrev station : Station
station = record { receiver = fresh 1 0 0 255; carry = [] }

-- its log is the word that its answer counts, and a log
pub lost-counted : is_log (logs_in (seen_from defined station lost)) ≡ true
unfolding listing lost_number lost_answer log_after_lost put_at log_words entry_words data_words data_bytes data_of begun_entry entries_of sized all_sized same_list is_log
lost-counted = refl
