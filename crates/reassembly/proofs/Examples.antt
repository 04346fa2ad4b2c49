-- Readings of document 01, "Receiver", computed on small PDUs; and of document 02, Ask 14, on a few entries.
use mathlib.Core.Bool.{Bool, true, false}
use mathlib.Core.List.{List, [], ◌∷◌}
use mathlib.Core.Option.{some}
use mathlib.Core.Path.{◌≡◌, refl}
use Prim.Native.Nat.{ℕ}
use Rattle.packet_log.specs.Log.{Entry, packet, psd, note}
use Rattle.reassembly.specs.Reassembly.{Piece, Said, Partial, nothing, beginning, Outcome, sequence_step, beginning_step, psd_entries, finished, joined, piece_step, pieces_step, contents_step, received}
use Rattle.reassembly.specs.Run.{piece_of}
use Rattle.reassembly.specs.Tally.{Tally, no_tally, counted, tallied, passes_limit}

abbrev said : ℕ → Bool → Bool → ℕ → List ℕ → List Piece → Said
said sequence pfirst plast start psd_bytes pieces = record { sequence = sequence; pfirst = pfirst; plast = plast; start = start; psd_bytes = psd_bytes; pieces = pieces; withheld = false }

abbrev outcome : Partial → Said → Outcome
outcome h d = received 2 (record { last = some 0; partial = h }) d

-- out of sequence with a beginning held that is not continued: note 1 alone
only-note-1 : outcome (beginning 0 (7 ∷ 8 ∷ [])) (said 0 false false 0 [] []) ≡ record { entries = note 1 0 ∷ []; partial = nothing }
unfolding received contents_step sequence_step beginning_step psd_entries pieces_step
only-note-1 = refl

-- 0 follows 1 in a range of two
wraps : received 2 (record { last = some 1; partial = nothing }) (said 0 false false 0 [] []) ≡ record { entries = []; partial = nothing }
unfolding received contents_step sequence_step beginning_step psd_entries pieces_step
wraps = refl

-- a beginning of number 63 is continued by a PDU that starts at 0, and ends there; PSD goes first
continued-63 : outcome (beginning 63 (7 ∷ [])) (said 1 true false 0 (9 ∷ []) (piece_of 0 (8 ∷ []) ∷ [])) ≡ record { entries = psd (9 ∷ []) ∷ packet 63 (7 ∷ 8 ∷ []) ∷ []; partial = nothing }
unfolding received contents_step sequence_step beginning_step psd_entries pieces_step piece_step joined finished
continued-63 = refl

-- not continued: note 4; then the piece that continues finds nothing held: note 3
not-continued : outcome (beginning 5 (7 ∷ [])) (said 1 true false 0 [] (piece_of 0 (8 ∷ []) ∷ [])) ≡ record { entries = note 4 0 ∷ note 3 0 ∷ []; partial = nothing }
unfolding received contents_step sequence_step beginning_step psd_entries pieces_step piece_step joined finished
not-continued = refl

-- both flags on one piece: appended, and held under the starting number minus 1
both-flags : outcome (beginning 0 (7 ∷ [])) (said 1 true true 1 [] (piece_of 0 (8 ∷ []) ∷ [])) ≡ record { entries = []; partial = beginning 0 (7 ∷ 8 ∷ []) }
unfolding received contents_step sequence_step beginning_step psd_entries pieces_step piece_step joined finished
both-flags = refl

-- a wrong CRC: note 2 at its piece, and the next piece is delivered
wrong-crc : outcome nothing (said 1 false false 4 [] (piece_of 2 (7 ∷ []) ∷ piece_of 0 (8 ∷ []) ∷ [])) ≡ record { entries = note 2 0 ∷ packet 5 (8 ∷ []) ∷ []; partial = nothing }
unfolding received contents_step sequence_step beginning_step psd_entries pieces_step piece_step joined finished
wrong-crc = refl

-- ---- document 02, Ask 14: delivered and missing

abbrev counts : ℕ → ℕ → ℕ → Tally
counts delivered missing last = record { delivered = delivered; missing = missing; last = last }

abbrev one_byte : ℕ → Entry
one_byte n = packet n (7 ∷ [])

-- the first delivery adds nothing to missing
pub first-delivery : tallied no_tally (one_byte 9 ∷ []) ≡ counts 1 0 9
unfolding tallied counted
first-delivery = refl

-- each after it its number minus the last minus 1, modulo 64: 0 follows 63, and the same number again adds 63
pub next-delivery : tallied (counts 1 0 63) (one_byte 0 ∷ one_byte 3 ∷ []) ≡ counts 3 2 3
unfolding tallied counted
next-delivery = refl

pub same-again : tallied (counts 1 0 5) (one_byte 5 ∷ []) ≡ counts 2 63 5
unfolding tallied counted
same-again = refl

-- a PDU that delivers nothing changes none of the three
pub nothing-delivered : tallied (counts 1 4 5) (note 2 0 ∷ psd (7 ∷ []) ∷ note 6 0 ∷ []) ≡ counts 1 4 5
unfolding tallied
nothing-delivered = refl

-- a count may be 4,294,967,295, and not more
pub at-limit : (passes_limit (counts 4294967295 4294967295 0) ≡ false) × (passes_limit (counts 4294967296 0 0) ≡ true) × (passes_limit (counts 1 4294967296 0) ≡ true)
at-limit = (refl, refl, refl)

pub last-counted : tallied (counts 4294967294 4294967232 5) (one_byte 5 ∷ []) ≡ counts 4294967295 4294967295 5
unfolding tallied counted
last-counted = refl
