-- A log of 8,400 words always suffices: three times the words, and what is held, stay within the bytes at hand and a little for each step.
use Prim.Native.Nat.{ℕ, suc, ◌+◌, ◌*◌, ◌%◌, ◌≤◌}
use mathlib.Core.Bool.{Bool, true, false, ◌&&◌, cond}
use mathlib.Core.List.{List, [], ◌∷◌, ◌++◌}
use native.Mathlib.Omega.{arith}
use lib.Dec.{ltb, eqb}
use lib.ListN.{length, length-append}
use Rattle.packet_log.specs.Log.{packet, psd, note, log_words}
use Rattle.packet_log.proofs.Words.{entry_length}
use Rattle.layout.specs.Control.{piece_number}
use Rattle.reassembly.specs.Reassembly.{Piece, Said, Partial, nothing, beginning, Memory, Outcome, dropped, kept, in_sequence, sequence_step, beginning_step, psd_entries, finished, joined, piece_step, ends_here, pieces_step, continuing_step, contents_step, received}
use Rattle.reassembly.specs.Run.{partial_bytes}
use Rattle.reassembly.proofs.Laws.{delivered, one_entry}
use Rattle.reassembly.proofs.Runs.{and_then, both_words}

-- the bytes of all pieces, also of those that are noted
abbrev pub piece_bytes : List Piece → ℕ
piece_bytes [] = 0
piece_bytes (p ∷ ps) = length p.bytes + piece_bytes ps

-- ---- step by step

-- three times the words, and the bytes held
abbrev cost : Outcome → ℕ
cost o = 3 * length (log_words o.entries) + length (partial_bytes o.partial)

cost-cond : (b : Bool) (o u : Outcome) (n : ℕ) → cost o ≤ n → cost u ≤ n → cost (cond b o u) ≤ n
cost-cond true o u n p q = p
cost-cond false o u n p q = q

cost-dropped : (cause k : ℕ) → cost (dropped cause k) ≤ 3
cost-dropped cause k = rw (one_entry (note cause k), entry_length (note cause k)) (omega arith)

cost-kept : (h : Partial) → cost (kept h) ≤ length (partial_bytes h)
unfolding log_words
cost-kept h = omega arith

cost-sequence : (range : ℕ) (x : Memory) (q : ℕ) → cost (sequence_step range x.last q x.partial) ≤ length (partial_bytes x.partial) + 3
unfolding sequence_step
cost-sequence range x q =
    let a = cost-kept x.partial in
    let b = cost-dropped 1 0 in
    cost-cond (in_sequence range x.last q) (kept x.partial) (dropped 1 0) (length (partial_bytes x.partial) + 3) (omega arith) (omega arith)

cost-beginning : (pfirst : Bool) (start : ℕ) (h : Partial) → cost (beginning_step pfirst start h) ≤ length (partial_bytes h) + 3
unfolding beginning_step
cost-beginning pfirst start nothing = let a = cost-kept nothing in omega arith
cost-beginning pfirst start (beginning n b) =
    let c = cost-kept (beginning n b) in
    let d = cost-dropped 4 0 in
    cost-cond (pfirst && eqb n ((start + 63) % 64)) (kept (beginning n b)) (dropped 4 0) (length b + 3) (omega arith) (omega arith)

psd-cost : (b : List ℕ) → 3 * length (log_words (psd_entries b)) ≤ length b + 5
unfolding psd_entries
psd-cost [] = unfold log_words in omega arith
psd-cost (x ∷ b) = rw (one_entry (psd (x ∷ b)), entry_length (psd (x ∷ b))) (omega arith)

cost-finished : (n k : ℕ) (ends : Bool) (b : List ℕ) → cost (finished n k ends b) ≤ length b + 5
unfolding finished
cost-finished n k ends b =
    let a = cost-dropped 5 k in
    let c = cost-kept (beginning n b) in
    let d : cost (delivered n b) ≤ length b + 5 = rw (one_entry (packet n b), entry_length (packet n b)) (omega arith) in
    cost-cond (ltb 4096 (length b)) (dropped 5 k) (cond ends (delivered n b) (kept (beginning n b))) (length b + 5) (omega arith)
    (cost-cond ends (delivered n b) (kept (beginning n b)) (length b + 5) d (omega arith))

cost-joined : (n k : ℕ) (cont ends : Bool) (h : Partial) (b : List ℕ) → cost (joined n k cont ends h b) ≤ length (partial_bytes h) + length b + 5
unfolding joined
cost-joined n k true ends nothing b = let a = cost-dropped 3 k in omega arith
cost-joined n k true ends (beginning m a) b = let s = cost-finished n k ends (a ++ b) in let l = length-append a b in omega arith
cost-joined n k false ends h b = let s = cost-finished n k ends b in omega arith

cost-piece : (n k : ℕ) (cont ends : Bool) (h : Partial) (p : Piece) → cost (piece_step n k cont ends h p) ≤ length (partial_bytes h) + length p.bytes + 5
unfolding piece_step
cost-piece n k cont ends h p =
    let d = cost-dropped p.cause k in
    cost-cond (eqb p.cause 0) (joined n k cont ends h p.bytes) (dropped p.cause k) (length (partial_bytes h) + length p.bytes + 5) (cost-joined n k cont ends h p.bytes) (omega arith)

cost-pieces : (number : ℕ → ℕ) (k : ℕ) (cont plast : Bool) (h : Partial) (ps : List Piece) → cost (pieces_step number k cont plast h ps) ≤ length (partial_bytes h) + piece_bytes ps + 5 * length ps
unfolding pieces_step
cost-pieces number k cont plast h [] = let a = cost-kept h in omega arith
cost-pieces number k cont plast h (p ∷ ps) =
    let o = piece_step (number k) k cont (ends_here plast ps) h p in
    let u = pieces_step number (suc k) false plast o.partial ps in
    let a = cost-piece (number k) k cont (ends_here plast ps) h p in
    let b = cost-pieces number (suc k) false plast o.partial ps in
    let e = both_words o u in
    omega arith

cost-continuing : (n : ℕ) (plast : Bool) (h : Partial) (ps : List Piece) → cost (continuing_step n plast h ps) ≤ length (partial_bytes h) + piece_bytes ps + 5
unfolding continuing_step
cost-continuing n plast nothing ps = let a = cost-kept nothing in omega arith
cost-continuing n plast (beginning m b) [] = let a = cost-kept (beginning m b) in omega arith
cost-continuing n plast (beginning m b) (p ∷ ps) = let a = cost-piece n 0 true (ends_here plast ps) (beginning m b) p in omega arith

cost-contents : (w : Bool) (d : Said) (h : Partial) → cost (contents_step w d h) ≤ length (partial_bytes h) + length d.psd_bytes + piece_bytes d.pieces + 5 * length d.pieces + 8
unfolding contents_step
cost-contents false d h =
    let c = pieces_step (piece_number d.pfirst d.start) 0 d.pfirst d.plast h d.pieces in
    let e : Outcome = record { entries = psd_entries d.psd_bytes; partial = h } in
    let ct = cost-pieces (piece_number d.pfirst d.start) 0 d.pfirst d.plast h d.pieces in
    let ce = psd-cost d.psd_bytes in
    let j = both_words e c in
    omega arith
cost-contents true d h =
    let c = continuing_step (piece_number d.pfirst d.start 0) d.plast h d.pieces in
    let ct = cost-continuing (piece_number d.pfirst d.start 0) d.plast h d.pieces in
    let ce = cost-dropped 8 0 in
    let j = both_words (dropped 8 0) c in
    omega arith

-- ---- a call

-- at most 4,096 bytes held, 63 pieces, and 20,480 bytes of PSD and pieces
pub bound : (range : ℕ) (x : Memory) (d : Said) → length (partial_bytes x.partial) ≤ 4096 → length d.pieces ≤ 63 → length d.psd_bytes + piece_bytes d.pieces ≤ 20480
    → length (log_words (received range x d).entries) ≤ 8400
unfolding received
bound range x d held few size =
    let a = sequence_step range x.last d.sequence x.partial in
    let b = beginning_step d.pfirst d.start a.partial in
    let c = contents_step d.withheld d b.partial in
    let ca = cost-sequence range x d.sequence in
    let cb = cost-beginning d.pfirst d.start a.partial in
    let ct = cost-contents d.withheld d b.partial in
    let j₁ = both_words b c in
    let j₀ = both_words a (and_then b c) in
    omega arith
