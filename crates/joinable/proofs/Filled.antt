-- A receiver logs no empty packet and no empty PSD.
use mathlib.Core.Path.{◌≡◌, refl}
use mathlib.Core.Bool.{Bool, true, false, ◌&&◌, cond}
use mathlib.Core.List.{List, [], ◌∷◌, ◌++◌}
use Prim.Native.Nat.{ℕ, suc, ◌+◌, ◌%◌, ◌≤◌}
use native.Mathlib.Omega.{arith}
use lib.Dec.{eqb, leb, ltb}
use lib.ListN.{length, length-append}
use borrow.Author.Tests.{le-leb, lt-ltb}
use Rattle.packet_log.specs.Log.{Entry, packet, psd, note}
use Rattle.packet_log.proofs.Packets.{FitAll}
use Rattle.reassembly.specs.Reassembly.{Piece, Said, Partial, nothing, beginning, Memory, Outcome, dropped, kept, in_sequence, sequence_step, beginning_step, psd_entries, finished, joined, piece_step, ends_here, pieces_step, continuing_step, contents_step, received}
use Rattle.reassembly.proofs.Laws.{delivered}
use Rattle.reassembly.proofs.Fitting.{SanePieces}
use Rattle.join.specs.Join.{sized, all_sized}
use Rattle.bits.proofs.Tests.{one-and}
use Rattle.layout.specs.Control.{piece_number}

abbrev Filled : Entry → Type 0
Filled (packet n bytes) = 1 ≤ length bytes
Filled (psd bytes) = 1 ≤ length bytes
Filled (note cause piece) = Unit {0}

abbrev pub FilledAll : List Entry → Type 0
FilledAll [] = Unit {0}
FilledAll (e ∷ es) = Filled e × FilledAll es

filled-append : (a b : List Entry) → FilledAll a → FilledAll b → FilledAll (a ++ b)
filled-append [] b p q = q
filled-append (e ∷ a) b p q = (p.0, filled-append a b p.1 q)

-- entries that fit their bits and are not empty have lengths in range
pub sized-all : (es : List Entry) → FitAll es → FilledAll es → all_sized es ≡ true
unfolding all_sized sized
sized-all [] h f = refl
sized-all (packet n bytes ∷ es) h f =
    one-and (sized (packet n bytes)) (all_sized es)
    (one-and (leb 1 (length bytes)) (leb (length bytes) 4096) (le-leb 1 (length bytes) f.0) (le-leb (length bytes) 4096 h.0.1)) (sized-all es h.1 f.1)
sized-all (psd bytes ∷ es) h f =
    one-and (sized (psd bytes)) (all_sized es)
    (one-and (leb 1 (length bytes)) (ltb (length bytes) 0x10000) (le-leb 1 (length bytes) f.0) (lt-ltb (length bytes) 0x10000 h.0.0)) (sized-all es h.1 f.1)
sized-all (note cause piece ∷ es) h f = sized-all es h.1 f.1

-- ---- step by step

abbrev Fills : Outcome → Type 0
Fills o = FilledAll o.entries

fills-cond : (b : Bool) (o u : Outcome) → Fills o → Fills u → Fills (cond b o u)
fills-cond true o u p q = p
fills-cond false o u p q = q

fills-sequence : (range : ℕ) (x : Memory) (q : ℕ) → Fills (sequence_step range x.last q x.partial)
unfolding sequence_step
fills-sequence range x q = fills-cond (in_sequence range x.last q) (kept x.partial) (dropped 1 0) tt (tt, tt)

fills-beginning : (pfirst : Bool) (start : ℕ) (h : Partial) → Fills (beginning_step pfirst start h)
unfolding beginning_step
fills-beginning pfirst start nothing = tt
fills-beginning pfirst start (beginning n b) = fills-cond (pfirst && eqb n ((start + 63) % 64)) (kept (beginning n b)) (dropped 4 0) tt (tt, tt)

filled-psd : (b : List ℕ) → FilledAll (psd_entries b)
unfolding psd_entries
filled-psd [] = tt
filled-psd (x ∷ b) = (omega arith, tt)

fills-finished : (n k : ℕ) (ends : Bool) (b : List ℕ) → 1 ≤ length b → Fills (finished n k ends b)
unfolding finished
fills-finished n k ends b h =
    fills-cond (ltb 4096 (length b)) (dropped 5 k) (cond ends (delivered n b) (kept (beginning n b))) (tt, tt)
    (fills-cond ends (delivered n b) (kept (beginning n b)) (h, tt) tt)

fills-joined : (n k : ℕ) (cont ends : Bool) (h : Partial) (b : List ℕ) → 1 ≤ length b → Fills (joined n k cont ends h b)
unfolding joined
fills-joined n k true ends nothing b l = (tt, tt)
fills-joined n k true ends (beginning m a) b l = fills-finished n k ends (a ++ b) (rw length-append (omega arith))
fills-joined n k false ends h b l = fills-finished n k ends b l

fills-piece : (n k : ℕ) (cont ends : Bool) (h : Partial) (p : Piece) → 1 ≤ length p.bytes → Fills (piece_step n k cont ends h p)
unfolding piece_step
fills-piece n k cont ends h p l = fills-cond (eqb p.cause 0) (joined n k cont ends h p.bytes) (dropped p.cause k) (fills-joined n k cont ends h p.bytes l) (tt, tt)

fills-pieces : (number : ℕ → ℕ) (k : ℕ) (cont plast : Bool) (h : Partial) (ps : List Piece) → SanePieces ps → Fills (pieces_step number k cont plast h ps)
unfolding pieces_step
fills-pieces number k cont plast h [] t = tt
fills-pieces number k cont plast h (p ∷ ps) t =
    let o = piece_step (number k) k cont (ends_here plast ps) h p in
    filled-append o.entries (pieces_step number (suc k) false plast o.partial ps).entries (fills-piece (number k) k cont (ends_here plast ps) h p t.0.some)
    (fills-pieces number (suc k) false plast o.partial ps t.1)

fills-continuing : (n : ℕ) (plast : Bool) (h : Partial) (ps : List Piece) → SanePieces ps → Fills (continuing_step n plast h ps)
unfolding continuing_step
fills-continuing n plast nothing ps t = tt
fills-continuing n plast (beginning m b) [] t = tt
fills-continuing n plast (beginning m b) (p ∷ ps) t = fills-piece n 0 true (ends_here plast ps) (beginning m b) p t.0.some

fills-contents : (w : Bool) (d : Said) (h : Partial) → SanePieces d.pieces → Fills (contents_step w d h)
unfolding contents_step
fills-contents false d h t =
    filled-append (psd_entries d.psd_bytes) (pieces_step (piece_number d.pfirst d.start) 0 d.pfirst d.plast h d.pieces).entries (filled-psd d.psd_bytes)
    (fills-pieces (piece_number d.pfirst d.start) 0 d.pfirst d.plast h d.pieces t)
fills-contents true d h t = (tt, fills-continuing (piece_number d.pfirst d.start 0) d.plast h d.pieces t)

-- a call
pub filled-received : (range : ℕ) (x : Memory) (d : Said) → SanePieces d.pieces → FilledAll (received range x d).entries
unfolding received
filled-received range x d t =
    let a = sequence_step range x.last d.sequence x.partial in
    let b = beginning_step d.pfirst d.start a.partial in
    let c = contents_step d.withheld d b.partial in
    filled-append a.entries (b.entries ++ c.entries) (fills-sequence range x d.sequence)
    (filled-append b.entries c.entries (fills-beginning d.pfirst d.start a.partial) (fills-contents d.withheld d b.partial t))
