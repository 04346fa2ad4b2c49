-- What a receiver logs fits its words.
use Prim.Native.Nat.{ℕ, suc, ◌+◌, ◌%◌, ◌≤◌, ◌<◌}
use mathlib.Core.Path.{◌≡◌, refl}
use mathlib.Core.Bool.{Bool, true, false, ◌&&◌, cond}
use mathlib.Core.List.{List, [], ◌∷◌, ◌++◌}
use native.Mathlib.Omega.{arith}
use borrow.Author.Tests.{ltb-false}
use lib.Dec.{ltb, eqb}
use lib.ListN.{length, length-append}
use Rattle.packet_log.proofs.Packets.{Bytes, FitAll, fit_append}
use Rattle.layout.specs.Control.{piece_number}
use Rattle.reassembly.specs.Reassembly.{Piece, Said, Partial, nothing, beginning, Memory, Outcome, dropped, kept, in_sequence, sequence_step, beginning_step, psd_entries, finished, joined, piece_step, ends_here, pieces_step, continuing_step, contents_step, received}
use Rattle.reassembly.proofs.Laws.{delivered}

-- ---- what is held and what a PDU says, within their bounds

abbrev pub SanePartial : Partial → Type 0
SanePartial nothing = Unit {0}
SanePartial (beginning number bytes) = Bytes bytes × (1 ≤ length bytes) × (length bytes ≤ 4096) × (number < 64)

pub record SanePiece (p : Piece) : Type 0 where
  pub bytes : Bytes p.bytes
  pub some : 1 ≤ length p.bytes
  pub cause : p.cause < 16384

abbrev pub SanePieces : List Piece → Type 0
SanePieces [] = Unit {0}
SanePieces (p ∷ ps) = SanePiece p × SanePieces ps

pub record SaneSaid (d : Said) : Type 0 where
  pub psd : (length d.psd_bytes < 65536) × Bytes d.psd_bytes
  pub pieces : SanePieces d.pieces
  pub few : length d.pieces < 64

-- ---- step by step

-- the entries fit, and what is held is within its bounds
abbrev Sane : Outcome → Type 0
Sane o = FitAll o.entries × SanePartial o.partial

sane-cond : (b : Bool) (o u : Outcome) → (b ≡ true → Sane o) → (b ≡ false → Sane u) → Sane (cond b o u)
sane-cond true o u p q = p refl
sane-cond false o u p q = q refl

bytes-append : (a b : List ℕ) → Bytes a → Bytes b → Bytes (a ++ b)
bytes-append [] b p q = q
bytes-append (x ∷ a) b p q = (p.0, bytes-append a b p.1 q)

sane-dropped : (cause k : ℕ) → cause < 16384 → k < 65536 → Sane (dropped cause k)
sane-dropped cause k c h = (((c, h), tt), tt)

sane-sequence : (range : ℕ) (x : Memory) (q : ℕ) → SanePartial x.partial → Sane (sequence_step range x.last q x.partial)
unfolding sequence_step
sane-sequence range x q s = sane-cond (in_sequence range x.last q) (kept x.partial) (dropped 1 0) (λ e. (tt, s)) (λ e. sane-dropped 1 0 (omega arith) (omega arith))

sane-beginning : (pfirst : Bool) (start : ℕ) (h : Partial) → SanePartial h → Sane (beginning_step pfirst start h)
unfolding beginning_step
sane-beginning pfirst start nothing s = (tt, tt)
sane-beginning pfirst start (beginning n b) s =
    sane-cond (pfirst && eqb n ((start + 63) % 64)) (kept (beginning n b)) (dropped 4 0) (λ e. (tt, s)) (λ e. sane-dropped 4 0 (omega arith) (omega arith))

fit-psd : (b : List ℕ) → length b < 65536 → Bytes b → FitAll (psd_entries b)
unfolding psd_entries
fit-psd [] h s = tt
fit-psd (x ∷ b) h s = ((h, s), tt)

sane-finished : (n k : ℕ) (ends : Bool) (b : List ℕ) → n < 64 → k < 65536 → Bytes b → 1 ≤ length b → Sane (finished n k ends b)
unfolding finished
sane-finished n k ends b l h s o =
    sane-cond (ltb 4096 (length b)) (dropped 5 k) (cond ends (delivered n b) (kept (beginning n b))) (λ e. sane-dropped 5 k (omega arith) h)
    (λ e. sane-cond ends (delivered n b) (kept (beginning n b)) (λ f. (((l, ltb-false 4096 (length b) e, s), tt), tt)) (λ f. (tt, (s, o, ltb-false 4096 (length b) e, l))))

sane-joined : (n k : ℕ) (cont ends : Bool) (h : Partial) (b : List ℕ) → n < 64 → k < 65536 → SanePartial h → Bytes b → 1 ≤ length b → Sane (joined n k cont ends h b)
unfolding joined
sane-joined n k true ends nothing b l u s t o = sane-dropped 3 k (omega arith) u
sane-joined n k true ends (beginning m a) b l u s t o = sane-finished n k ends (a ++ b) l u (bytes-append a b s.0 t) (rw length-append (omega arith))
sane-joined n k false ends h b l u s t o = sane-finished n k ends b l u t o

sane-piece : (n k : ℕ) (cont ends : Bool) (h : Partial) (p : Piece) → n < 64 → k < 65536 → SanePartial h → SanePiece p → Sane (piece_step n k cont ends h p)
unfolding piece_step
sane-piece n k cont ends h p l u s t =
    sane-cond (eqb p.cause 0) (joined n k cont ends h p.bytes) (dropped p.cause k) (λ e. sane-joined n k cont ends h p.bytes l u s t.bytes t.some) (λ e. sane-dropped p.cause k t.cause u)

sane-pieces : (number : ℕ → ℕ) (k : ℕ) (cont plast : Bool) (h : Partial) (ps : List Piece) → ((j : ℕ) → number j < 64) → k + length ps < 65536 → SanePartial h → SanePieces ps → Sane (pieces_step number k cont plast h ps)
unfolding pieces_step
sane-pieces number k cont plast h [] l u s t = (tt, s)
sane-pieces number k cont plast h (p ∷ ps) l u s t =
    let o = piece_step (number k) k cont (ends_here plast ps) h p in
    let a = sane-piece (number k) k cont (ends_here plast ps) h p (l k) (omega arith) s t.0 in
    let b = sane-pieces number (suc k) false plast o.partial ps l (omega arith) a.1 t.1 in
    (fit_append o.entries (pieces_step number (suc k) false plast o.partial ps).entries a.0 b.0, b.1)

sane-continuing : (n : ℕ) (plast : Bool) (h : Partial) (ps : List Piece) → n < 64 → SanePartial h → SanePieces ps → Sane (continuing_step n plast h ps)
unfolding continuing_step
sane-continuing n plast nothing ps l s t = (tt, tt)
sane-continuing n plast (beginning m b) [] l s t = (tt, s)
sane-continuing n plast (beginning m b) (p ∷ ps) l s t = sane-piece n 0 true (ends_here plast ps) (beginning m b) p l (omega arith) s t.0

sane-contents : (w : Bool) (d : Said) (h : Partial) → SanePartial h → SaneSaid d → Sane (contents_step w d h)
unfolding contents_step
sane-contents false d h s t =
    let c = pieces_step (piece_number d.pfirst d.start) 0 d.pfirst d.plast h d.pieces in
    let v = sane-pieces (piece_number d.pfirst d.start) 0 d.pfirst d.plast h d.pieces (λ j. omega arith) (omega (arith, t.few)) s t.pieces in
    (fit_append (psd_entries d.psd_bytes) c.entries (fit-psd d.psd_bytes t.psd.0 t.psd.1) v.0, v.1)
sane-contents true d h s t =
    let v = sane-continuing (piece_number d.pfirst d.start 0) d.plast h d.pieces (omega arith) s t.pieces in
    (((omega arith, omega arith), v.0), v.1)

-- ---- a call

-- all that it logs fits, and what it holds stays within its bounds
pub fit-received : (range : ℕ) (x : Memory) (d : Said) → SanePartial x.partial → SaneSaid d → FitAll (received range x d).entries × SanePartial (received range x d).partial
unfolding received
fit-received range x d s t =
    let a = sequence_step range x.last d.sequence x.partial in
    let b = beginning_step d.pfirst d.start a.partial in
    let c = contents_step d.withheld d b.partial in
    let sa = sane-sequence range x d.sequence s in
    let sb = sane-beginning d.pfirst d.start a.partial sa.1 in
    let sc = sane-contents d.withheld d b.partial sb.1 t in
    (fit_append a.entries (b.entries ++ c.entries) sa.0 (fit_append b.entries c.entries sb.0 sc.0), sc.1)
