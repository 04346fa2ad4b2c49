-- A withheld PDU is to the packets and to what is held as a PDU all of whose pieces are wrong, but for one that continues a packet.
use Prim.Native.Nat.{ℕ, suc}
use mathlib.Core.Path.{◌≡◌, refl, sym, ap, ◌∙◌}
use mathlib.Core.Bool.{Bool, true, false, cond}
use mathlib.Core.List.{List, [], ◌∷◌, ◌++◌, append-nil}
use native.Mathlib.Omega.{arith}
use lib.Dec.{eqb}
use Rattle.packet_log.specs.Log.{Entry, packet, psd, note, packets_of}
use Rattle.layout.specs.Control.{piece_number}
use Rattle.reassembly.specs.Reassembly.{Piece, Said, Partial, nothing, beginning, Memory, Outcome, dropped, sequence_step, beginning_step, psd_entries, joined, piece_step, ends_here, pieces_step, continuing_step, contents_step, received}
use Rattle.reassembly.proofs.Runs.{ends-drops}

-- ---- the packets of a log

pub packets-append : (a b : List Entry) → packets_of (a ++ b) ≡ packets_of a ++ packets_of b
unfolding packets_of
packets-append [] b = refl
packets-append (packet n p ∷ a) b = ap (λ (l : List Entry). packet n p ∷ l) (packets-append a b)
packets-append (psd p ∷ a) b = packets-append a b
packets-append (note c k ∷ a) b = packets-append a b

-- PSD is no packet
pub psd-quiet : (b : List ℕ) (es : List Entry) → packets_of (psd_entries b ++ es) ≡ packets_of es
unfolding psd_entries packets_of
psd-quiet [] es = refl
psd-quiet (x ∷ b) es = refl

-- ---- pieces that are not looked at

abbrev pub hidden_piece : Piece → Piece
hidden_piece p = record { cause = 8; bytes = p.bytes }

-- all pieces wrong, but for a first one that continues
unfoldable pub hidden : Bool → List Piece → List Piece
hidden cont [] = []
hidden true (p ∷ ps) = p ∷ hidden false ps
hidden false (p ∷ ps) = hidden_piece p ∷ hidden false ps

-- they deliver nothing, and leave nothing held
record Quiet (o : Outcome) : Type 0 where
  packets : packets_of o.entries ≡ []
  partial : o.partial ≡ nothing

hidden-quiet : (num : ℕ → ℕ) (k : ℕ) (plast : Bool) (ps : List Piece) → Quiet (pieces_step num k false plast nothing (hidden false ps))
unfolding hidden pieces_step piece_step packets_of
hidden-quiet num k plast [] = record { packets = refl; partial = refl }
hidden-quiet num k plast (p ∷ ps) = let q = hidden-quiet num (suc k) plast ps in record { packets = q.packets; partial = q.partial }

-- ---- outcomes that agree in packets and in what is held

pub record Alike (o u : Outcome) : Type 0 where
  pub packets : packets_of o.entries ≡ packets_of u.entries
  pub partial : o.partial ≡ u.partial

ends-hidden : (plast : Bool) (ps : List Piece) → ends_here plast (hidden false ps) ≡ ends_here plast ps
unfolding hidden
ends-hidden plast [] = refl
ends-hidden plast (p ∷ ps) = refl

after_first : (num : ℕ → ℕ) (plast : Bool) (h : Partial) (p : Piece) (ps : List Piece)
    → Alike (piece_step (num 0) 0 true (ends_here plast ps) h p) (pieces_step num 0 true plast h (p ∷ hidden false ps))
unfolding pieces_step hidden
after_first num plast h p [] = record { packets = rw append-nil; partial = refl }
after_first num plast h p (r ∷ ps) =
    let o = piece_step (num 0) 0 true true h p in
    let n : o.partial ≡ nothing = ends-drops (num 0) 0 true h p in
    let q : Quiet (pieces_step num 1 false plast nothing (hidden false (r ∷ ps))) = hidden-quiet num 1 plast (r ∷ ps) in
    record {
      packets = sym (packets-append o.entries _ ∙ rw (n, q.packets) (append-nil (packets_of o.entries)));
      partial = n ∙ sym (ap (λ (h : Partial). (pieces_step num 1 false plast h (hidden false (r ∷ ps))).partial) n ∙ q.partial);
    }

continues-nothing : (num : ℕ → ℕ) (plast ends : Bool) (p : Piece) → Quiet (piece_step (num 0) 0 true ends nothing p)
unfolding piece_step joined packets_of
continues-nothing num plast ends p = go (eqb p.cause 0)
  where
    go : (c : Bool) → Quiet (cond c (joined (num 0) 0 true ends nothing p.bytes) (dropped p.cause 0))
    go true = record { packets = refl; partial = refl }
    go false = record { packets = refl; partial = refl }

pieces-alike : (num : ℕ → ℕ) (cont plast : Bool) (h : Partial) (ps : List Piece) → (cont ≡ false → h ≡ nothing)
    → Alike (continuing_step (num 0) plast h ps) (pieces_step num 0 cont plast h (hidden cont ps))
unfolding continuing_step
pieces-alike num true plast nothing [] z = unfold hidden pieces_step in record { packets = refl; partial = refl }
pieces-alike num true plast nothing (p ∷ ps) z =
    let a = after_first num plast nothing p ps in
    let q = continues-nothing num plast (ends_here plast ps) p in
    unfold hidden packets_of in record { packets = sym q.packets ∙ a.packets; partial = sym q.partial ∙ a.partial }
pieces-alike num true plast (beginning m b) [] z = unfold hidden pieces_step in record { packets = refl; partial = refl }
pieces-alike num true plast (beginning m b) (p ∷ ps) z = unfold hidden in after_first num plast (beginning m b) p ps
pieces-alike num false plast nothing ps z =
    let q = hidden-quiet num 0 plast ps in
    unfold packets_of in record { packets = sym q.packets; partial = sym q.partial }
pieces-alike num false plast (beginning m b) ps z = absurd (something (z refl))
  where
    something : beginning m b ≡ nothing → ⊥
    something e = let c : ◌≡◌ {A = ℕ} 0 1 = cc in omega arith

-- a PDU that is not withheld, with its other pieces wrong
abbrev pub uncovered : Said → Said
uncovered d = record {
  sequence = d.sequence;
  pfirst = d.pfirst;
  plast = d.plast;
  start = d.start;
  psd_bytes = d.psd_bytes;
  pieces = hidden d.pfirst d.pieces;
  withheld = false;
}

pub begun-held : (pfirst : Bool) (start : ℕ) (h : Partial) → pfirst ≡ false → (beginning_step pfirst start h).partial ≡ nothing
unfolding beginning_step
begun-held pfirst start nothing e = refl
begun-held pfirst start (beginning n b) e = rw e

contents-alike : (d : Said) (h : Partial) → (d.pfirst ≡ false → h ≡ nothing) → Alike (contents_step true d h) (contents_step false (uncovered d) h)
unfolding contents_step packets_of
contents-alike d h z =
    let a = pieces-alike (piece_number d.pfirst d.start) d.pfirst d.plast h d.pieces z in
    record { packets = a.packets ∙ sym (psd-quiet d.psd_bytes _); partial = a.partial }

-- whatever a receiver remembers
pub withheld-alike : (range : ℕ) (x : Memory) (d : Said) → d.withheld ≡ true → Alike (received range x d) (received range x (uncovered d))
unfolding received contents_step
withheld-alike range x d w =
    let a = sequence_step range x.last d.sequence x.partial in
    let b = beginning_step d.pfirst d.start a.partial in
    let c = contents-alike d b.partial (λ e. begun-held d.pfirst d.start a.partial e) in
    rw w (record { packets = front a.entries b.entries _ _ c.packets; partial = c.partial })
  where
    front : (a b c e : List Entry) → packets_of c ≡ packets_of e → packets_of (a ++ (b ++ c)) ≡ packets_of (a ++ (b ++ e))
    front a b c e q = simp packets-append (rw q)

-- ---- document 02, Ask 10: what a withheld PDU tells a receiver with nothing to continue

-- two withheld PDUs that differ only in PSD and pieces leave the same, where nothing is held after steps 1 and 2
pub nothing-shown : (range : ℕ) (x : Memory) (d e : Said) → d.withheld ≡ true → e.withheld ≡ true
    → d.sequence ≡ e.sequence → d.pfirst ≡ e.pfirst → d.start ≡ e.start
    → (beginning_step d.pfirst d.start (sequence_step range x.last d.sequence x.partial).partial).partial ≡ nothing
    → received range x d ≡ received range x e
unfolding received contents_step continuing_step
nothing-shown range x d e w v q p s n =
    rw (w, v, ← q, ← p, ← s, n) refl
