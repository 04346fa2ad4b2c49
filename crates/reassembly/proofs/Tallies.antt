-- Laws of delivered and missing (document 02, Ask 14).
use Prim.Native.Nat.{ℕ, suc, ◌+◌, ◌*◌, ◌%◌, ◌≤◌}
use mathlib.Core.Path.{◌≡◌, refl, ap}
use mathlib.Core.Bool.{Bool, true, false, ◌||◌, ◌&&◌, cond}
use mathlib.Core.List.{List, [], ◌∷◌, ◌++◌}
use native.Mathlib.Omega.{arith}
use borrow.Author.Tests.{ltb-false, le-ltb}
use lib.Dec.{eqb, ltb}
use lib.ListN.{length, length-append}
use Rattle.packet_log.specs.Log.{Entry, packet, psd, note, packets_of}
use Rattle.packet_log.proofs.Packets.{FitAll}
use Rattle.layout.specs.Control.{piece_number}
use Rattle.reassembly.specs.Reassembly.{Piece, Said, Partial, nothing, beginning, Memory, Outcome, dropped, kept, in_sequence, sequence_step, beginning_step, finished, joined, piece_step, ends_here, pieces_step, continuing_step, contents_step, received}
use Rattle.reassembly.specs.Tally.{Tally, gap, counted, tallied, Grows, Countable, passes_limit}
use Rattle.reassembly.proofs.Laws.{delivered}
use Rattle.reassembly.proofs.Withheld.{packets-append, psd-quiet}

pub tally-append : (a b : List Entry) (t : Tally) → tallied t (a ++ b) ≡ tallied (tallied t a) b
unfolding tallied
tally-append [] b t = refl
tally-append (packet n p ∷ a) b t = tally-append a b (counted t n)
tally-append (psd p ∷ a) b t = tally-append a b t
tally-append (note c k ∷ a) b t = tally-append a b t

-- ---- 27

pub within-limit : (t : Tally) → passes_limit t ≡ false → Countable t
within-limit t e = go (ltb 4294967295 t.delivered) (ltb 4294967295 t.missing) refl refl e
  where
    go : (a b : Bool) → ltb 4294967295 t.delivered ≡ a → ltb 4294967295 t.missing ≡ b → (a || b) ≡ false → Countable t
    go true b p q h = let z : ◌≡◌ {A = ℕ} 0 1 = cc in absurd (omega arith)
    go false true p q h = let z : ◌≡◌ {A = ℕ} 0 1 = cc in absurd (omega arith)
    go false false p q h = (ltb-false 4294967295 t.delivered p, ltb-false 4294967295 t.missing q)

pub not-passed : (t : Tally) → Countable t → passes_limit t ≡ false
not-passed t h = rw (le-ltb 4294967295 t.delivered h.0, le-ltb 4294967295 t.missing h.1) refl

-- ---- how much entries add

-- each packet is one delivered, and at most 63 missing
pub record Adds (n : ℕ) (t u : Tally) : Type 0 where
  pub delivered : u.delivered ≡ t.delivered + n
  pub missing : u.missing ≤ t.missing + 63 * n

pub tally-adds : (es : List Entry) (t : Tally) → Adds (length (packets_of es)) t (tallied t es)
unfolding tallied packets_of counted
tally-adds [] t = record { delivered = omega arith; missing = omega arith }
tally-adds (packet n p ∷ es) t = more (eqb t.delivered 0) (gap t.last n) (omega arith) (tally-adds es (counted t n))
  where
    more : (b : Bool) (g : ℕ) → g ≤ 63 → Adds (length (packets_of es)) (record { delivered = suc t.delivered; missing = t.missing + cond b 0 g; last = n }) (tallied (counted t n) es)
        → Adds (suc (length (packets_of es))) t (tallied (counted t n) es)
    more true g h a = record { delivered = omega (arith, a.delivered); missing = omega (arith, a.missing) }
    more false g h a = record { delivered = omega (arith, a.delivered); missing = omega (arith, a.missing, h) }
tally-adds (psd p ∷ es) t = tally-adds es t
tally-adds (note c k ∷ es) t = tally-adds es t

-- counts never fall
pub tally-grows : (es : List Entry) (t : Tally) → Grows t (tallied t es)
unfolding tallied counted
tally-grows [] t = record { delivered = omega arith; missing = omega arith }
tally-grows (packet n p ∷ es) t = let g = tally-grows es (counted t n) in record { delivered = omega (arith, g.delivered); missing = omega (arith, g.missing) }
tally-grows (psd p ∷ es) t = tally-grows es t
tally-grows (note c k ∷ es) t = tally-grows es t

-- entries without a packet change nothing, the last number included
pub tally-quiet : (es : List Entry) (t : Tally) → packets_of es ≡ [] → tallied t es ≡ t
unfolding tallied packets_of
tally-quiet [] t e = refl
tally-quiet (packet n p ∷ es) t e = let z : suc (length (packets_of es)) ≡ 0 = ap length e in absurd (omega (arith, z))
tally-quiet (psd p ∷ es) t e = tally-quiet es t e
tally-quiet (note c k ∷ es) t e = tally-quiet es t e

-- ---- how many packets a PDU delivers: at most one for each piece

abbrev Few : ℕ → Outcome → Type 0
Few n o = length (packets_of o.entries) ≤ n

few-cond : (n : ℕ) (b : Bool) (o u : Outcome) → Few n o → Few n u → Few n (cond b o u)
few-cond n true o u p q = p
few-cond n false o u p q = q

few-finished : (n k : ℕ) (ends : Bool) (b : List ℕ) → Few 1 (finished n k ends b)
unfolding finished packets_of
few-finished n k ends b =
    few-cond 1 (ltb 4096 (length b)) (dropped 5 k) (cond ends (delivered n b) (kept (beginning n b))) (omega arith) (few-cond 1 ends (delivered n b) (kept (beginning n b)) (omega arith) (omega arith))

few-joined : (n k : ℕ) (cont ends : Bool) (h : Partial) (b : List ℕ) → Few 1 (joined n k cont ends h b)
unfolding joined packets_of
few-joined n k true ends nothing b = omega arith
few-joined n k true ends (beginning m a) b = few-finished n k ends (a ++ b)
few-joined n k false ends h b = few-finished n k ends b

few-piece : (n k : ℕ) (cont ends : Bool) (h : Partial) (p : Piece) → Few 1 (piece_step n k cont ends h p)
unfolding piece_step packets_of
few-piece n k cont ends h p = few-cond 1 (eqb p.cause 0) (joined n k cont ends h p.bytes) (dropped p.cause k) (few-joined n k cont ends h p.bytes) (omega arith)

few-append : (a b : List Entry) (n m : ℕ) → length (packets_of a) ≤ n → length (packets_of b) ≤ m → length (packets_of (a ++ b)) ≤ n + m
few-append a b n m p q = let e = ap length (packets-append a b) in let l = length-append (packets_of a) (packets_of b) in omega (arith, e, l, p, q)

few-pieces : (number : ℕ → ℕ) (k : ℕ) (cont plast : Bool) (h : Partial) (ps : List Piece) → Few (length ps) (pieces_step number k cont plast h ps)
unfolding pieces_step packets_of
few-pieces number k cont plast h [] = omega arith
few-pieces number k cont plast h (p ∷ ps) =
    let o = piece_step (number k) k cont (ends_here plast ps) h p in
    let u = pieces_step number (suc k) false plast o.partial ps in
    let s = few-append o.entries u.entries 1 (length ps) (few-piece (number k) k cont (ends_here plast ps) h p) (few-pieces number (suc k) false plast o.partial ps) in
    omega (arith, s)

few-continuing : (n : ℕ) (plast : Bool) (h : Partial) (ps : List Piece) → Few (length ps) (continuing_step n plast h ps)
unfolding continuing_step packets_of
few-continuing n plast nothing ps = omega arith
few-continuing n plast (beginning m b) [] = omega arith
few-continuing n plast (beginning m b) (p ∷ ps) = let s = few-piece n 0 true (ends_here plast ps) (beginning m b) p in omega (arith, s)

few-contents : (w : Bool) (d : Said) (h : Partial) → Few (length d.pieces) (contents_step w d h)
unfolding contents_step
few-contents false d h =
    let c = pieces_step (piece_number d.pfirst d.start) 0 d.pfirst d.plast h d.pieces in
    let e = ap length (psd-quiet d.psd_bytes c.entries) in
    omega (arith, e, few-pieces (piece_number d.pfirst d.start) 0 d.pfirst d.plast h d.pieces)
few-contents true d h = unfold packets_of in few-continuing (piece_number d.pfirst d.start 0) d.plast h d.pieces

none_first : (range : ℕ) (x : Memory) (q : ℕ) → Few 0 (sequence_step range x.last q x.partial)
unfolding sequence_step packets_of
none_first range x q = few-cond 0 (in_sequence range x.last q) (kept x.partial) (dropped 1 0) (omega arith) (omega arith)

none-second : (pfirst : Bool) (start : ℕ) (h : Partial) → Few 0 (beginning_step pfirst start h)
unfolding beginning_step packets_of
none-second pfirst start nothing = omega arith
none-second pfirst start (beginning n b) = few-cond 0 (pfirst && eqb n ((start + 63) % 64)) (kept (beginning n b)) (dropped 4 0) (omega arith) (omega arith)

pub few-received : (range : ℕ) (x : Memory) (d : Said) → length (packets_of (received range x d).entries) ≤ length d.pieces
unfolding received
few-received range x d =
    let a = sequence_step range x.last d.sequence x.partial in
    let b = beginning_step d.pfirst d.start a.partial in
    let c = contents_step d.withheld d b.partial in
    let second = few-append b.entries c.entries 0 (length d.pieces) (none-second d.pfirst d.start a.partial) (few-contents d.withheld d b.partial) in
    let first = few-append a.entries (b.entries ++ c.entries) 0 (length d.pieces) (none_first range x d.sequence) (omega (arith, second)) in
    omega (arith, first)

-- a PDU of at most 63 pieces adds at most 63 to delivered, and 63 times 63 to missing
pub received-adds : (range : ℕ) (x : Memory) (d : Said) (t : Tally) → length d.pieces ≤ 63
    → ((tallied t (received range x d).entries).delivered ≤ t.delivered + 63) × ((tallied t (received range x d).entries).missing ≤ t.missing + 3969)
received-adds range x d t h =
    let a = tally-adds (received range x d).entries t in
    let f = few-received range x d in
    (omega (arith, a.delivered, f, h), omega (arith, a.missing, f, h))

-- ---- within their ranges

-- the last number at most 63; with delivered 0 the other two 0
pub record FairTally (t : Tally) : Type 0 where
  pub last : t.last ≤ 63
  pub none : t.delivered ≡ 0 → (t.missing ≡ 0) × (t.last ≡ 0)

pub fair-tallied : (es : List Entry) (t : Tally) → FitAll es → FairTally t → FairTally (tallied t es)
unfolding tallied counted
fair-tallied [] t f h = h
fair-tallied (packet n p ∷ es) t f h = fair-tallied es (counted t n) f.1 (record { last = omega (arith, f.0.0); none = λ e. absurd (omega (arith, e)) })
fair-tallied (psd p ∷ es) t f h = fair-tallied es t f.1 h
fair-tallied (note c k ∷ es) t f h = fair-tallied es t f.1 h
