-- The bytes of a piece that is not taken count for nothing.
use Prim.Native.Nat.{ℕ, suc}
use mathlib.Core.Path.{◌≡◌, refl, sym, ap, ap₂, ◌∙◌}
use mathlib.Core.Bool.{Bool, true, false, cond}
use mathlib.Core.List.{List, [], ◌∷◌}
use lib.Dec.{eqb}
use Rattle.reassembly.specs.Reassembly.{Piece, Said, Partial, nothing, beginning, Memory, Outcome, dropped, joined, piece_step, ends_here, pieces_step, continuing_step, contents_step, received, remembered}

-- a piece without its bytes, where it is not taken
abbrev pub blank : Piece → Piece
blank p = record { cause = p.cause; bytes = cond (eqb p.cause 0) p.bytes [] }

unfoldable pub blanks : List Piece → List Piece
blanks [] = []
blanks (p ∷ ps) = blank p ∷ blanks ps

abbrev pub blank_said : Said → Said
blank_said d = record { sequence = d.sequence; pfirst = d.pfirst; plast = d.plast; start = d.start; psd_bytes = d.psd_bytes; pieces = blanks d.pieces; withheld = d.withheld }

piece-blind : (n k : ℕ) (cont ends : Bool) (h : Partial) (p : Piece) → piece_step n k cont ends h p ≡ piece_step n k cont ends h (blank p)
unfolding piece_step
piece-blind n k cont ends h p = go (eqb p.cause 0)
  where
    go : (b : Bool) → cond b (joined n k cont ends h p.bytes) (dropped p.cause k) ≡ cond b (joined n k cont ends h (cond b p.bytes [])) (dropped p.cause k)
    go true = refl
    go false = refl

ends-blind : (plast : Bool) (ps : List Piece) → ends_here plast (blanks ps) ≡ ends_here plast ps
unfolding blanks
ends-blind plast [] = refl
ends-blind plast (p ∷ ps) = refl

pieces-blind : (num : ℕ → ℕ) (k : ℕ) (cont plast : Bool) (h : Partial) (ps : List Piece) → pieces_step num k cont plast h ps ≡ pieces_step num k cont plast h (blanks ps)
unfolding pieces_step blanks
pieces-blind num k cont plast h [] = refl
pieces-blind num k cont plast h (p ∷ ps) =
    rw (ends-blind plast ps, ← piece-blind (num k) k cont (ends_here plast ps) h p, ← pieces-blind num (suc k) false plast (piece_step (num k) k cont (ends_here plast ps) h p).partial ps)

continuing-blind : (n : ℕ) (plast : Bool) (h : Partial) (ps : List Piece) → continuing_step n plast h ps ≡ continuing_step n plast h (blanks ps)
unfolding continuing_step blanks
continuing-blind n plast nothing ps = refl
continuing-blind n plast (beginning m b) [] = refl
continuing-blind n plast (beginning m b) (p ∷ ps) = rw (ends-blind plast ps) (piece-blind n 0 true (ends_here plast ps) (beginning m b) p)

contents-blind : (w : Bool) (d : Said) (h : Partial) → contents_step w d h ≡ contents_step w (blank_said d) h
unfolding contents_step
contents-blind false d h = rw (← pieces-blind _ 0 d.pfirst d.plast h d.pieces)
contents-blind true d h = rw (← continuing-blind _ d.plast h d.pieces)

received-blank : (range : ℕ) (x : Memory) (d : Said) → received range x d ≡ received range x (blank_said d)
unfolding received
received-blank range x d = rw (← contents-blind d.withheld d _)

-- PDUs that agree in all but those bytes
pub received-blind : (range : ℕ) (x : Memory) (d e : Said) → blank_said d ≡ blank_said e → received range x d ≡ received range x e
received-blind range x d e q = received-blank range x d ∙ ap (received range x) q ∙ sym (received-blank range x e)

pub remembered-blind : (range : ℕ) (x : Memory) (d e : Said) → blank_said d ≡ blank_said e → remembered range x d ≡ remembered range x e
unfolding remembered
remembered-blind range x d e q =
    ap₂ (λ (s : ℕ) (o : Outcome). record { last = mathlib.Core.Option.some s; partial = o.partial }) (ap (λ (u : Said). u.sequence) q) (received-blind range x d e q)
