-- What the parts of saving and loading promise.
use Rattle.std.specs.Prelude.{Bool, true, false, not, ◌&&◌, cond, List, [], ◌∷◌, ℕ, ◌+◌, ◌-◌, ◌/◌, ◌%◌, min, eqb, length, drop}
use Rattle.receiver.specs.declared.Receiver.{Receiver}
use Rattle.snapshot.specs.Snapshot.{Kinds, head_words}

abbrev pub kinds : Bool → Bool → Kinds
kinds register programs = record { register = register; programs = programs }

-- ---- words gone through one by one

-- whether words begin with others
unfoldable pub begins_with : List ℕ → List ℕ → Bool
begins_with [] ws = true
begins_with (v ∷ vs) [] = false
begins_with (v ∷ vs) (w ∷ ws) = eqb v w && begins_with vs ws

-- whether the bytes that a word of n bytes does not use are zero
unfoldable pub unused_clear : ℕ → ℕ → Bool
unused_clear n w = cond (eqb n 1) (eqb (w % 0x10000) 0) (cond (eqb n 2) (eqb (w % 0x100) 0) true)

-- whether a word is of kind 5 and has n bytes
unfoldable pub byte_fits : ℕ → ℕ → Bool
byte_fits n w = eqb (w / 0x1000000) (0x50 + n) && unused_clear n w

-- whether it may stand where so many bytes are still to come: it has three of them, or all that are left
unfoldable pub bytes_fit : ℕ → ℕ → Bool
bytes_fit left w = not (eqb left 0) && byte_fits (min 3 left) w

-- whether words are those of so many bytes
unfoldable pub are_bytes : ℕ → List ℕ → Bool
are_bytes left [] = eqb left 0
are_bytes left (w ∷ ws) = bytes_fit left w && are_bytes (left - 3) ws

-- whether words are those before a receiver's counts
unfoldable pub is_front : Kinds → Receiver → List ℕ → Bool
is_front k r ws = begins_with (head_words k r) ws && are_bytes r.held (drop (length (head_words k r)) ws)

-- byte k of a word of kind 5
abbrev pub byte_in : ℕ → ℕ → ℕ
byte_in w k = cond (eqb k 0) (w / 0x10000 % 0x100) (cond (eqb k 1) (w / 0x100 % 0x100) (w % 0x100))
