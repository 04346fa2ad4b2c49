-- All that a PDU is composed of are bytes.
use mathlib.Core.Path.{◌≡◌}
use mathlib.Core.Bool.{Bool, true, false, cond}
use mathlib.Core.List.{List, [], ◌∷◌, ◌++◌}
use Prim.Native.Nat.{ℕ, zero, suc, ◌-◌, ◌<◌, ◌≤◌}
use native.Mathlib.Omega.{arith}
use lib.Dec.{eqb}
use lib.ListN.{length, take, drop, replicate, length-drop}
use lib.Seq.{length-take-le}
use Rattle.algebra.specs.Places.{All}
use Rattle.algebra.proofs.Places.{all_join}
use Rattle.header.proofs.Unique.{all_drop}
use Rattle.crc.specs.Crc.{crc_from}
use Rattle.crc.proofs.Below.{crc-below}
use Rattle.layout.specs.Control.{bit, control_bytes}
use Rattle.layout.specs.declared.ControlWord.{ControlWord}
use Rattle.layout.specs.Locators.{bytes16, bytes12, locator_bytes}
use Rattle.expansion.specs.Expansion.{septets_of_all, chained}
use Rattle.expansion.specs.Writing.{sent_fields, expansion_bytes}
use Rattle.expansion.specs.declared.Fields.{Fields}
use Rattle.expansion.proofs.Marks.{Septets, all-septets}
use Rattle.pieces.specs.Pieces.{cut_by, with_crc, piece_bytes, total}
use Rattle.packing.proofs.Bounds.{Positive}
use Rattle.contents.specs.Contents.{locators_of, contents}

abbrev pub Byte : ℕ → Type 0
Byte n = n < 256

bit-small : (b : Bool) → bit b < 2
bit-small true = omega arith
bit-small false = omega arith

all-control : (c : ControlWord) → c.la < 256 → All Byte (control_bytes c)
unfolding control_bytes
all-control c h =
    let p = bit-small c.pfirst in
    let q = bit-small c.plast in
    let r = bit-small c.flag in
    (omega arith, (omega arith, (omega arith, (omega (arith, p, q), (omega (arith, r), (h, tt))))))

all16 : (ls : List ℕ) → All Byte (bytes16 ls)
unfolding bytes16
all16 [] = tt
all16 (a ∷ ls) = (omega arith, (omega arith, all16 ls))

all12 : (ls : List ℕ) → All Byte (bytes12 ls)
unfolding bytes12
all12 [] = tt
all12 (a ∷ []) = (omega arith, (omega arith, tt))
all12 (a ∷ b ∷ ls) = (omega arith, (omega arith, (omega arith, all12 ls)))

all-locators : (width : ℕ) (ls : List ℕ) → All Byte (locator_bytes width ls)
all-locators width ls = go (eqb width 16)
  where
    go : (b : Bool) → All Byte (cond b (bytes16 ls) (bytes12 ls))
    go true = all16 ls
    go false = all12 ls

all-chained : (l : List ℕ) → Septets l → All Byte (chained l)
unfolding chained
all-chained [] h = tt
all-chained (b ∷ []) h = let q = h.0 in (omega arith, tt)
all-chained (b ∷ c ∷ l) h = let q = h.0 in (omega arith, all-chained (c ∷ l) h.1)

pub all-expansion : (x : Fields) → All Byte (expansion_bytes x)
unfolding expansion_bytes
all-expansion x = all-chained (septets_of_all (sent_fields x)) (all-septets (sent_fields x))

all-front : (n : ℕ) (l : List ℕ) → All Byte l → All Byte (take n l)
all-front zero l h = tt
all-front (suc n) [] h = tt
all-front (suc n) (x ∷ l) h = (h.0, all-front n l h.1)

all-pieces : (register : ℕ) (ns bytes : List ℕ) → Positive ns → total ns ≤ length bytes → All Byte bytes → All Byte (piece_bytes register (cut_by ns bytes))
unfolding cut_by piece_bytes total
all-pieces register [] bytes o enough h = tt
all-pieces register (n ∷ ns) bytes o enough h =
    let p = take n bytes in
    let e : length (take n bytes) ≡ n = length-take-le n bytes (omega (arith, enough)) in
    let d : length (drop n bytes) ≡ length bytes - n = length-drop n bytes in
    all_join Byte (with_crc register p) (piece_bytes register (cut_by ns (drop n bytes)))
    (all_join Byte p (crc_from register p ∷ []) (all-front n bytes h) (crc-below p register (omega (arith, e, o.0)), tt))
    (all-pieces register ns (drop n bytes) o.1 (omega (arith, enough, d)) (all_drop n bytes h))

pub all-zeros : (n : ℕ) → All Byte (replicate n 0)
all-zeros zero = tt
all-zeros (suc n) = (omega arith, all-zeros n)

pub all-contents : (register width : ℕ) (c : ControlWord) (x : Fields) (psd ns bytes : List ℕ) → c.la < 256 → Positive ns → total ns ≤ length bytes → All Byte psd → All Byte bytes
    → All Byte (control_bytes c ++ contents register width (expansion_bytes x) psd (cut_by ns bytes))
all-contents register width c x psd ns bytes la o enough hp hb =
    let e = expansion_bytes x in
    let ls = locators_of width e psd (cut_by ns bytes) in
    all_join Byte (control_bytes c) (contents register width e psd (cut_by ns bytes)) (all-control c la)
    (all_join Byte (locator_bytes width ls) (e ++ (psd ++ piece_bytes register (cut_by ns bytes))) (all-locators width ls)
    (all_join Byte e (psd ++ piece_bytes register (cut_by ns bytes)) (all-expansion x)
    (all_join Byte psd (piece_bytes register (cut_by ns bytes)) hp (all-pieces register ns bytes o enough hb))))
