-- Reading the control word that was written gives its fields.
use Prim.Native.Nat.{ℕ, ◌+◌, ◌*◌, ◌%◌, ◌/◌, ◌<◌}
use mathlib.Core.Path.{◌≡◌, refl, sym, ap, ◌∙◌}
use mathlib.Core.Bool.{Bool, true, false}
use mathlib.Core.List.{List, ◌++◌}
use native.Mathlib.Omega.{arith}
use borrow.Author.Tests.{eq-eqb, ne_eqb}
use lib.ListN.{length, get_or}
use lib.Seq.{get_or-append-add}
use Rattle.layout.specs.declared.ControlWord.{ControlWord}
use Rattle.layout.specs.Control.{bit, odd, InWidth, control_bytes, control_of, control_at, byte8, byte9, byte10, byte11, byte12}

pub odd-bit : (n : ℕ) (b : Bool) → n % 2 ≡ bit b → odd n ≡ b
odd-bit n true e = eq-eqb (n % 2) 1 e
odd-bit n false e = ne_eqb (n % 2) 1 (λ h. absurd (omega arith))

pub bit-small : (b : Bool) → bit b < 2
bit-small true = omega arith
bit-small false = omega arith

bit-alone : (b : Bool) → bit b % 2 ≡ bit b
bit-alone true = refl
bit-alone false = refl

low-six : (n x : ℕ) → n < 64 → (n + 64 * x) % 64 ≡ n
low-six n x h = omega arith

-- the fields of the six bytes
six-bytes : (c : ControlWord) → InWidth c → control_of (byte8 c) (byte9 c) (byte10 c) (byte11 c) (byte12 c) c.la ≡ c
unfolding control_of
six-bytes c h =
    let p = bit-small c.pfirst in
    let q = bit-small c.plast in
    let f = bit-small c.flag in
    let h1 = h.mode in
    let h2 = h.stream in
    let h3 = h.sequence in
    let h4 = h.blend in
    let h5 = h.gain in
    let h6 = h.common in
    let h7 = h.latency in
    let h8 = h.start in
    let h9 = h.nop in
    let m1 : c.mode % 16 ≡ c.mode = omega arith in
    let m2 : c.stream % 4 ≡ c.stream = omega arith in
    let m3 : c.sequence / 4 % 2 ≡ c.sequence / 4 = omega arith in
    let m4 : c.blend % 4 ≡ c.blend = omega arith in
    let m5 : c.gain % 32 ≡ c.gain = omega arith in
    let m6 : c.common % 64 ≡ c.common = omega arith in
    let m7 : c.latency / 4 % 2 ≡ c.latency / 4 = omega arith in
    let m8 : c.start / 32 % 2 ≡ c.start / 32 = omega arith in
    let m9 : c.nop % 64 ≡ c.nop = omega arith in
    let e1 : byte8 c % 16 ≡ c.mode = omega arith in
    let d2 : byte8 c / 16 ≡ c.stream + 4 * (c.sequence % 4) = omega arith in
    let e2 : byte8 c / 16 % 4 ≡ c.stream = rw d2 (omega arith) in
    let a3 : byte8 c / 64 ≡ c.sequence % 4 = omega arith in
    let b3 : byte9 c % 2 ≡ c.sequence / 4 = omega arith in
    let e3 : byte8 c / 64 + 4 * (byte9 c % 2) ≡ c.sequence = rw (a3, b3) (omega arith) in
    let d4 : byte9 c / 2 ≡ c.blend + 4 * c.gain = omega arith in
    let e4 : byte9 c / 2 % 4 ≡ c.blend = rw d4 (omega arith) in
    let e5 : byte9 c / 8 ≡ c.gain = omega arith in
    let e6 : byte10 c % 64 ≡ c.common = omega arith in
    let a7 : byte10 c / 64 ≡ c.latency % 4 = omega arith in
    let b7 : byte11 c % 2 ≡ c.latency / 4 = omega arith in
    let e7 : byte10 c / 64 + 4 * (byte11 c % 2) ≡ c.latency = rw (a7, b7) (omega arith) in
    let d8 : byte11 c / 2 ≡ bit c.pfirst + 2 * (bit c.plast + 2 * (c.start % 32)) = omega arith in
    let e8 : odd (byte11 c / 2) ≡ c.pfirst = odd-bit (byte11 c / 2) c.pfirst (rw d8 (omega arith)) in
    let d9 : byte11 c / 4 ≡ bit c.plast + 2 * (c.start % 32) = omega arith in
    let e9 : odd (byte11 c / 4) ≡ c.plast = odd-bit (byte11 c / 4) c.plast (rw d9 (omega arith)) in
    let a10 : byte11 c / 8 ≡ c.start % 32 = omega arith in
    let b10 : byte12 c % 2 ≡ c.start / 32 = omega arith in
    let e10 : byte11 c / 8 + 32 * (byte12 c % 2) ≡ c.start = rw (a10, b10) (omega arith) in
    let d11 : byte12 c / 2 ≡ c.nop + 64 * bit c.flag = omega arith in
    let e11 : byte12 c / 2 % 64 ≡ c.nop = rw d11 (low-six c.nop (bit c.flag) h9) in
    let d12 : byte12 c / 128 ≡ bit c.flag = omega arith in
    let e12 : odd (byte12 c / 128) ≡ c.flag = odd-bit (byte12 c / 128) c.flag (rw d12 (bit-alone c.flag)) in
    λ i. record { mode = e1 i; stream = e2 i; sequence = e3 i; blend = e4 i; gain = e5 i; common = e6 i; latency = e7 i; pfirst = e8 i; plast = e9 i; start = e10 i; nop = e11 i; flag = e12 i; la = c.la }

-- with 8 bytes before those of a control word and anything behind them, it is read as it was written
pub control-law : (pre rest : List ℕ) (c : ControlWord) → length pre ≡ 8 → InWidth c → control_at (pre ++ (control_bytes c ++ rest)) ≡ c
unfolding control_bytes
control-law pre rest c long h = (λ i. control_of (byte 0 i) (byte 1 i) (byte 2 i) (byte 3 i) (byte 4 i) (byte 5 i)) ∙ six-bytes c h
  where
    byte : (j : ℕ) → get_or (pre ++ (control_bytes c ++ rest)) (8 + j) 0 ≡ get_or (control_bytes c ++ rest) j 0
    byte j = ap (λ (n : ℕ). get_or (pre ++ (control_bytes c ++ rest)) (n + j) 0) (sym long) ∙ get_or-append-add pre (control_bytes c ++ rest) j 0
