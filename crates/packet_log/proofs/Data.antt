-- The bytes of a data word are read back, whatever its bits from 26 on are.
use mathlib.Core.Path.{◌≡◌, refl, ap, ap₂, ◌∙◌}
use mathlib.Core.List.{[], ◌∷◌}
use Prim.Native.Nat.{ℕ, ◌+◌, ◌*◌, ◌/◌, ◌%◌, ◌≤◌, ◌<◌}
use native.Mathlib.Omega.{arith}
use lib.ListN.{take}
use Rattle.packet_log.specs.Log.{data_bytes}

pub bytes_back : (w t n a b c : ℕ) → w ≡ (((t * 4 + n) * 0x100 + a) * 0x100 + b) * 0x100 + c → n ≤ 3 → a < 256 → b < 256 → c < 256
    → data_bytes w ≡ take n (a ∷ b ∷ c ∷ [])
unfolding data_bytes
bytes_back w t n a b c h hn ha hb hc =
    let p : w / 0x1000000 ≡ t * 4 + n = omega arith in
    let q : w / 0x10000 ≡ (t * 4 + n) * 0x100 + a = omega arith in
    let r : w / 0x100 ≡ ((t * 4 + n) * 0x100 + a) * 0x100 + b = omega arith in
    let d : (t * 4 + n) % 4 ≡ n = omega arith in
    let e : ((t * 4 + n) * 0x100 + a) % 0x100 ≡ a = omega arith in
    let f : (((t * 4 + n) * 0x100 + a) * 0x100 + b) % 0x100 ≡ b = omega arith in
    let g : w % 0x100 ≡ c = omega arith in
    ap₂ take (ap (λ (x : ℕ). x % 4) p ∙ d)
    (ap₂ ◌∷◌ (ap (λ (x : ℕ). x % 0x100) q ∙ e) (ap₂ ◌∷◌ (ap (λ (x : ℕ). x % 0x100) r ∙ f) (ap₂ ◌∷◌ g refl)))
