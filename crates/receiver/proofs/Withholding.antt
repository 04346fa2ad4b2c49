-- The applied services in force at a PDU, case by case; and which PDUs are withheld.
use mathlib.Core.Path.{◌≡◌, refl, sym, ap, ap₂, ◌∙◌}
use mathlib.Core.Bool.{Bool, true, false, not, ◌&&◌, cond}
use mathlib.Core.Option.{Option, none, some}
use Prim.Native.Nat.{ℕ, suc, ◌/◌, ◌%◌, ◌≤◌}
use native.Mathlib.Omega.{arith}
use lib.Dec.{eqb, leb}
use borrow.Author.Tests.{eq-eqb, ne_eqb, lt-leb}
use Rattle.reassembly.specs.Reassembly.{in_sequence}
use Rattle.reassembly.specs.Rights.{in_force, barred, withheld_by}
use Rattle.reassembly.specs.Run.{last_of}
use Rattle.reassembly.specs.declared.Head.{Head}
use Rattle.receiver.specs.Entitling.{entitles}
use Rattle.receiver.specs.Receiving.{kept_of, keeps_services}
use Rattle.receiver.specs.Steps.{services_of}
use Rattle.receiver.specs.declared.Receiver.{Receiver}
use Rattle.receiver.specs.declared.Services.{Services}
use Rattle.receiver.proofs.Taking.{force_at}

-- ---- in force

module _ (range : ℕ) (r : Receiver) (head : Head) where
  -- kept from the PDUs before, or forgotten
  abbrev before : Bool → Option ℕ
  before next = cond next (kept_of r) none

  pub own_value : (b : Bool) → b ≡ keeps_services range r → not b ≡ true → services_of (some head.services) ≡ services_of (force_at range r head)
  own_value b e n = go b n e
    where
      go : (b : Bool) → not b ≡ true → b ≡ keeps_services range r → services_of (some head.services) ≡ services_of (force_at range r head)
      go true n e = let z : ◌≡◌ {A = ℕ} 0 1 = cc in absurd (omega arith)
      go false n e = ap (λ (k : Bool). services_of (in_force k head.sequence head.services (before (in_sequence range (last_of r.known r.sequence) head.sequence)))) e

  module _ (b : Bool) (e : b ≡ keeps_services range r) (n : not b ≡ false) where
    keeps : true ≡ keeps_services range r
    keeps = go b n e
      where
        go : (b : Bool) → not b ≡ false → b ≡ keeps_services range r → true ≡ keeps_services range r
        go true n e = e
        go false n e = let z : ◌≡◌ {A = ℕ} 0 1 = cc in absurd (omega arith)

    -- by whether the sequence is 0, and the next
    kept-as : Bool → Bool → Option ℕ
    kept-as first next = cond first (some head.services) (before next)

    force-is : (first next : Bool) → eqb head.sequence 0 ≡ first → in_sequence range (last_of r.known r.sequence) head.sequence ≡ next → kept-as first next ≡ force_at range r head
    unfolding kept-as
    force-is first next p q =
        ap₂ (λ (a t : Bool). cond a (some head.services) (before t)) (sym p) (sym q)
        ∙ ap (λ (k : Bool). in_force k head.sequence head.services (before (in_sequence range (last_of r.known r.sequence) head.sequence))) keeps

    pub first-value : head.sequence ≡ 0 → services_of (some head.services) ≡ services_of (force_at range r head)
    unfolding kept-as
    first-value z = ap services_of (force-is true (in_sequence range (last_of r.known r.sequence) head.sequence) (eq-eqb head.sequence 0 z) refl)

    module _ (z : ¬ (head.sequence ≡ 0)) (t : Bool) (s : t ≡ in_sequence range (last_of r.known r.sequence) head.sequence) where
      pub kept-value : t ≡ true → (r.serviced ≡ false → r.services ≡ 0) → record { known = r.serviced; value = r.services } ≡ services_of (force_at range r head)
      unfolding kept-as
      kept-value y u = go r.serviced r.services u ∙ ap services_of (force-is false true (ne_eqb head.sequence 0 z) (sym s ∙ y))
        where
          go : (known : Bool) (value : ℕ) → (known ≡ false → value ≡ 0) → record { known = known; value = value } ≡ services_of (last_of known value)
          go true value u = refl
          go false value u = ap (λ (v : ℕ). record { known = false; value = v }) (u refl)

      pub forgotten-value : t ≡ false → services_of none ≡ services_of (force_at range r head)
      unfolding kept-as
      forgotten-value y = ap services_of (force-is false false (ne_eqb head.sequence 0 z) (sym s ∙ y))

-- what is kept of them
pub services-kept : (b k : Bool) (s : Services) → b ≡ k → b ≡ true → s ≡ cond k s (services_of none)
services-kept b k s e t = ap (λ (x : Bool). cond x s (services_of none)) (sym t ∙ e)

pub services-dropped : (b k : Bool) (s : Services) → b ≡ k → b ≡ false → services_of none ≡ cond k s (services_of none)
services-dropped b k s e t = ap (λ (x : Bool). cond x s (services_of none)) (sym t ∙ e)

-- ---- withheld

module _ (mask program : ℕ) (known : Bool) (value : ℕ) (b : Bool) (e : b ≡ entitles mask program) where
  abbrev flag : Bool → Bool → Bool
  flag entitled known = not entitled && barred (last_of known value)

  pub entitled-shown : b ≡ true → false ≡ withheld_by (entitles mask) program (last_of known value)
  entitled-shown t = ap (λ (x : Bool). flag x known) (sym t ∙ e)

  pub withheld-known : b ≡ false → known ≡ true → eqb value 1 ≡ withheld_by (entitles mask) program (last_of known value)
  withheld-known t k = ap₂ flag (sym t ∙ e) (sym k)

  pub withheld-unknown : b ≡ false → known ≡ false → true ≡ withheld_by (entitles mask) program (last_of known value)
  withheld-unknown t k = ap₂ flag (sym t ∙ e) (sym k)

-- ---- the bit of a program

pub bit-zero : (mask : ℕ) → eqb (mask % 2) 1 ≡ entitles mask 0
unfolding entitles
bit-zero mask = let e : mask ≡ mask / 1 = omega arith in ap (λ (x : ℕ). eqb (x % 2) 1) e

past : (n k : ℕ) → k ≤ n → ¬ (n ≡ k) → suc k ≤ n
past n k h d = omega (arith, h, d)

pub no_program : (mask p : ℕ) → ¬ (p ≡ 0) → ¬ (p ≡ 1) → ¬ (p ≡ 2) → ¬ (p ≡ 3) → ¬ (p ≡ 4) → ¬ (p ≡ 5) → ¬ (p ≡ 6) → ¬ (p ≡ 7) → false ≡ entitles mask p
unfolding entitles
no_program mask p a b c d e f g h =
    let low : leb p 7 ≡ false = lt-leb p 7 (past p 7 (past p 6 (past p 5 (past p 4 (past p 3 (past p 2 (past p 1 (past p 0 (omega arith) a) b) c) d) e) f) g) h) in
    rw low refl
