-- A receiver that number 1 does not turn down has its fields within their bits, and is read back from its words.
use mathlib.Core.Path.{◌≡◌, refl, sym, ap, ◌∙◌}
use mathlib.Core.Bool.{Bool, true, false, not, ◌&&◌, cond, true≢false}
use Prim.Native.Nat.{ℕ, ◌+◌, ◌*◌, ◌<◌, ◌≤◌}
use native.Mathlib.Omega.{arith}
use lib.Dec.{eqb}
use lib.ListN.{get_or}
use borrow.Author.Tests.{eqb-true, eq-eqb, leb-false, ltb-false}
use Rattle.refusal.specs.Refusal.{any_of}
use Rattle.refusal.proofs.Rows.{none-at}
use Rattle.modes.specs.Modes.{listing}
use Rattle.modes.specs.declared.Mode.{Mode}
use Rattle.modes.specs.declared.Listing.{Listing}
use Rattle.modes.specs.declared.Listing.TheVariants.{Listed, Refused}
use Rattle.modes.proofs.Listable.{Listable, listable}
use Rattle.receiver.specs.Receiving.{wrong_state, wrong_fields}
use Rattle.receiver.proofs.Rows.{state-listed, state-unlisted}
use Rattle.receiver.specs.declared.Receiver.{Receiver}
use Rattle.snapshot.specs.Snapshot.{Kinds}
use Rattle.snapshot.proofs.Parts.{InBits, head_parts}

-- each field within its bits, 0 where not known, not held or nothing delivered
pub record Laid (r : Receiver) : Type 0 where
  pub mode : r.mode < 16
  pub stream : r.stream < 4
  pub register : r.register < 256
  pub entitled : r.entitled < 256
  pub sequence : r.sequence < 8
  pub unknown : r.known ≡ false → r.sequence ≡ 0
  pub held : r.held ≤ 4096
  pub number : r.number < 64
  pub nothing : r.held ≡ 0 → r.number ≡ 0
  pub services : r.services < 8
  pub unserved : r.serviced ≡ false → r.services ≡ 0
  pub delivered : r.delivered < 4294967296
  pub missing : r.missing < 4294967296
  pub last : r.last < 64
  pub unmissed : r.delivered ≡ 0 → r.missing ≡ 0
  pub unnumbered : r.delivered ≡ 0 → r.last ≡ 0

zero-there : (there : Bool) (value : ℕ) → (there && not (eqb value 0)) ≡ false → there ≡ true → value ≡ 0
zero-there there value e t = eqb-true value 0 (go (eqb value 0) (rw t at e))
  where
    go : (b : Bool) → (true && not b) ≡ false → b ≡ true
    go true h = refl
    go false h = absurd (true≢false h)

module _ (r : Receiver) (hr : r.register < 256) (he : r.entitled < 256) (hd : r.delivered < 4294967296) (hm : r.missing < 4294967296) where
  laid_in : (m : Mode) → listing r.mode r.stream ≡ Listed m → any_of (wrong_fields m r) ≡ false → Laid r
  laid_in m l e =
      let off : (k : ℕ) → get_or (wrong_fields m r) k false ≡ false = λ k. none-at (wrong_fields m r) k e in
      let t : Listable r.mode r.stream m = listable r.mode r.stream m l in
      record {
        mode = omega (arith, t.last);
        stream = omega (arith, t.core);
        register = hr;
        entitled = he;
        sequence = omega (arith, leb-false m.sequences r.sequence (off 0), t.most);
        unknown = λ q. zero-there (not r.known) r.sequence (off 1) (ap not q);
        held = ltb-false 4096 r.held (off 2);
        number = omega (arith, ltb-false 63 r.number (off 3));
        nothing = λ q. zero-there (eqb r.held 0) r.number (off 4) (eq-eqb r.held 0 q);
        services = omega (arith, ltb-false 7 r.services (off 5));
        unserved = λ q. zero-there (not r.serviced) r.services (off 6) (ap not q);
        delivered = hd;
        missing = hm;
        last = omega (arith, ltb-false 63 r.last (off 8));
        unmissed = λ q. zero-there (eqb r.delivered 0) r.missing (off 9) (eq-eqb r.delivered 0 q);
        unnumbered = λ q. zero-there (eqb r.delivered 0) r.last (off 10) (eq-eqb r.delivered 0 q);
      }

  pub laid : any_of (wrong_state r) ≡ false → Laid r
  laid e = go (listing r.mode r.stream) refl
    where
      go : (l : Listing) → listing r.mode r.stream ≡ l → Laid r
      go (Listed m) q = laid_in m q (sym (state-listed r m q) ∙ e)
      go (Refused n) q = absurd (true≢false (sym (state-unlisted r n q) ∙ e))

-- ---- the values of its words

pub programs-small : (t : Bool) (s e : ℕ) → s < 8 → e < 256 → cond t (8 + s) 0 * 0x100 + e < 0x1000
programs-small true s e h l = omega arith
programs-small false s e h l = omega arith

pub in-bits : (k : Kinds) (r : Receiver) → Laid r → InBits (head_parts k r)
in-bits k r h =
    let p = programs-small r.serviced r.services r.entitled h.services h.entitled in (
      omega (arith, h.mode, h.stream),
      omega arith,
      (
        omega (arith, h.sequence),
        omega arith,
        (
          omega (arith, h.held, h.number),
          omega arith,
          (omega (arith, h.register), omega arith, (omega (arith, p), omega arith, tt)),
        ),
      ),
    )
