use native.Mathlib.Omega.{arith}
use mathlib.Core.Path.{◌≡◌, ap, ◌∙◌}
use mathlib.Core.List.{List}
use borrow.Author.Rules.{rules}
use Prim.Native.Nat.{ℕ, ◌+◌, ◌-◌, ◌*◌, ◌/◌, ◌%◌}
use lib.Dec.{eqb}
use lib.ListN.{length, get_or, take, drop, length-drop}
use lib.Seq.{take_all}
use Rattle.snapshot.specs.Snapshot.{from_kind, receiver_in}
use Rattle.snapshot.proofs.receiver_in.Statement.{statement}
use Rattle.snapshot.proofs.receiver_in.Tie as tie

-- the words from the first of kind 6 on
counts-from : (c : tie.After-place_of)
    → take (length c.before.before.before.before.before.before.before.args.words.now - c.place_of.result) (drop c.place_of.result c.before.before.before.before.before.before.before.args.words.now)
    ≡ from_kind 6 c.before.before.before.before.before.before.before.args.words.now
counts-from c =
    let w : List ℕ = c.before.before.before.before.before.before.before.args.words.now in
    take_all (length w - c.place_of.result) (drop c.place_of.result w) (omega (arith, length-drop c.place_of.result w)) ∙ c.place_of.ensures.0

returns : tie.Need-returns
unfolding receiver_in
returns c =
    let h = c.before.before.before in
    let p = h.before.before in
    let v = p.before in
    let f = counts-from p in
    let delivered = c.before.before.count_at.ensures ∙ ap (λ (l : List ℕ). get_or l 0 0 % 0x10000 * 0x10000 + get_or l 1 0 % 0x10000) f in
    let missing = c.before.count_at-2.ensures ∙ ap (λ (l : List ℕ). get_or l 2 0 % 0x10000 * 0x10000 + get_or l 3 0 % 0x10000) f in
    let last = ap (λ (n : ℕ). n % 0x100) (c.half_at.ensures.0 ∙ ap (λ (l : List ℕ). get_or l 4 0 % 0x10000) f) in
    λ i. record {
      mode = v.before.before.before.before.value_of-state.ensures i % 16;
      stream = v.before.before.before.before.value_of-state.ensures i / 16 % 4;
      register = v.before.value_of-register.ensures i % 0x100;
      entitled = v.value_of-programs.ensures i % 0x100;
      known = h.has.ensures i;
      sequence = v.before.before.before.value_of-sequence.ensures i % 8;
      held = v.before.before.value_of-held.ensures i % 0x10000;
      number = v.before.before.value_of-held.ensures i / 0x10000 % 64;
      serviced = eqb (v.value_of-programs.ensures i / 0x800 % 2) 1;
      services = v.value_of-programs.ensures i / 0x100 % 8;
      delivered = delivered i;
      missing = missing i;
      last = last i;
    }

pub receiver_in_spec : {M : Type 1} → statement M
receiver_in_spec =
    tie.close (tie.spec (λ c κs. search rules) (λ c κs. search rules) (λ c κs. search rules) (λ c κs. search rules) (λ c κs. search rules)
    (λ c κs. search rules) (λ c. search rules) (λ c. search rules) (λ c. search rules) (λ c. search rules) (λ c. search rules) (λ c. search rules)
    (λ c. search rules) (λ c. search rules) (λ c κs. search rules) (λ c. search rules) (λ c. search rules) (λ c. search rules) (λ c. search rules)
    (λ c κs. search rules) (λ c κs. search rules) (λ c κs. search rules) (λ c. search rules) returns)
