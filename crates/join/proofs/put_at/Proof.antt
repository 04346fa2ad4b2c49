use native.Mathlib.Omega.{arith}
use mathlib.Core.Path.{◌≡◌, refl, ap, sym, ◌∙◌}
use Prim.Native.Nat.{ℕ, ◌+◌, ◌-◌}
use lib.ListN.{length, take, drop, get_or}
use mathlib.Core.List.{List, ◌++◌}
use Rattle.join.proofs.Joining.{first-none, first_some, first-size, part, part_length, put-none}
use Rattle.join.specs.Join.{number}
use Rattle.join.specs.Scan.{partner, first_joined}
use mathlib.Core.Path.{ap₂}
use Rattle.buffer.specs.Buffer.{put_at}
use Rattle.buffer.proofs.Laws.{put_then}
use borrow.Author.Rules.{rules}
use Rattle.join.proofs.put_at.Statement.{statement}
use Rattle.join.proofs.put_at.Tie as tie

returns : tie.Need-returns-then-not-is_packet
returns c =
    let a = c.before.before.before.before.before.before.before.args in
    put-none a.res.now (first_joined a.enhanced.now (drop a.i a.core.now)) a.at
    (first-none a.core.now a.enhanced.now a.i (omega arith) (sym c.before.is_packet.ensures ∙ c.if-not-is_packet.true))

put-words-requires : tie.Need-put_words-requires
put-words-requires c κs =
    let a = c.before.before.before.before.before.before.before.before.before.before.args in
    let e = c.before.before.run_end-end in
    let w = number (get_or a.core.now a.i 0) in
    let s = first-size a.core.now a.enhanced.now a.i (omega arith) e.result (length (partner a.enhanced.now w)) (omega arith) (omega arith)
    (sym c.before.before.before.before.is_packet.ensures ∙ c.before.before.before.if-not-is_packet.false) e.ensures.1 refl in
    let p = part_length a.i e.result a.core.now (omega arith) (omega arith) in
    omega arith

put-partner-requires : tie.Need-put_partner-requires
put-partner-requires c κs =
    let a = c.before.before.before.before.before.before.before.before.before.before.before.before.before.before.before.args in
    let e = c.before.before.before.before.before.before.before.run_end-end in
    let w = number (get_or a.core.now a.i 0) in
    let s = first-size a.core.now a.enhanced.now a.i (omega arith) e.result (length (partner a.enhanced.now w)) (omega arith) (omega arith)
    (sym c.before.before.before.before.before.before.before.before.before.is_packet.ensures ∙ c.before.before.before.before.before.before.before.before.if-not-is_packet.false) e.ensures.1 refl in
    let q = ap (λ (n : ℕ). length (partner a.enhanced.now n)) c.number.ensures.0 in
    let k = c.before.before.before.before.put_words.auto.dst in
    (omega arith, (c.number.ensures.1, c.before.before.before.before.before.before.before.before.before.before.before.before.before.before.before.requires.1.1))

returns-2 : tie.Need-returns
returns-2 c =
    let a = c.before.before.before.before.before.before.before.before.before.before.before.before.before.before.before.before.before.before.args in
    let e = c.before.before.before.before.before.before.before.before.before.before.run_end-end in
    let w = number (get_or a.core.now a.i 0) in
    let p = sym c.before.before.before.before.before.before.before.before.before.before.before.before.is_packet.ensures ∙ c.before.before.before.before.before.before.before.before.before.before.before.if-not-is_packet.false in
    let g = c.before.before.put_partner in
    let n = c.before.before.before.number in
    let s = first-size a.core.now a.enhanced.now a.i (omega arith) e.result (length (partner a.enhanced.now w)) (omega arith) (omega arith) p e.ensures.1 refl in
    let q : length (partner a.enhanced.now n.result) ≡ length (partner a.enhanced.now w) = ap (λ (k : ℕ). length (partner a.enhanced.now k)) n.ensures.0 in
    let v : List ℕ = take (e.result - a.i) (drop a.i a.core.now) in
    let k : length v ≡ e.result - a.i = part_length a.i e.result a.core.now (omega arith) (omega arith) in (
      omega arith,
      put_then a.res.now _ _ v (partner a.enhanced.now n.result) a.at (a.at + (e.result - a.i)) (omega arith) (omega arith) c.before.before.before.before.before.before.before.put_words.ensures g.ensures.1
          ∙ ap (put_at a.res.now a.at)
          (ap₂ ◌++◌ (part a.i e.result a.core.now (omega arith)) (ap (partner a.enhanced.now) n.ensures.0)
          ∙ first_some a.core.now a.enhanced.now a.i (omega arith) e.result (omega arith) (omega arith) p e.ensures.1),
    )

pub put_at_spec : {M : Type 1} → statement M
put_at_spec =
    tie.close (tie.spec (λ c. search rules) (λ c. search rules) (λ c κs. search rules) returns (λ c. search rules) (λ c κs. search rules) (λ c. search rules)
    (λ c. search rules) (λ c. search rules) (λ c. search rules) put-words-requires (λ c. search rules) (λ c. search rules) (λ c κs. search rules)
    put-partner-requires (λ c. search rules) returns-2)
