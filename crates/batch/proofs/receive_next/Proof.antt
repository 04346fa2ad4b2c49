use Rattle.batch.proofs.Counting.{counted-refused, counted-taken}
use Rattle.batch.proofs.Single.{words-fit}
use mathlib.Core.Path.{refl}
use mathlib.Core.List.{[]}
use Prim.Native.Nat.{◌≤◌}
use lib.ListN.{length}
use native.Mathlib.Omega.{arith}
use borrow.Author.Rules.{rules}
use Rattle.batch.proofs.receive_next.Statement.{statement}
use Rattle.batch.proofs.receive_next.Tie as tie

add_words : tie.Need-overflow_add-words
add_words c =
    let k = c.before.before.before.before.before.before.before.before.before in
    let s = k.before.before.before.before.before.before.before.before in
    let a = s.args in
    let w : k.receive-a.result.words ≤ length a.log.now = rw k.receive-a.ensures.0 (words-fit [] a.carry.now a.pdu.now a.log.now a.b.receiver) in
    record { fits = omega (arith, w, s.requires.1) }

add-taken : tie.Need-overflow_add-taken
add-taken c = record { fits = omega (arith, c.before.before.before.before.before.before.before.before.before.before.before.before.before.before.before.before.before.before.requires.0) }

returns : tie.Need-returns-then-a-ne0
returns c =
    let k = c.before.before.before.before.before.before.before.before.before.before.before.before in
    let a = k.before.before.before.before.before.before.before.before.args in
    (counted-refused a.b a.carry.now a.pdu.now a.log.now k.receive-a.result k.receive-a.ensures.0 _ refl refl (λ q. omega (arith, q, c.if-a-ne0.true)) refl refl refl, k.receive-a.ensures.1)

returns-2 : tie.Need-returns
returns-2 c =
    let k = c.before.before.before.before.before.before.before.before.before.before.before.before in
    let a = k.before.before.before.before.before.before.before.before.args in
    (counted-taken a.b a.carry.now a.pdu.now a.log.now k.receive-a.result k.receive-a.ensures.0 _ refl refl (omega (arith, c.if-a-ne0.false)) refl refl refl, k.receive-a.ensures.1)

pub receive_next_spec : {M : Type 1} → statement M
receive_next_spec =
    tie.close (tie.spec (λ c κs. search rules) (λ c. search rules) add_words add-taken (λ c. search rules) (λ c. search rules) (λ c. search rules) returns
    (λ c. search rules) (λ c. search rules) (λ c. search rules) returns-2)
