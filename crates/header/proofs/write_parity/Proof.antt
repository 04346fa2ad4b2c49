use native.Mathlib.Omega.{arith}
use mathlib.Core.Path.{◌≡◌, ap, sym, ◌∙◌}
use Prim.Native.Nat.{ℕ, ◌≤◌}
use lib.ListN.{length, drop}
use mathlib.Core.List.{List, ◌++◌}
use borrow.Author.Rules.{rules}
use Rattle.header.specs.Header.{parity_of, front_replaced, length_refusal, with_parity}
use Rattle.header.proofs.Lengths.{short-refused, long-refused, length-allowed, parity-of-header, parity-refused, parity-written, front_fits}
use Rattle.header.proofs.Division.{parity-length}
use Rattle.header.proofs.write_parity.Statement.{statement}
use Rattle.header.proofs.write_parity.Tie as tie

written : (w v p : List ℕ) → p ≡ parity_of w → 8 ≤ length w → v ≡ front_replaced w p → length_refusal (length w) ≡ 0 → v ≡ with_parity w
written w v p q h r e =
    let n : length (parity_of w) ≡ 8 = parity-length w in
    r ∙ ap (front_replaced w) q ∙ front_fits w (parity_of w) (omega arith) ∙ ap (λ (k : ℕ). parity_of w ++ drop k w) n ∙ sym (parity-written w e)

returns : tie.Need-returns-then-pdu-lt96
returns c =
    let e : length_refusal (length c.before.before.args.pdu.now) ≡ 3 = short-refused _ (omega arith) in
    (sym e, sym (parity-refused _ e))

returns-2 : tie.Need-returns-then-pdu-gt20480
returns-2 c =
    let e : length_refusal (length c.before.before.before.args.pdu.now) ≡ 3 = long-refused _ (omega arith) in
    (sym e, sym (parity-refused _ e))

returns-3 : tie.Need-returns
returns-3 c =
    let f = c.before.before in
    let d = f.before.before.before in
    let w : List ℕ = d.before.before.before.before.before.before.args.pdu.now in
    let e : length_refusal (length w) ≡ 0 = length-allowed _ (omega arith) (omega arith) in
    let q : d.parity-p.result ≡ parity_of w = d.parity-p.ensures ∙ ap parity_of d.before.before.header_of-header.ensures ∙ parity-of-header w (omega arith) in
    let n : length (parity_of w) ≡ 8 = parity-length w in
    (sym e, written w f.put_front.new.pdu d.parity-p.result q (omega arith) f.put_front.ensures e)

pub write_parity_spec : {M : Type 1} → statement M
write_parity_spec =
    tie.close (tie.spec returns returns-2 (λ c κs. search rules) (λ c κs. search rules) (λ c. search rules) (λ c κs. search rules) (λ c. search rules)
    returns-3)
