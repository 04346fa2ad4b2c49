use Rattle.std.proofs.Common.{◌≡◌, ◌<◌, length, get_or, Some, None, sym, ◌∙◌, arith}
use Rattle.text.specs.Text.{with_digit}
use Rattle.text.proofs.Reading.{read-none, read_past, read-on, read-end, some-text}
use Rattle.text.proofs.parse.Goals as goal

pub returns-in_err-next : goal.returns-in_err-next
returns-in_err-next c =
    let t = c.args.text.now in
    let h : c.loop-byte.byte-index < length t = omega arith in
    let none : with_digit c.loop-byte.value (get_or t c.loop-byte.byte-index 0) ≡ None = sym c.in_err-next.ensures in
    c.from_residual.ensures ∙ sym (read-none t c.loop-byte.value c.loop-byte.byte-index h none) ∙ c.loop-byte.invariant.2 ∙ sym (some-text t (omega arith))

pub returns-then-next-gt4294967295 : goal.returns-then-next-gt4294967295
returns-then-next-gt4294967295 c =
    let t = c.args.text.now in
    let h : c.loop-byte.byte-index < length t = omega arith in
    let some : with_digit c.loop-byte.value (get_or t c.loop-byte.byte-index 0) ≡ Some c.in_ok-next.next = sym c.in_ok-next.ensures in
    sym (read_past t c.loop-byte.value c.loop-byte.byte-index h c.in_ok-next.next some (omega arith)) ∙ c.loop-byte.invariant.2 ∙ sym (some-text t (omega arith))

pub loop-byte-preserved : goal.loop-byte-preserved
loop-byte-preserved c =
    let t = c.args.text.now in
    let h : c.loop-byte.byte-index < length t = omega arith in
    let some : with_digit c.loop-byte.value (get_or t c.loop-byte.byte-index 0) ≡ Some c.in_ok-next.next = sym c.in_ok-next.ensures in
    let on = read-on t c.loop-byte.value c.loop-byte.byte-index h c.in_ok-next.next some (omega arith) in
    (omega arith, omega arith, sym on ∙ c.loop-byte.invariant.2)

pub returns : goal.returns
returns c =
    let t = c.args.text.now in
    sym (read-end t c.loop-byte.value c.loop-byte.byte-index (omega arith)) ∙ c.loop-byte.invariant.2 ∙ sym (some-text t (omega arith))
