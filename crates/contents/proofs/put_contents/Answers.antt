-- The pieces stand behind the front, where the locators point.
use Rattle.std.proofs.Common.{◌≡◌, ◌+◌, ◌≤◌, ◌∙◌, List, ℕ, length, take, drop, replicate, ap, arith, length-drop}
use Rattle.std.proofs.lemmas.List.{length-replicate}
use Rattle.layout.specs.Locators.{locator_size}
use Rattle.pieces.specs.Pieces.{locators_from, total}
use Rattle.contents.proofs.Putting.{first, two-puts}
use Rattle.contents.proofs.put_contents.Goals as goal

pub returns : goal.returns
returns c =
    let a = c.args in
    let ls = a.lengths.now in
    let z : List ℕ = replicate (length a.pdu.now) 0 in
    let lz : length z ≡ length a.pdu.now = length-replicate (length a.pdu.now) 0 in
    let six : length a.control ≡ 6 = omega (arith, c.well_formed.1.1.0) in
    let rest = drop a.sent a.bytes.now in
    let s = c.locator_size.ensures in
    let enough : total ls ≤ length rest = rw (length-drop a.sent a.bytes.now) (omega arith) in
    let el : take (length ls) c.locators-locators.result ≡ locators_from (first a.register a.width a.expansion.now a.psd.now ls rest enough) ls =
    c.locators-locators.ensures.1 ∙ ap (λ (k : ℕ). locators_from (14 + k + length a.expansion.now + length a.psd.now) ls) s in
    two-puts a.register a.width a.expansion.now a.psd.now ls rest enough z c.put_front.new.pdu c.put_pieces.new.pdu a.control (take (length ls) c.locators-locators.result)
    (14 + c.locator_size.result + length a.expansion.now + length a.psd.now) six (omega (arith, lz)) el (omega (arith, s)) c.put_front.ensures c.put_pieces.ensures
