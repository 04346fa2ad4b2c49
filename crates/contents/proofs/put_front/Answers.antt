-- The parts stand one after the other.
use Rattle.std.proofs.Common.{◌≡◌, ◌+◌, ◌∙◌, List, ℕ, length, replicate, refl, ap, arith}
use Rattle.std.proofs.lemmas.List.{length-replicate}
use Rattle.buffer.specs.Buffer.{put_at}
use Rattle.layout.specs.Locators.{locator_bytes}
use Rattle.layout.proofs.LocatorLaw.{length-locators}
use Rattle.contents.proofs.Putting.{four-puts}
use Rattle.contents.proofs.put_front.Goals as goal

pub returns : goal.returns
returns c =
    let a = c.args in
    let z : List ℕ = replicate (length a.pdu.now) 0 in
    let lz : length z ≡ length a.pdu.now = length-replicate (length a.pdu.now) 0 in
    let ll = length-locators a.width a.locators.now in
    let six : length a.control ≡ 6 = omega (arith, c.well_formed.1.1.0) in
    let at : ℕ = 14 + c.locator_size-at.result in
    let e1 : c.put_bytes.new.dst ≡ put_at z 8 a.control = c.put_bytes.ensures ∙ ap (λ (r : List ℕ). put_at r 8 a.control) c.clear.ensures in
    four-puts z c.put_bytes.new.dst c.put_locators.new.pdu c.put_bytes-2.new.dst c.put_bytes-3.new.dst a.control (locator_bytes a.width a.locators.now) a.expansion.now a.psd.now
    14 at (at + length a.expansion.now) (omega (arith, lz, ll, six)) (omega (arith, six)) (omega (arith, c.locator_size-at.ensures, ll)) refl e1
    c.put_locators.ensures c.put_bytes-2.ensures c.put_bytes-3.ensures
