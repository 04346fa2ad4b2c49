use mathlib.Core.Path.{◌≡◌, ap, sym, ◌∙◌}
use Prim.Native.Nat.{ℕ, ◌-◌, ◌<◌}
use mathlib.Core.List.{List}
use borrow.Author.Rules.{rules}
use mathlib.Core.Path.{subst}
use Rattle.modes.specs.Modes.{listing}
use Rattle.modes.specs.declared.Mode.{Mode}
use Rattle.modes.specs.declared.Listing.{Listing}
use Rattle.layout.specs.Control.{control_at}
use Rattle.layout.specs.declared.ControlWord.{ControlWord}
use Rattle.pdu.specs.Reading.{listed_reading}
use Rattle.pdu.specs.declared.Reading.{Reading}
use Rattle.pdu.proofs.Assembling.{nop-small, judged-listed, judged-refused}
use Rattle.pdu.proofs.read_corrected.Statement.{statement}
use Rattle.pdu.proofs.read_corrected.Tie as tie

listed_here : (y : List ℕ) (c : ControlWord) (l x : Listing) → c ≡ control_at y → l ≡ listing c.mode c.stream → l ≡ x → listing (control_at y).mode (control_at y).stream ≡ x
listed_here y c l x ec el ex = ap (λ (w : ControlWord). listing w.mode w.stream) (sym ec) ∙ sym el ∙ ex

same_word : (y : List ℕ) (c : ControlWord) (m : Mode) (r : Reading) → c ≡ control_at y → r ≡ listed_reading m c y → r ≡ listed_reading m (control_at y) y
same_word y c m r e q = q ∙ ap (λ (w : ControlWord). listed_reading m w y) e

read-listed-requires : tie.Need-read_listed-requires
read-listed-requires c κs =
    let w = c.before.before.before.before in
    let y : List ℕ = w.args.y.now in
    subst (λ (x : ControlWord). x.nop < 64) (sym c.before.before.control_word-c.ensures) (nop-small y)

returns : tie.Need-returns-in-Listed
returns c =
    let g = c.before.before in
    let l = g.before.before in
    let w = l.before in
    let y : List ℕ = w.args.y.now in
    judged-listed y _ _ (listed_here y _ _ _ c.before.before.before.control_word-c.ensures c.before.before.look_up-listing.ensures c.before.in-Listed.is) (same_word y _ _ _ c.before.before.before.control_word-c.ensures c.read_listed.ensures)

returns-2 : tie.Need-returns-in-Refused
returns-2 c =
    let g = c.before.before in
    let l = g.before.before in
    let w = l.before in
    let y : List ℕ = w.args.y.now in
    judged-refused y _ _ (listed_here y _ _ _ c.before.before.before.control_word-c.ensures c.before.before.look_up-listing.ensures c.before.in-Refused.is) c.refused_reading.ensures

pub read_corrected_spec : {M : Type 1} → statement M
read_corrected_spec =
    tie.close (tie.spec (λ c κs. search rules) (λ c κs. search rules) (λ c. search rules) read-listed-requires (λ c. search rules) (λ c κs. search rules)
    returns returns-2)
