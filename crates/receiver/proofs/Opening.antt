-- Opening, by whether the table has the mode and stream, and whether the programs are allowed.
use mathlib.Core.Path.{◌≡◌, refl, sym, ap, ap₂, ◌∙◌}
use mathlib.Core.Bool.{Bool, true, false, not}
use mathlib.Core.List.{List, [], ◌∷◌}
use Prim.Native.Nat.{ℕ}
use lib.Dec.{eqb}
use Rattle.refusal.specs.Refusal.{first_of}
use Rattle.modes.specs.Modes.{listing, listing_number}
use Rattle.modes.specs.declared.Mode.{Mode}
use Rattle.modes.specs.declared.Listing.{Listing}
use Rattle.modes.specs.declared.Listing.TheVariants.{Listed, Refused}
use Rattle.modes.proofs.Lines.{refusal-five}
use Rattle.receiver.specs.Entitling.{allowed_programs, mask_of}
use Rattle.receiver.specs.Receiving.{no_receiver, fresh, opening_number, opened_by, opened_for, receive_number, lost_number}

abbrev rows : Listing → Bool → ℕ
rows l ok = first_of ((not (eqb (listing_number l) 0), 5) ∷ (not ok, 22) ∷ [])

module _ (mode stream register : ℕ) (programs : List ℕ) (l : Listing) (e : l ≡ listing mode stream) where
  by_rows : (k : Listing) (ok : Bool) → l ≡ k → allowed_programs programs ≡ ok → opened_by (rows k ok) (fresh mode stream register (mask_of programs)) ≡ opened_for mode stream register programs
  unfolding opened_for opening_number
  by_rows k ok f a = ap (λ (n : ℕ). opened_by n (fresh mode stream register (mask_of programs))) (ap₂ rows (sym f ∙ e) (sym a))

  pub opens : (m : Mode) (mask : ℕ) → l ≡ Listed m → allowed_programs programs ≡ true → mask ≡ mask_of programs → record { refusal = 0; receiver = fresh mode stream register mask } ≡ opened_for mode stream register programs
  opens m mask f a q = ap (λ (x : ℕ). record { refusal = 0; receiver = fresh mode stream register x }) q ∙ by_rows (Listed m) true f a

  pub programs-refused : (m : Mode) → l ≡ Listed m → allowed_programs programs ≡ false → record { refusal = 22; receiver = no_receiver } ≡ opened_for mode stream register programs
  programs-refused m f a = by_rows (Listed m) false f a

  pub mode-refused : (n : ℕ) → l ≡ Refused n → record { refusal = n; receiver = no_receiver } ≡ opened_for mode stream register programs
  mode-refused n f =
      let five : n ≡ 5 = refusal-five mode stream n (sym e ∙ f) in
      ap (λ (x : ℕ). record { refusal = x; receiver = no_receiver }) five ∙ by_rows (Refused 5) (allowed_programs programs) (f ∙ ap Refused five) refl

-- what a refused opening hands back is of no use: every call turns it down with 1, whatever it is lent
pub none-received : (marks carry pdu log : List ℕ) → receive_number marks carry pdu log no_receiver ≡ 1
unfolding receive_number listing
none-received marks carry pdu log = refl

pub none-lost : (log : List ℕ) → lost_number log no_receiver ≡ 1
unfolding lost_number listing
none-lost log = refl
