-- Opening, by what the mode table says.
use mathlib.Core.Path.{◌≡◌, refl, sym, ap, ◌∙◌}
use Prim.Native.Nat.{ℕ}
use Rattle.modes.specs.Modes.{listing}
use Rattle.modes.specs.declared.Listing.{Listing}
use mathlib.Core.List.{List}
use Rattle.settings.specs.declared.Settings.{Settings}
use Rattle.writer.specs.Writing.{no_writer, opened_as, writer_opened, write_answer}

pub opened-by : (l k : Listing) (mode stream register : ℕ) → l ≡ listing mode stream → l ≡ k → opened_as k mode stream register ≡ writer_opened mode stream register
unfolding writer_opened
opened-by l k mode stream register e f = ap (λ (x : Listing). opened_as x mode stream register) (sym f ∙ e)

-- what a refused opening hands back is of no use: every call turns it down with 1, whatever it is lent
pub none_written : (settings : Settings) (psd lengths bytes : List ℕ) (size : ℕ) → (write_answer settings psd lengths bytes size no_writer).refusal ≡ 1
unfolding write_answer listing
none_written settings psd lengths bytes size = refl
