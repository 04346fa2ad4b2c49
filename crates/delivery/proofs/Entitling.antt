-- Document 02, Ask 10: the mask that a receiver keeps entitles it to the programs of the list that it was opened with; and the list of all programs.
use mathlib.Core.Path.{◌≡◌, refl, fun_ext}
use mathlib.Core.Bool.{true}
use mathlib.Core.List.{List}
use Prim.Native.Nat.{ℕ, zero, suc, ◌<◌}
use native.Mathlib.Omega.{arith}
use Rattle.receiver.specs.Entitling.{is_listed, allowed_programs, all_programs, mask_of, entitles}
use Rattle.receiver.proofs.Entitled.{entitled-programs}

pub mask-lists : (programs : List ℕ) → allowed_programs programs ≡ true → entitles (mask_of programs) ≡ is_listed programs
mask-lists programs a = fun_ext (entitled-programs programs a)

-- all programs are listed
pub all_listed : (p : ℕ) → p < 8 → is_listed all_programs p ≡ true
all_listed zero h = refl
all_listed (suc zero) h = refl
all_listed (suc (suc zero)) h = refl
all_listed (suc (suc (suc zero))) h = refl
all_listed (suc (suc (suc (suc zero)))) h = refl
all_listed (suc (suc (suc (suc (suc zero))))) h = refl
all_listed (suc (suc (suc (suc (suc (suc zero)))))) h = refl
all_listed (suc (suc (suc (suc (suc (suc (suc zero))))))) h = refl
all_listed (suc (suc (suc (suc (suc (suc (suc (suc p)))))))) h = absurd (omega (arith, h))

pub all-allowed : allowed_programs all_programs ≡ true
unfolding allowed_programs
all-allowed = refl
