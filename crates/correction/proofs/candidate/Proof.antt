use mathlib.Core.Path.{◌≡◌, ap, ap₂, ◌∙◌, subst}
use Prim.Native.Nat.{ℕ, ◌≤◌, ◌<◌}
use lib.ListN.{length}
use mathlib.Core.List.{List}
use borrow.Author.Rules.{rules}
use Rattle.algebra.specs.Places.{All}
use Rattle.correction.specs.Marks.{spare}
use Rattle.elimination.specs.Elimination.{Solved, system_of, beside}
use Rattle.correction.proofs.MarkLists.{allowed-inside}
use Rattle.correction.proofs.Candidates.{system-back, few-places, distinct-places, candidate-word}
use Rattle.correction.proofs.candidate.Statement.{statement}
use Rattle.correction.proofs.candidate.Tie as tie

-- where the syndromes are filtered, and where the function begins, seen from the elimination
abbrev filtering : tie.After-eliminate-locator → tie.After-stripped-t
filtering c = c.before.before.before.before

abbrev start : tie.After-eliminate-locator → tie.Start
start c = (filtering c).before.before

long : (c : tie.After-eliminate-locator) → length (start c).args.header ≡ 96
long c = (start c).well_formed.1.1.0.1.0.1

few : (c : tie.After-eliminate-locator) → length (start c).args.marks.now ≤ 8
few c = (start c).requires.1.1.0

inside : (c : tie.After-eliminate-locator) → All (λ k. k < 96) (start c).args.marks.now
inside c = allowed-inside (start c).args.marks.now (start c).requires.1.1.1.0

-- what the elimination of the system found
solution : (c : tie.After-eliminate-locator) → Solved (system_of (filtering c).stripped-t.result (spare (start c).args.marks.now)) c.eliminate-locator.result.degree c.eliminate-locator.result.coefficients
solution c =
    let t = (filtering c).stripped-t.result in
    let h = c.before.before.before.spare-h in
    subst (λ (m : List (List ℕ)). Solved m c.eliminate-locator.result.degree c.eliminate-locator.result.coefficients)
    (ap₂ beside c.before.before.system.ensures c.before.right_side.ensures ∙ system-back t h.result ∙ ap (system_of t) h.ensures) c.eliminate-locator.ensures

error-places-requires : tie.Need-error_places-found-requires
error-places-requires c κs =
    let e = c.before in (
      (solution e).small,
      (few-places _ _ _ _ _ _ (few e) (inside e) (long e) (start e).requires.0 (start e).requires.1.0 (filtering e).stripped-t.ensures (solution e), (start e).requires.1.1.1.1),
    )

repaired-requires : tie.Need-repaired-requires
repaired-requires c κs =
    let p = c.before in
    let e = p.before.before in (
      p.error_places-found.ensures.few,
      (distinct-places _ _ _ _ _ _ (few e) (inside e) (long e) (start e).requires.0 (start e).requires.1.0 (filtering e).stripped-t.ensures (solution e) _ _ p.error_places-found.ensures, (start e).requires.1.1.1.1),
    )

returns : tie.Need-returns
returns c =
    let p = c.before.before in
    let e = p.before.before in
    candidate-word _ _ _ _ _ _ (few e) (inside e) (long e) (start e).requires.0 (start e).requires.1.0 (filtering e).stripped-t.ensures (solution e) _ _ p.error_places-found.ensures _ c.repaired.ensures

pub candidate_spec : {M : Type 1} → statement M
candidate_spec =
    tie.close (tie.spec (λ c κs. search rules) (λ c κs. search rules) (λ c κs. search rules) (λ c κs. search rules) (λ c κs. search rules) error-places-requires
    repaired-requires returns)
