-- The end of a walk where the contract has several clauses, each of which states a fact.
--     says_all         a goal P ∗ Q, where Q is shown from nothing: P is left
--     first, last      a goal ⌜φ⌝ ∗ Q: φ is shown, and Q is left; a goal ⌜φ⌝
-- Assumes nothing.
use mathlib.Core.List.{List, []}
use seplogic.Ra.Ura.{Ura}
use base.Logic.{SProp, sep, emp, via, comm∗, mono_l, emp∗}
use types.Logic.{Logic}
use contract.Monad.{fact, fact_i}
use types.Kit.{Item, ⋆, prop, Seq, Step, step}

module _ {M : Type 1} {𝓤 : Ura M} {𝓛 : Logic 𝓤} {K : Type 0} {Γ : List (Item 𝓤)} where
  pub says_all : K → {P Q : SProp 𝓤} → Seq K 𝓛 [] (prop Q) → Step K 𝓛 Γ (prop P) Γ (prop (sep 𝓤 P Q))
  says_all t {P} {Q} q = step (λ s. record { prf = via 𝓤 P s.prf (via 𝓤 (sep 𝓤 (emp 𝓤) P) (emp∗ 𝓤 P) (via 𝓤 (sep 𝓤 Q P) (mono_l 𝓤 P q.prf) (comm∗ 𝓤 Q P))) })

  pub first : K → {φ : Type 0} {Q : SProp 𝓤} → φ → Step K 𝓛 Γ (prop Q) Γ (prop (sep 𝓤 (fact 𝓤 φ) Q))
  first t {φ} {Q} x = step (λ s. record { prf = via 𝓤 Q s.prf (via 𝓤 (sep 𝓤 (emp 𝓤) Q) (emp∗ 𝓤 Q) (mono_l 𝓤 Q (fact_i 𝓤 φ (emp 𝓤) x))) })

  pub last : K → {φ : Type 0} → φ → Seq K 𝓛 Γ (prop (fact 𝓤 φ))
  last t {φ} x = record { prf = fact_i 𝓤 φ (⋆ 𝓛 Γ) x }
