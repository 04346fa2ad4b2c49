-- From single calls to all calls of a receiver: batches (document 02, Ask 1) and calls that leave all as it was.
use Prim.Native.Nat.{ℕ}
use mathlib.Core.Path.{◌≡◌, refl, sym, subst, ◌∙◌}
use mathlib.Core.List.{List, []}
use lib.ListN.{length}
use Rattle.reassembly.specs.Rights.{Rights}
use Rattle.reassembly.specs.Holder.{Holder}
use Rattle.runs.proofs.Events.{after}
use Rattle.runs.specs.Transmissions.{Way}
use Rattle.runs.proofs.Calls.{Speech, heard, Matching, Machine, Serves, Bridge}
use Rattle.runs.proofs.Bridges.{serves-none, next_all, words_all, HandsAll, GoodAll, batched}

-- a single call, or a batch with its arguments
pub data Any (C A : Type 0) : Type 0 where
  single : C → Any C A
  batch : A → Any C A

module _ (rights : Rights) (range : ℕ) (M : Machine) (B : Bridge rights range M) (A : Type 0) (next_batch : M.State → A → M.State) (words_batch : M.State → A → List ℕ) where
  abbrev pub next_any : M.State → Any M.Call A → M.State
  next_any x (single c) = M.next x c
  next_any x (batch a) = next_batch x a

  abbrev pub words_any : M.State → Any M.Call A → List ℕ
  words_any x (single c) = M.words x c
  words_any x (batch a) = words_batch x a

  abbrev pub complete : Machine
  complete = record { State = M.State; Call = Any M.Call A; next = next_any; words = words_any }

  -- the single calls whose effect a batch has: up to the first refused one
  pub record Splits (x : M.State) (a : A) (cs : List M.Call) : Type 0 where
    pub next : next_batch x a ≡ next_all M x cs
    pub words : words_batch x a ≡ words_all M x cs

  -- a call that leaves all as it was: a refused one
  pub record Idle (x : M.State) (c : Any M.Call A) : Type 0 where
    pub next : next_any x c ≡ x
    pub words : words_any x c ≡ []

  pub data Hands (x : M.State) : Any M.Call A → List B.Pdu → List Way → Type 0 where
    one : {c : M.Call} {ps : List B.Pdu} {ws : List Way} → B.Hands x c ps ws → Hands x (single c) ps ws
    several : {a : A} {cs : List M.Call} {ps : List B.Pdu} {ws : List Way} → Splits x a cs → HandsAll rights range M B x cs ps ws → Hands x (batch a) ps ws
    idle : {c : Any M.Call A} → Idle x c → Hands x c [] []

  pub data Good (x : M.State) : Any M.Call A → List B.Pdu → Type 0 where
    good-one : {c : M.Call} {ps : List B.Pdu} → B.Good x c ps → Good x (single c) ps
    good-several : {a : A} {cs : List M.Call} {ps : List B.Pdu} → Splits x a cs → GoodAll rights range M B x cs ps → Good x (batch a) ps
    good-idle : {c : Any M.Call A} → Good x c []

  many : (x : M.State) (c : Any M.Call A) (ps : List B.Pdu) (ws : List Way) → Hands x c ps ws → length ws ≡ length ps
  many x c ps ws (one {c = d} h) = B.as_many x d ps ws h
  many x c ps ws (several {cs = cs} s h) = (batched rights range M B).as_many x cs ps ws h
  many x c ps ws (idle i) = refl

  serves : (x : M.State) (y : Holder) (c : Any M.Call A) (ps : List B.Pdu) (ws : List Way) (ds : List Speech) → B.Stands x y → Hands x c ps ws → Matching B.Says ps ds
      → B.Within (after rights range y (heard ws ds)).tally → Good x c ps × Serves rights range complete B.Stands x y c (heard ws ds)
  serves x y c ps ws ds s (one {c = d} h) m k =
      let r = B.serves x y d ps ws ds s h m k in
      (good-one r.0, record { log = r.1.log; fit = r.1.fit; stands = r.1.stands })
  serves x y c ps ws ds s (several {a = a} {cs = cs} p h) m k =
      let r = (batched rights range M B).serves x y cs ps ws ds s h m k in (
        good-several p r.0,
        record { log = p.words ∙ r.1.log; fit = r.1.fit; stands = subst (λ (t : M.State). B.Stands t (after rights range y (heard ws ds))) (sym p.next) r.1.stands },
      )
  serves x y c ps ws ds s (idle {c = c'} i) m k =
      (good-idle, unfold heard in serves-none rights range complete B.Stands x y c' i.words (subst (λ (t : M.State). B.Stands t y) (sym i.next) s))

  -- every promise over runs of single calls holds over runs of all calls
  pub completed : Bridge rights range complete
  completed = record {
    Pdu = B.Pdu;
    Says = B.Says;
    Stands = B.Stands;
    Hands = Hands;
    Good = Good;
    Within = B.Within;
    within-less = B.within-less;
    as_many = many;
    serves = serves;
  }
