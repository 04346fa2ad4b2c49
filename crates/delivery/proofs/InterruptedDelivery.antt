-- Document 02, Ask 13: the promises over whole runs hold over interrupted ones.
use mathlib.Core.Path.{◌≡◌, refl, sym, ap, subst, subst₂, ◌∙◌}
use mathlib.Core.Bool.{Bool, true, false, cond}
use mathlib.Core.List.{List, map}
use Prim.Native.Nat.{ℕ, ◌<◌, ◌≤◌}
use native.Mathlib.Omega.{arith}
use borrow.Author.Tests.{not-false}
use lib.ListN.{length, get_or}
use Rattle.refusal.proofs.Rows.{row-off}
use Rattle.modes.specs.Modes.{listing}
use Rattle.modes.specs.declared.Mode.{Mode}
use Rattle.modes.specs.declared.Listing.TheVariants.{Listed}
use Rattle.modes.proofs.Listable.{listable}
use Rattle.pdu.specs.Reading.{mode_in}
use Rattle.receiver.specs.Entitling.{is_listed, allowed_programs, all_programs, program_bits, mask_of}
use Rattle.receiver.specs.Receiving.{opening_tests, opening_number, opened_for}
use Rattle.receiver.specs.declared.Receiver.{Receiver}
use Rattle.writer.specs.Writing.{writer_opened}
use Rattle.delivery.specs.Delivery.{Station, Call, defined, call_of, seen_from, finally, Run, fresh_station as fresh_in, Delivered, HeaderAltered, Claim, Holds, demand3}
use Rattle.delivery.specs.Interruptions.{defined_snapshot, seen_in, end_in, Running, OpenedRuns, OverInterruptions, InterruptedDemand3, InterruptedEntitled, InterruptedBursts, InterruptedPairs, InterruptedEntitledPairs, InterruptedChannel}
use Rattle.delivery.specs.Copies.{Damaged}
use Rattle.delivery.specs.Entitlement.{for_programs}
use Rattle.delivery.specs.Diversity.{WrongCrc, pairs}
use Rattle.delivery.specs.Bursts.{Hit}
use Rattle.delivery.specs.Channel.{WrongOrHit}
use Rattle.delivery.proofs.Parts.{fresh_station}
use Rattle.delivery.proofs.Channel.{fresh-writer, fresh-receiver, shows-fresh}
use Rattle.delivery.proofs.Running.{listed_by}
use Rattle.delivery.proofs.Interrupted.{unnoticed}
use Rattle.delivery.proofs.Damages.{channel-delivers, entitled-delivers, entitled-pairs-deliver, bursts-deliver}
use Rattle.delivery.proofs.Theorem.{entitled-all, delivers, pairs-deliver}

-- ---- a freshly opened receiver

at_most : (b : Bool) (n : ℕ) → cond b n 0 ≤ n
at_most true n = omega arith
at_most false n = omega arith

mask-byte : (f : ℕ → Bool) → program_bits f all_programs < 256
mask-byte f = omega (arith, at_most (f 0) 1, at_most (f 1) 2, at_most (f 2) 4, at_most (f 3) 8, at_most (f 4) 16, at_most (f 5) 32, at_most (f 6) 64, at_most (f 7) 128)

fresh-runs : (mode stream register : ℕ) (programs carry : List ℕ) (m : Mode) → listing mode stream ≡ Listed m → allowed_programs programs ≡ true → register < 256 → 4096 ≤ length carry
    → Running (fresh_station defined mode stream register programs carry)
fresh-runs mode stream register programs carry m l a g big =
    let range : 0 < m.sequences = (let h = (listable mode stream m l).least in omega (arith, h)) in
    subst (λ (r : Receiver). Running (record { receiver = r; carry = carry })) (sym (fresh-receiver mode stream register programs m l a))
    (record { right = (shows-fresh mode stream register (mask_of programs) m l range carry big).right; register = g; entitled = unfold mask_of in mask-byte (is_listed programs); counts = (omega arith, omega arith); room = big; held = tt })

-- a freshly opened receiver may be interrupted
pub opened-runs : OpenedRuns
unfolding opened_for opening_number
opened-runs mode stream register programs carry e g big =
    let off : (k : ℕ) → (get_or (opening_tests mode stream programs) k (false, 0)).0 ≡ false = λ k. row-off (opening_tests mode stream programs) k refl e in
    fresh-runs mode stream register programs carry (mode_in (listing mode stream)) (listed_by (listing mode stream) mode stream refl (off 0)) (not-false (allowed_programs programs) (off 1)) g (omega (arith, big))

-- the receiver of a run whose writer opens
run-runs : (mode stream register : ℕ) (programs carry : List ℕ) → (writer_opened mode stream register).refusal ≡ 0 → allowed_programs programs ≡ true → register < 256 → 4096 ≤ length carry
    → Running (fresh_station defined mode stream register programs carry)
run-runs mode stream register programs carry e a g big = let f = fresh-writer mode stream register e in fresh-runs mode stream register programs carry f.line f.listed a g big

-- ---- any claim over whole runs

-- the receiver may be interrupted, and what is seen is seen without interruptions
over : (k : Claim) → Holds k defined → ((r : Run) → k.asked r defined → r.register < 256 → Running (fresh_in r defined)) → OverInterruptions defined defined_snapshot k
over k claim runs r ts g d c e w =
    let x : Station = fresh_in r defined in
    let u = unnoticed x ts (runs r d g) w in
    let same : seen_from defined x (map call_of r.steps) ≡ seen_in defined defined_snapshot x ts = sym (u.same ∙ ap (seen_from defined x) e) in
    let last : (finally defined x (map call_of r.steps)).receiver ≡ (end_in defined defined_snapshot x ts).receiver = sym (u.final ∙ ap (λ (cs : List Call). (finally defined x cs).receiver) e) in
    (u.resumes, subst₂ (Delivered r (k.due r)) same last (claim r d c))

-- ---- the promises

-- demand 3
pub interrupted-delivers : InterruptedDemand3
interrupted-delivers = over demand3 delivers (λ r d g. run-runs r.mode r.stream r.register r.programs r.carry d.1.opens (entitled-all r d.0) g d.1.room)

-- Ask 10
pub interrupted-entitled : InterruptedEntitled
interrupted-entitled = over (for_programs (λ register width. HeaderAltered)) entitled-delivers (λ r d g. run-runs r.mode r.stream r.register r.programs r.carry d.1.opens d.0 g d.1.room)

-- Ask 12
pub interrupted-bursts : InterruptedBursts
interrupted-bursts = over (for_programs (Damaged Hit)) bursts-deliver (λ r d g. run-runs r.mode r.stream r.register r.programs r.carry d.1.opens d.0 g d.1.room)

-- Ask 5
pub interrupted-pairs : InterruptedPairs
interrupted-pairs = over pairs pairs-deliver (λ r d g. run-runs r.mode r.stream r.register r.programs r.carry d.1.opens (entitled-all r d.0) g d.1.room)

pub interrupted-entitled-pairs : InterruptedEntitledPairs
interrupted-entitled-pairs = over (for_programs (Damaged WrongCrc)) entitled-pairs-deliver (λ r d g. run-runs r.mode r.stream r.register r.programs r.carry d.1.opens d.0 g d.1.room)

-- over a channel
pub interrupted-channel : InterruptedChannel
interrupted-channel = over (for_programs (Damaged WrongOrHit)) channel-delivers (λ r d g. run-runs r.mode r.stream r.register r.programs r.carry d.1.opens d.0 g d.1.room)
