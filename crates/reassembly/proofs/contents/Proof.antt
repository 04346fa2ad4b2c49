use Rattle.buffer.specs.Buffer.{put_at}
use Rattle.packet_log.specs.Log.{log_words}
use Rattle.reassembly.specs.Reassembly.{psd_entries}
use Rattle.reassembly.specs.Run.{psd_by, Parsed}
use Rattle.reassembly.proofs.Whole.{psd-is, psd-length, psd-room, pieces_room, pieces-did}
use native.Mathlib.Omega.{arith}
use mathlib.Core.Path.{◌≡◌}
use Prim.Native.Nat.{ℕ, ◌+◌, ◌-◌, ◌≤◌}
use lib.ListN.{length, take, drop, get_or}
use borrow.Author.Rules.{rules}
use Rattle.reassembly.proofs.contents.Statement.{statement}
use Rattle.reassembly.proofs.contents.Tie as tie

add-end : tie.Need-overflow_add-end
add-end c = search rules

parsed : (p : tie.Start) → Parsed p.args.head p.args.pdu.now p.args.marks
parsed p = p.requires.1.1.0

-- the PSD ends within the PDU, and not before it begins
psd-within : (p : tie.Start) (l : ℕ) → l ≡ get_or p.args.marks 0 0 → (p.args.head.psd ≤ l + 1) × (l + 1 ≤ length p.args.pdu.now)
psd-within p l e =
    let w = parsed p in
    (omega (arith, w.psd, w.marked.first), omega (arith, w.psd, w.marked.first))

put-extra-requires : tie.Need-put_extra-m-requires
put-extra-requires c κs =
    let p = c.before.before.before.before.before.before in
    let a = p.args in
    let w : Parsed a.head a.pdu.now a.marks = p.requires.1.1.0 in
    let la = c.before.before.from-end in
    let same : take (la.result + 1 - a.head.psd) (drop a.head.psd a.pdu.now) ≡ psd_by a.head a.marks a.pdu.now = psd-is a.head a.marks a.pdu.now la.result la.ensures in
    let len : length (take (la.result + 1 - a.head.psd) (drop a.head.psd a.pdu.now)) ≤ 20480 = rw (same, psd-length a.head a.marks a.pdu.now w) (omega (arith, w.marked.first, w.size)) in
    (len, rw same (psd-room a.head a.marks a.causes a.pdu.now a.run a.carry.now a.log.now p.requires.0.0 p.requires.0.1 p.requires.1.0 p.requires.1.1.1))

add-t14 : tie.Need-overflow_add-next
add-t14 c =
    let p = c.before.before.before.before.before.before.before.before.before in
    let a = p.args in
    let la = c.before.before.before.before.before.from-end in
    let same : take (la.result + 1 - a.head.psd) (drop a.head.psd a.pdu.now) ≡ psd_by a.head a.marks a.pdu.now = psd-is a.head a.marks a.pdu.now la.result la.ensures in
    let x = c.before.before.put_extra-m in
    let en : x.result ≡ length (log_words (psd_entries (psd_by a.head a.marks a.pdu.now))) = rw (← same) x.ensures.0 in
    omega (arith, en, psd-room a.head a.marks a.causes a.pdu.now a.run a.carry.now a.log.now p.requires.0.0 p.requires.0.1 p.requires.1.0 p.requires.1.1.1)

pieces-requires : tie.Need-pieces-requires
pieces-requires c κs =
    let p = c.before.before.before.before.before.before.before.before.before.before.before in
    let a = p.args in
    let w : Parsed a.head a.pdu.now a.marks = p.requires.1.1.0 in
    let la = c.before.before.before.before.before.before.before.from-end in
    let same : take (la.result + 1 - a.head.psd) (drop a.head.psd a.pdu.now) ≡ psd_by a.head a.marks a.pdu.now = psd-is a.head a.marks a.pdu.now la.result la.ensures in
    let x = c.before.before.before.before.put_extra-m in
    let en : x.result ≡ length (log_words (psd_entries (psd_by a.head a.marks a.pdu.now))) = rw (← same) x.ensures.0 in
    let el : x.new.log ≡ put_at a.log.now a.run.at (log_words (psd_entries (psd_by a.head a.marks a.pdu.now))) = rw (← same) x.ensures.1 in
    (p.requires.0, (p.requires.1.0, (w.size, (w.marked, pieces_room a.head a.marks a.causes a.pdu.now a.run a.carry.now a.log.now p.requires.0.0 p.requires.0.1 p.requires.1.0 p.requires.1.1.1 x.new.log x.result x.auto.log en el))))

same_length : tie.Need-shape_of-carry
same_length c = omega (arith, c.before.before.before.before.pieces.auto.carry)

same-length-2 : tie.Need-shape_of-log
same-length-2 c = omega (arith, c.before.before.before.before.before.before.before.before.before.put_extra-m.auto.log, c.before.before.before.before.pieces.auto.log)

returns : tie.Need-returns
returns c =
    let p = c.before.before.before.before.before.before.before.before.before.before.before.before.before.before.before.before in
    let a = p.args in
    let la = c.before.before.before.before.before.before.before.before.before.before.before.before.from-end in
    let same : take (la.result + 1 - a.head.psd) (drop a.head.psd a.pdu.now) ≡ psd_by a.head a.marks a.pdu.now = psd-is a.head a.marks a.pdu.now la.result la.ensures in
    let x = c.before.before.before.before.before.before.before.before.before.put_extra-m in
    let en : x.result ≡ length (log_words (psd_entries (psd_by a.head a.marks a.pdu.now))) = rw (← same) x.ensures.0 in
    let el : x.new.log ≡ put_at a.log.now a.run.at (log_words (psd_entries (psd_by a.head a.marks a.pdu.now))) = rw (← same) x.ensures.1 in
    let q = c.before.before.before.before.pieces in
    pieces-did a.head a.marks a.causes a.pdu.now a.run a.carry.now a.log.now p.requires.0.0 p.requires.0.1 p.requires.1.0 p.requires.1.1.1 x.new.log x.result x.auto.log en el q.new.carry q.new.log q.result q.ensures

pub contents_spec : {M : Type 1} → statement M
contents_spec =
    tie.close (tie.spec (λ c. omega arith) (λ c κs. search rules) add-end
    (λ c. omega (arith, psd-within c.before.before.before.before.before _ c.before.from-end.ensures))
    (λ c. omega (arith, psd-within c.before.before.before.before.before _ c.before.from-end.ensures))
    (λ c. omega (arith, psd-within c.before.before.before.before.before _ c.before.from-end.ensures)) put-extra-requires add-t14 pieces-requires
    same_length same-length-2 returns)
