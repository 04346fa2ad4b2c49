use Rattle.std.proofs.Common.{◌≡◌, ◌+◌, ◌*◌, ◌%◌, ◌<◌, ◌∙◌, List, ℕ, length, get_or, drop, ap, sym, arith, add-one, drop-cons, drop_of_length-le}
use Rattle.sent_packets.specs.Sent.{checksum_from}
use Rattle.sent_packets.proofs.checksum.Goals as goal

-- a byte more
step : (bytes : List ℕ) (sum i : ℕ) → i < length bytes → checksum_from sum (drop i bytes) ≡ checksum_from ((sum * 31 + get_or bytes i 0) % 251) (drop (i + 1) bytes)
unfolding checksum_from
step bytes sum i h = rw (add-one, drop-cons bytes i 0 h)

pub loop-byte-preserved : goal.loop-byte-preserved
loop-byte-preserved c =
    let l = c.loop-byte in
    let bytes = c.args.packet.now in record {
      bound = omega arith;
      left = ap (λ (x : ℕ). checksum_from ((l.sum * 31 + x) % 251) (drop (l.byte-index + 1) bytes)) c.from.ensures
          ∙ sym (step bytes l.sum l.byte-index (omega arith))
          ∙ l.invariant.left;
    }

pub returns : goal.returns
unfolding checksum_from
returns c =
    let l = c.loop-byte in
    (ap (checksum_from l.sum) (sym (drop_of_length-le c.args.packet.now {i = l.byte-index} (omega arith))) ∙ l.invariant.left, l.invariant.bound)
