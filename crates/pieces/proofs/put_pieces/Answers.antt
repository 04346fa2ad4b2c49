use Rattle.std.proofs.Common.{ap, ◌≡◌, ◌+◌, ◌-◌, ◌∙◌, ℕ, take, drop, arith}
use Rattle.buffer.specs.Buffer.{put_at}
use Rattle.pieces.specs.Pieces.{cut_by, with_crc, piece_bytes}
use Rattle.pieces.proofs.Cutting.{total-drop, turn, none_left}
use Rattle.pieces.proofs.put_pieces.Goals as goal

pub put_piece-requires : goal.put_piece-requires
put_piece-requires c =
    let l = c.loop-length in
    let t = total-drop c.args.lengths.now l.length-index (omega arith) in
    (omega arith, omega (arith, t), omega (arith, t))

pub loop-length-preserved : goal.loop-length-preserved
loop-length-preserved c =
    let a = c.args in
    let l = c.loop-length in
    let n = c.from-n.result in
    let t = total-drop a.lengths.now l.length-index (omega arith) in
    let m : l.from + n - l.from ≡ n = omega arith in
    let p : l.place + (n + 1) ≡ l.place + n + 1 = omega arith in
    let e : c.put_piece.new.pdu ≡ put_at l.pdu l.place (with_crc a.register (take n (drop l.from a.bytes.now))) = rw m at c.put_piece.ensures in record {
      room = omega (arith, t);
      bytes = omega (arith, t);
      left = ap (λ (k : ℕ). put_at c.put_piece.new.pdu k (piece_bytes a.register (cut_by (drop (l.length-index + 1) a.lengths.now) (drop (l.from + n) a.bytes.now)))) p
          ∙ turn a.register l.pdu c.put_piece.new.pdu a.lengths.now a.bytes.now _ l.place l.from l.length-index n (omega arith) c.from-n.ensures (omega (arith, t)) (omega (arith, t))
          e l.invariant.left;
    }

pub returns : goal.returns
returns c =
    let l = c.loop-length in
    none_left c.args.register l.pdu c.args.lengths.now c.args.bytes.now _ l.place l.from l.length-index (omega arith) l.invariant.left
