-- The CRC byte stands behind the bytes.
use Rattle.std.proofs.Common.{◌≡◌, ◌+◌, ◌-◌, ◌<◌, ◌∙◌, List, [], ◌∷◌, ◌++◌, ℕ, length, take, drop, ap, arith, length-drop}
use Rattle.std.proofs.Math.ListN.{set}
use lib.Seq.{length-take-le}
use Rattle.buffer.specs.Buffer.{put_at}
use Rattle.buffer.proofs.Laws.{put_one, put_then, put-length}
use Rattle.pieces.proofs.put_piece.Goals as goal

pub returns : goal.returns
returns c =
    let a = c.args in
    let l = a.pdu.now in
    let k : ℕ = a.to - a.from in
    let w : List ℕ = take k (drop a.from a.bytes.now) in
    let n : length w ≡ k = length-take-le k (drop a.from a.bytes.now) (omega (arith, length-drop a.from a.bytes.now)) in
    let m = c.put_bytes.new.dst in
    let crc = c.crc_of-crc.result in
    let h : a.at + k < length m = omega (arith, ap length c.put_bytes.ensures ∙ put-length l a.at w (omega (arith, n))) in
    put_then l m (set m (a.at + k) crc) w (crc ∷ []) a.at (a.at + k) (omega (arith, n)) (omega (arith, n)) c.put_bytes.ensures (put_one m (a.at + k) crc h)
    ∙ ap (λ (x : ℕ). put_at l a.at (w ++ x ∷ [])) c.crc_of-crc.ensures
