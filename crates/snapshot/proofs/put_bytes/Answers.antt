use Rattle.std.proofs.Common.{ℕ, List, ◌≡◌, ◌+◌, ◌*◌, ap, ◌∙◌, drop, set, arith}
use Rattle.buffer.specs.Buffer.{put_at}
use Rattle.snapshot.specs.Snapshot.{byte_words}
use Rattle.snapshot.proofs.Filling.{turn, none_left}
use Rattle.snapshot.proofs.put_bytes.Goals as goal

pub loop-j-preserved : goal.loop-j-preserved
loop-j-preserved c =
    let l = c.loop-j in
    let b : List ℕ = c.args.bytes.now in
    let next : 3 * (l.j + 1) ≡ 3 * l.j + 3 = omega arith in
    ap (λ k. put_at (set l.words (c.args.at + l.j) c.byte_word.result) (c.args.at + (l.j + 1)) (byte_words (drop k b))) next
    ∙ turn l.words b (put_at c.args.words.now c.args.at (byte_words b)) c.args.at (3 * l.j) l.j c.byte_word.result (omega arith) (omega arith) c.byte_word.ensures l.invariant

pub returns : goal.returns
returns c =
    let l = c.loop-j in
    none_left l.words c.args.bytes.now (put_at c.args.words.now c.args.at (byte_words c.args.bytes.now)) (c.args.at + l.j) (3 * l.j) (omega arith) l.invariant
