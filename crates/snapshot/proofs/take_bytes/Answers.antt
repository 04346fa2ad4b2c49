use Rattle.std.proofs.Common.{ℕ, List, ◌∙◌, drop, arith}
use Rattle.buffer.specs.Buffer.{put_at}
use Rattle.buffer.proofs.Laws.{put-turn, put-end}
use Rattle.snapshot.specs.Snapshot.{bytes_in}
use Rattle.snapshot.proofs.Reading.{rest-count, rest-room, byte-from}
use Rattle.snapshot.proofs.take_bytes.Goals as goal

pub overflow_add-from : goal.overflow_add-from
overflow_add-from c = omega (arith, rest-room c.args.held c.args.from c.args.words.now c.requires.words_value c.loop-j.j c.loop-j-test.true)

pub offset_bounds-words-from : goal.offset_bounds-words-from
offset_bounds-words-from c = omega (arith, rest-room c.args.held c.args.from c.args.words.now c.requires.words_value c.loop-j.j c.loop-j-test.true)

pub bounds-words-from : goal.bounds-words-from
bounds-words-from c = rest-room c.args.held c.args.from c.args.words.now c.requires.words_value c.loop-j.j c.loop-j-test.true

pub loop-j-preserved : goal.loop-j-preserved
loop-j-preserved c =
    let l = c.loop-j in
    let bytes : List ℕ = bytes_in (drop c.args.from c.args.words.now) in
    let e = c.requires.words_value in
    let t = c.loop-j-test.true in
    put-turn (put_at c.args.carry.now 0 bytes) l.carry bytes l.j l.j c.byte_in.result (omega arith) (omega (arith, rest-count c.args.held c.args.from c.args.words.now e)) (c.byte_in.ensures ∙ byte-from c.args.held c.args.from c.args.words.now e l.j t) l.invariant

pub returns : goal.returns
returns c =
    let l = c.loop-j in
    let bytes : List ℕ = bytes_in (drop c.args.from c.args.words.now) in
    put-end (put_at c.args.carry.now 0 bytes) l.carry bytes l.j l.j (omega (arith, rest-count c.args.held c.args.from c.args.words.now c.requires.words_value)) l.invariant
