use Rattle.std.proofs.Common.{◌∙◌}
use mathlib.Core.Path.{ap₂}
use Rattle.packet_log.specs.Log.{same_list}
use Rattle.diversity.proofs.Pairing.{piece_of}
use Rattle.diversity.proofs.same_piece.Goals as goal

pub returns : goal.returns
returns c =
    let s = c.args in
    let a = c.from-a in
    let e = c.from-e in
    c.same_bytes.ensures
    ∙ ap₂ same_list (piece_of s.first.now s.marks s.k a.result e.result a.ensures e.ensures) (piece_of s.second.now s.marks s.k a.result e.result a.ensures e.ensures)
