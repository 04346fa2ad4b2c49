use Rattle.std.proofs.Common.{◌≡◌, List, ◌++◌, ℕ, length, take, ◌+◌, min, ap₂, ◌∙◌, rules}
use Rattle.text.specs.LineBytes.{line_bytes}
use Rattle.text.proofs.Lines.{put_after}
use Rattle.text.proofs.line.Line.put.Goals as goal

-- the bytes stand behind those that were there
pub returns : goal.returns
returns g c =
    let it = c.args.self.now in
    let put = c.put-self in
    let told : length it.room ≡ g.row.N = search rules in
    let ends : put.result ≡ min (min it.length g.row.N + length c.args.bytes.now) g.row.N = rw told at put.ensures.value in
    ap₂ take ends put.ensures.out_after
    ∙ put_after g.row.N it.length it.room c.args.bytes.now told it.has_room
