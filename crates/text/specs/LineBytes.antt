-- What a line of text shows.
use Rattle.std.specs.Prelude.{ℕ, List, take}
use Rattle.text.specs.declared.line.Line.{Line}

-- the bytes that were put into it
abbrev pub line_bytes : {N : ℕ} → Line N → List ℕ
line_bytes l = take l.length l.room
