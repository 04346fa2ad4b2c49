use Rattle.std.proofs.Common.{le-ltb, lt-ltb}
use Rattle.text.specs.Text.{with_digit}
use Rattle.text.proofs.with_digit.Goals as goal

pub returns-then-byte-lt48 : goal.returns-then-byte-lt48
unfolding with_digit
returns-then-byte-lt48 c = simp (lt-ltb _ _ c.if-byte-lt48.true)

pub returns-then-byte-gt57 : goal.returns-then-byte-gt57
unfolding with_digit
returns-then-byte-gt57 c = simp (le-ltb _ _ c.if-byte-lt48.false, lt-ltb _ _ c.if-byte-gt57.true)

pub returns : goal.returns
unfolding with_digit
returns c = simp (le-ltb _ _ c.if-byte-lt48.false, le-ltb _ _ c.if-byte-gt57.false, c.from.ensures)
