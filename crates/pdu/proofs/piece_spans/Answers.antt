use Rattle.std.proofs.Common.{◌+◌, ◌-◌, ℕ, ap, ap₂, arith}
use Rattle.pdu.specs.Reading.{start_at, length_at}
use Rattle.pdu.proofs.Filling.{filled-start, filled_next, filled-end, past-start}
use Rattle.pdu.proofs.piece_spans.Goals as goal

pub loop-k-init : goal.loop-k-init
loop-k-init c = record { starts = filled-start _; lengths = filled-start _ }

pub overflow_add-starts : goal.overflow_add-starts
overflow_add-starts c = let a = c.args in omega (arith, past-start a.width a.c a.y.now c.loop-k.k c.requires.y_value (omega arith), c.mark-before.ensures, c.locator-l.ensures, c.locator-l.type_inv)

pub overflow_add-lengths : goal.overflow_add-lengths
overflow_add-lengths c = let a = c.args in omega (arith, past-start a.width a.c a.y.now c.loop-k.k c.requires.y_value (omega arith), c.mark-before.ensures, c.locator-l.ensures, c.locator-l.type_inv)

pub overflow_sub-lengths : goal.overflow_sub-lengths
overflow_sub-lengths c = let a = c.args in omega (arith, past-start a.width a.c a.y.now c.loop-k.k c.requires.y_value (omega arith), c.mark-before.ensures, c.locator-l.ensures)

pub returns-clause-starts_value : goal.returns-clause-starts_value
returns-clause-starts_value c = filled-end _ c.args.c.nop c.loop-k.k _ (omega arith) c.loop-k.invariant.starts

pub returns-clause-lengths_value : goal.returns-clause-lengths_value
returns-clause-lengths_value c = filled-end _ c.args.c.nop c.loop-k.k _ (omega arith) c.loop-k.invariant.lengths
