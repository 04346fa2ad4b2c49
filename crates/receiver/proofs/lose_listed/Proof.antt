use Rattle.receiver.proofs.Losing.{note-fits, one_word, state-lost, short-lost, noted-lost}
use native.Mathlib.Omega.{arith}
use borrow.Author.Rules.{rules}
use Rattle.receiver.proofs.lose_listed.Statement.{statement}
use Rattle.receiver.proofs.lose_listed.Tie as tie

returns : tie.Need-returns-then-wrong_state
returns c =
    let w = c.before.before in
    let s = w.before.before in
    let a = s.args in
    state-lost a.log.now a.r a.m s.requires w.wrong_state.result w.wrong_state.ensures c.refused.result c.before.if-wrong_state.true c.refused.ensures

returns-2 : tie.Need-returns-then-log-lt1
returns-2 c =
    let w = c.before.before.before in
    let s = w.before.before in
    let a = s.args in
    short-lost a.log.now a.r a.m s.requires w.wrong_state.result w.wrong_state.ensures c.before.before.if-wrong_state.false c.refused-then-log-lt1.result c.before.if-log-lt1.true c.refused-then-log-lt1.ensures

put-note-requires : tie.Need-put_note-words-requires
put-note-requires c κs =
    let s = c.before.before.before.before.before in
    note-fits s.args.log.now _ c.before.if-log-lt1.false

forgotten-requires : tie.Need-forgotten-requires
forgotten-requires c κs = let h = one_word _ _ c.before.before.put_note-words.ensures.0 in omega (arith, h)

returns-3 : tie.Need-returns
returns-3 c =
    let p = c.before.before.before in
    let e = p.before.before in
    let w = e.before.before in
    let s = w.before.before in
    let a = s.args in
    noted-lost a.log.now a.r a.m s.requires w.wrong_state.result w.wrong_state.ensures e.before.if-wrong_state.false p.put_note-words.result c.forgotten.result p.put_note-words.new.log e.if-log-lt1.false (one_word _ _ p.put_note-words.ensures.0) c.forgotten.ensures p.put_note-words.ensures.1

pub lose_listed_spec : {M : Type 1} → statement M
lose_listed_spec =
    tie.close (tie.spec (λ c κs. search rules) (λ c κs. search rules) returns (λ c κs. search rules) returns-2 put-note-requires forgotten-requires
    (λ c. search rules) returns-3)
