use Rattle.receiver.proofs.Calling.{stream-call, reader-call, log-call}
use mathlib.Core.Path.{sym, subst, ◌∙◌}
use Prim.Native.Nat.{◌<◌}
use Rattle.layout.specs.declared.ControlWord.{ControlWord}
use Rattle.pdu.proofs.Assembling.{nop-small}
use borrow.Author.Rules.{rules}
use Rattle.receiver.proofs.receive_corrected.Statement.{statement}
use Rattle.receiver.proofs.receive_corrected.Tie as tie

returns : tie.Need-returns-then-n-ne0
returns c =
    let w = c.before.before in
    let s = w.before.before.before.before.before in
    let a = s.args in
    stream-call a.m a.r a.carry.now a.y.now a.log.now w.before.control_word-c.result w.before.control_word-c.ensures w.wrong_stream-n.result c.refused.result w.wrong_stream-n.ensures c.before.if-n-ne0.true c.refused.ensures

returns-2 : tie.Need-returns-then-v-ne0
returns-2 c =
    let j = c.before.before.before.before in
    let w = j.before.before in
    let s = w.before.before.before.before.before in
    let a = s.args in
    reader-call a.m a.r a.carry.now a.y.now a.log.now w.before.control_word-c.result w.before.control_word-c.ensures s.requires.0 w.wrong_stream-n.result w.wrong_stream-n.ensures j.before.if-n-ne0.false j.judge-v.result.number j.judge-v.result.wrong c.refused-then-v-ne0.result j.judge-v.ensures.0 j.judge-v.ensures.1 c.before.before.if-v-ne0.true c.refused-then-v-ne0.ensures

receive-read-requires : tie.Need-receive_read-requires
receive-read-requires c κs =
    let j = c.before.before.before.before in
    let w = j.before.before in
    let s = w.before.before.before.before.before in
    let few = subst (λ (d : ControlWord). d.nop < 64) (sym w.before.control_word-c.ensures) (nop-small s.args.y.now) in
    (s.requires.1.0, ((s.requires.1.1, few), sym j.judge-v.ensures.0 ∙ c.before.before.if-v-ne0.false))

returns-3 : tie.Need-returns
returns-3 c =
    let f = c.before.before.before.before in
    let e = f.before.before.before in
    let j = e.before.before in
    let w = j.before.before in
    let s = w.before.before.before.before.before in
    let a = s.args in
    log-call a.m a.r a.carry.now a.y.now a.log.now w.before.control_word-c.result w.before.control_word-c.ensures s.requires.0 w.wrong_stream-n.result w.wrong_stream-n.ensures j.before.if-n-ne0.false j.judge-v.result.number f.receive_read.result f.receive_read.new.carry f.receive_read.new.log j.judge-v.ensures.0 e.if-v-ne0.false f.receive_read.ensures

pub receive_corrected_spec : {M : Type 1} → statement M
receive_corrected_spec =
    tie.close (tie.spec (λ c κs. search rules) (λ c κs. search rules) (λ c κs. search rules) returns (λ c κs. search rules) (λ c. search rules)
    (λ c κs. search rules) returns-2 receive-read-requires (λ c. search rules) (λ c. search rules) returns-3)
