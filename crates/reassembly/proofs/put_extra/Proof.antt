use Rattle.buffer.proofs.Laws.{put-nil}
use Rattle.reassembly.proofs.Whole.{psd-none, psd-some}
use native.Mathlib.Omega.{arith}
use mathlib.Core.Path.{refl, sym}
use borrow.Author.Rules.{rules}
use Rattle.reassembly.proofs.put_extra.Statement.{statement}
use Rattle.reassembly.proofs.put_extra.Tie as tie

returns : tie.Need-returns-then-bytes-eq0
returns c =
    let a = c.before.before.before.args in
    rw (psd-none a.bytes.now c.if-bytes-eq0.true) (refl, sym (put-nil a.log.now a.at))

put-psd-requires : tie.Need-put_psd-requires
put-psd-requires c κs =
    let p = c.before.before.before.before in
    let a = p.args in
    (omega arith, rw (psd-some a.bytes.now c.before.if-bytes-eq0.false) at p.requires.1)

returns-2 : tie.Need-returns
returns-2 c =
    let a = c.before.before.before.before.before.before.before.args in
    rw (psd-some a.bytes.now c.before.before.before.before.if-bytes-eq0.false) c.before.before.put_psd.ensures

pub put_extra_spec : {M : Type 1} → statement M
put_extra_spec = tie.close (tie.spec returns put-psd-requires (λ c. search rules) returns-2)
