use native.Mathlib.Nat.{add-zero}
use mathlib.Core.Bool.{Bool, true, false}
use Rattle.buffer.proofs.Laws.{put-nil, put_one}
use Rattle.snapshot.specs.Snapshot.{optional}
use native.Mathlib.Omega.{arith}
use mathlib.Core.Path.{◌≡◌, refl, ap, sym}
use Prim.Native.Nat.{◌<◌}
use lib.ListN.{length}
use borrow.Author.Rules.{rules}
use Rattle.snapshot.proofs.put_word.Statement.{statement}
use Rattle.snapshot.proofs.put_word.Tie as tie

returns : tie.Need-returns-then-not-there
returns c =
    let a = c.before.args in
    let e : a.there ≡ false = c.if-not-there.true in
    rw e (sym (add-zero a.at), sym (put-nil a.words.now a.at))

-- there is room for it
room : (c : tie.Else-not-there) → c.before.args.at < length c.before.args.words.now
room c =
    let a = c.before.args in
    let e : a.there ≡ true = c.if-not-there.false in
    let l : length (optional a.there a.word) ≡ 1 = ap (λ (t : Bool). length (optional t a.word)) e in
    omega (arith, c.before.requires, l)

slice-write-words : tie.Need-bounds-words-at
slice-write-words c = omega (arith, room c)

returns-2 : tie.Need-returns
returns-2 c =
    let a = c.before.args in
    let e : a.there ≡ true = c.if-not-there.false in
    rw e (refl, put_one a.words.now a.at a.word (room c))

pub put_word_spec : {M : Type 1} → statement M
put_word_spec = tie.close (tie.spec returns (λ c. search rules) slice-write-words (λ c. search rules) (λ c. search rules) returns-2)
