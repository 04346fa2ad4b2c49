use native.Mathlib.Omega.{arith}
use mathlib.Core.Path.{ap, ◌∙◌}
use Prim.Native.Nat.{ℕ, ◌+◌, ◌-◌, ◌<◌}
use lib.ListN.{length, take, drop, get_or, length-set}
use mathlib.Core.List.{List, ◌∷◌}
use Rattle.join.proofs.Joining.{partner-none, partner-some, partner-size, part, part_length, put-none}
use Rattle.join.specs.Scan.{partner}
use lib.Bits.{bit_or}
use Rattle.buffer.specs.Buffer.{put_at}
use Rattle.buffer.proofs.Laws.{put-cons}
use borrow.Author.Rules.{rules}
use Rattle.join.proofs.put_partner.Statement.{statement}
use Rattle.join.proofs.put_partner.Tie as tie

returns : tie.Need-returns-then-enhanced-i
returns c = put-none c.before.before.before.before.before.args.res.now (partner c.before.before.before.before.before.args.enhanced.now c.before.before.before.before.before.args.n) c.before.before.before.before.before.args.at (partner-none c.before.before.before.before.before.args.enhanced.now c.before.before.before.before.before.args.n c.before.place_of-i.result c.before.place_of-i.ensures.1 c.if-enhanced-i.true)

slice-write-result : tie.Need-bounds-res-at
slice-write-result c =
    let a = c.before.before.before.before.before.before.before.args in
    let f = c.before.before.before.place_of-i in
    let e = c.before.run_end-end in
    omega (arith, partner-size a.enhanced.now a.n f.result f.ensures.1 e.result (omega arith) (omega arith) (omega arith) e.ensures.1)

put-words-requires : tie.Need-put_words-requires
put-words-requires c κs =
    let a = c.before.before.before.before.before.before.before.before.before.args in
    let f = c.before.before.before.before.before.place_of-i in
    let e = c.before.before.before.run_end-end in
    let s = partner-size a.enhanced.now a.n f.result f.ensures.1 e.result (omega arith) (omega arith) (omega arith) e.ensures.1 in
    let p = part_length (f.result + 1) e.result a.enhanced.now (omega arith) (omega arith) in
    simp length-set (omega arith)

same_length : tie.Need-shape_of-res
same_length c = omega (arith, simp length-set at c.before.before.put_words.auto.dst)

returns-2 : tie.Need-returns
returns-2 c =
    let a = c.before.before.before.before.before.before.before.before.before.before.before.before.args in
    let f = c.before.before.before.before.before.before.before.before.place_of-i in
    let e = c.before.before.before.before.before.before.run_end-end in
    let h : f.result < length a.enhanced.now = omega arith in
    let s = partner-size a.enhanced.now a.n f.result f.ensures.1 e.result h (omega arith) (omega arith) e.ensures.1 in
    let v = bit_or (get_or a.enhanced.now f.result 0) 0x20000000 in
    let w : List ℕ = take (e.result - (f.result + 1)) (drop (f.result + 1) a.enhanced.now) in (
      omega arith,
      c.before.before.put_words.ensures ∙ put-cons a.res.now w a.at v (omega arith)
          ∙ ap (put_at a.res.now a.at)
          (ap (λ (r : List ℕ). v ∷ r) (part (f.result + 1) e.result a.enhanced.now (omega arith))
          ∙ partner-some a.enhanced.now a.n f.result f.ensures.1 e.result h e.ensures.1),
    )

pub put_partner_spec : {M : Type 1} → statement M
put_partner_spec =
    tie.close (tie.spec (λ c κs. search rules) returns (λ c. search rules) (λ c κs. search rules) (λ c. search rules) (λ c. search rules) (λ c. search rules)
    slice-write-result (λ c. search rules) (λ c. search rules) (λ c. search rules) (λ c. search rules) (λ c. search rules) (λ c. search rules)
    put-words-requires (λ c. search rules) (λ c. search rules) same_length returns-2)
