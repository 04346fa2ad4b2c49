-- `snapshot::put_head` meets its contract: each call leaves the words that are still to come.
use borrow.Author.Rules.{rules}
use mathlib.Core.Bool.{true, not}
use mathlib.Core.List.{List, ◌++◌}
use lib.Dec.{eqb}
use Prim.Native.Nat.{ℕ}
use Rattle.snapshot.specs.Snapshot.{optional, mode_word, sequence_word, held_word, register_word, programs_word, head_words}
use Rattle.snapshot.specs.Steps.{kinds}
use Rattle.snapshot.proofs.Filling.{Left, all_left, has_room, one_less, last-room, none-less}
use Rattle.snapshot.proofs.put_head.Statement.{statement}
use Rattle.snapshot.proofs.put_head.Tie as tie

-- the buffer at the beginning, and all words
abbrev first : tie.Start → List ℕ
first s = s.args.words.now

abbrev whole : tie.Start → List ℕ
whole s = head_words (kinds s.args.register s.args.programs) s.args.r

-- what is left after a word
abbrev after3 : tie.Start → List ℕ
after3 s = optional s.args.programs (programs_word s.args.r)

abbrev after2 : tie.Start → List ℕ
after2 s = optional s.args.register (register_word s.args.r) ++ after3 s

abbrev after1 : tie.Start → List ℕ
after1 s = optional (not (eqb s.args.r.held 0)) (held_word s.args.r) ++ after2 s

abbrev after0 : tie.Start → List ℕ
after0 s = optional s.args.r.known (sequence_word s.args.r) ++ after1 s

-- where the function begins
abbrev one : tie.After-mode_word → tie.Start
one c = c.before.before.before

abbrev two : tie.After-sequence_word → tie.Start
two c = one c.before.before.before.before.before

abbrev three : tie.After-held_word → tie.Start
three c = two c.before.before.before.before.before.before

abbrev four : tie.After-register_word → tie.Start
four c = three c.before.before.before.before.before

abbrev five : tie.After-programs_word → tie.Start
five c = four c.before.before.before.before.before

none_yet : (s : tie.Start) → Left (first s) (whole s) (first s) (optional true (mode_word s.args.r) ++ after0 s) 0
unfolding head_words
none_yet s = all_left (first s) (whole s) s.requires

mode-written : (c : tie.After-put_word-a) → Left (first (one c.before)) (whole (one c.before)) c.put_word-a.new.words (after0 (one c.before)) c.put_word-a.result
mode-written c =
    let s = one c.before in
    one_less (first s) (whole s) s.requires (first s) (after0 s) 0 c.before.mode_word.result (mode_word s.args.r) true (none_yet s) c.before.mode_word.ensures c.put_word-a.new.words c.put_word-a.result c.put_word-a.ensures.0 c.put_word-a.ensures.1

sequence-written : (c : tie.After-put_word-b) → Left (first (two c.before)) (whole (two c.before)) c.put_word-b.new.words (after1 (two c.before)) c.put_word-b.result
sequence-written c =
    let s = two c.before in
    let p = c.before.before.before.before.before in
    one_less (first s) (whole s) s.requires p.put_word-a.new.words (after1 s) p.put_word-a.result c.before.sequence_word.result (sequence_word s.args.r) s.args.r.known (mode-written p) c.before.sequence_word.ensures c.put_word-b.new.words c.put_word-b.result c.put_word-b.ensures.0 c.put_word-b.ensures.1

held-written : (c : tie.After-put_word-c) → Left (first (three c.before)) (whole (three c.before)) c.put_word-c.new.words (after2 (three c.before)) c.put_word-c.result
held-written c =
    let s = three c.before in
    let p = c.before.before.before.before.before.before in
    one_less (first s) (whole s) s.requires p.put_word-b.new.words (after2 s) p.put_word-b.result c.before.held_word.result (held_word s.args.r) (not (eqb s.args.r.held 0)) (sequence-written p) c.before.held_word.ensures c.put_word-c.new.words c.put_word-c.result c.put_word-c.ensures.0 c.put_word-c.ensures.1

register-written : (c : tie.After-put_word-d) → Left (first (four c.before)) (whole (four c.before)) c.put_word-d.new.words (after3 (four c.before)) c.put_word-d.result
register-written c =
    let s = four c.before in
    let p = c.before.before.before.before.before in
    one_less (first s) (whole s) s.requires p.put_word-c.new.words (after3 s) p.put_word-c.result c.before.register_word.result (register_word s.args.r) s.args.register (held-written p) c.before.register_word.ensures c.put_word-d.new.words c.put_word-d.result c.put_word-d.ensures.0 c.put_word-d.ensures.1

put-word-requires : tie.Need-put_word-a-requires
put-word-requires c κs =
    let s = one c in
    has_room (first s) (whole s) s.requires (first s) (after0 s) 0 c.mode_word.result (mode_word s.args.r) true (none_yet s) c.mode_word.ensures

put-word-requires-2 : tie.Need-put_word-b-requires
put-word-requires-2 c κs =
    let s = two c in
    let p = c.before.before.before.before in
    has_room (first s) (whole s) s.requires p.put_word-a.new.words (after1 s) p.put_word-a.result c.sequence_word.result (sequence_word s.args.r) s.args.r.known (mode-written p) c.sequence_word.ensures

put-word-requires-3 : tie.Need-put_word-c-requires
put-word-requires-3 c κs =
    let s = three c in
    let p = c.before.before.before.before.before in
    has_room (first s) (whole s) s.requires p.put_word-b.new.words (after2 s) p.put_word-b.result c.held_word.result (held_word s.args.r) (not (eqb s.args.r.held 0)) (sequence-written p) c.held_word.ensures

put-word-requires-4 : tie.Need-put_word-d-requires
put-word-requires-4 c κs =
    let s = four c in
    let p = c.before.before.before.before in
    has_room (first s) (whole s) s.requires p.put_word-c.new.words (after3 s) p.put_word-c.result c.register_word.result (register_word s.args.r) s.args.register (held-written p) c.register_word.ensures

put-word-requires-5 : tie.Need-put_word-requires
put-word-requires-5 c κs =
    let s = five c in
    let p = c.before.before.before.before in
    last-room (first s) (whole s) s.requires p.put_word-d.new.words p.put_word-d.result c.programs_word.result (programs_word s.args.r) s.args.programs (register-written p) c.programs_word.ensures

returns : tie.Need-returns
returns c =
    let q = c.before.before in
    let s = five q.before in
    let p = q.before.before.before.before.before in
    none-less (first s) (whole s) s.requires p.put_word-d.new.words p.put_word-d.result q.before.programs_word.result (programs_word s.args.r) s.args.programs (register-written p) q.before.programs_word.ensures q.put_word.new.words q.put_word.result q.put_word.ensures.0 q.put_word.ensures.1

pub put_head_spec : {M : Type 1} → statement M
put_head_spec =
    tie.close (tie.spec (λ c κs. search rules) put-word-requires (λ c κs. search rules) put-word-requires-2 (λ c κs. search rules) put-word-requires-3
    (λ c κs. search rules) put-word-requires-4 (λ c κs. search rules) put-word-requires-5 (λ c. search rules) returns)
