use native.Mathlib.Omega.{arith}
use mathlib.Core.Path.{◌≡◌, sym, ◌∙◌}
use Prim.Native.Nat.{ℕ, ◌≤◌, ◌<◌}
use lib.ListN.{length, get_or}
use borrow.Author.Rules.{rules}
use Rattle.header.proofs.Lengths.{short-refused, long-refused}
use Rattle.correction.specs.Marks.{allowed_marks, marks_refusal}
use mathlib.Core.Bool.{true}
use Rattle.correction.proofs.MarkLists.{allowed-marks}
use Rattle.correction.proofs.Answers.{length-refused, marks-refused, header-all-bytes, pdu-answered}
use Rattle.correction.proofs.correct_marked.Statement.{statement}
use Rattle.correction.proofs.correct_marked.Tie as tie

-- where the function begins
abbrev begin : tie.After-header_of → tie.Start
begin c = c.before.before.before.before.before.before.before

-- every byte of the PDU is one
bytes : (c : tie.After-header_of) → (i : ℕ) → get_or (begin c).args.pdu.now i 0 < 256
bytes c i = (c.before.before.before.before.before.before.slice_known-1.given i).fits

-- the marks are not refused
accepted : (c : tie.After-header_of) → marks_refusal (begin c).args.marks.now ≡ 0
accepted c = sym c.before.before.marks_refusal.ensures ∙ c.before.if-marks_refusal-ne0.false

allowed : (c : tie.After-header_of) → (length (begin c).args.marks.now ≤ 8) × (allowed_marks (begin c).args.marks.now ≡ true)
allowed c = allowed-marks _ (accepted c)

returns : tie.Need-returns-then-pdu-lt96
returns c = length-refused _ _ (short-refused _ (omega arith))

returns-2 : tie.Need-returns-then-pdu-gt20480
returns-2 c = length-refused _ _ (long-refused _ (omega arith))

returns-3 : tie.Need-returns-then-marks_refusal-ne0
returns-3 c = marks-refused _ _ (omega arith) (omega arith) (λ e. c.if-marks_refusal-ne0.true (c.before.marks_refusal.ensures ∙ e))

decode-requires : tie.Need-decode-decoded-requires
decode-requires c κs =
    let a = allowed c in
    (header-all-bytes (begin c).args.marks.now _ _ (omega arith) (omega arith) (bytes c) c.header_of.ensures, a)

returns-4 : tie.Need-returns
returns-4 c =
    let f = c.before.before in
    let e = f.before.before.before.before in
    let d = e.before in
    pdu-answered (begin d).args.marks.now _ _ (omega arith) (omega arith) (bytes d) d.header_of.ensures _ _ _ (accepted d) (allowed d).0 e.decode-decoded.ensures f.put_front.ensures

pub correct_marked_spec : {M : Type 1} → statement M
correct_marked_spec =
    tie.close (tie.spec returns returns-2 (λ c κs. search rules) returns-3 (λ c κs. search rules) decode-requires (λ c. search rules) (λ c κs. search rules)
    (λ c. search rules) returns-4)
