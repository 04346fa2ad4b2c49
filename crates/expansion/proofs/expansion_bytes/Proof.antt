use native.Mathlib.Omega.{arith}
use mathlib.Core.Path.{◌≡◌, ap, ◌∙◌}
use mathlib.Core.List.{[], ◌++◌}
use borrow.Author.Rules.{rules}
use Rattle.expansion.specs.Expansion.{septets_of_all}
use Rattle.expansion.specs.Writing.{class_field, program_field, type_field, services_field, sent_fields, marked}
use Rattle.expansion.proofs.Putting.{so_far, further, four, none-put, some-put}
use Rattle.expansion.proofs.expansion_bytes.Statement.{statement}
use Rattle.expansion.proofs.expansion_bytes.Tie as tie

-- bit 7 set in each
all : (c : tie.After-put_services-all) → so_far c.put_services-all.result ≡ marked (septets_of_all (sent_fields c.before.before.before.before.args.x))
all c =
    let t = c.before in
    let p = t.before in
    let d = p.before in
    let x = d.before.args.x in
    further [] (so_far t.put_type-typed.result) _ (septets_of_all (class_field x) ++ septets_of_all (program_field x) ++ septets_of_all (type_field x)) (septets_of_all (services_field x))
    (further [] (so_far p.put_program-program.result) _ (septets_of_all (class_field x) ++ septets_of_all (program_field x)) (septets_of_all (type_field x))
    (further [] (so_far d.put_class-class.result) _ (septets_of_all (class_field x)) (septets_of_all (program_field x)) d.put_class-class.ensures.0 p.put_program-program.ensures.0)
    t.put_type-typed.ensures.0)
    c.put_services-all.ensures.0
    ∙ ap marked (four x)

returns : tie.Need-returns-then-n-eq0
returns c =
    let a = c.before in
    none-put a.before.before.before.before.args.x a.put_services-all.result (all a) a.put_services-all.ensures.1.1 c.if-n-eq0.true

returns-2 : tie.Need-returns
returns-2 c =
    let a = c.before.before in
    some-put a.before.before.before.before.args.x a.put_services-all.result (all a) a.put_services-all.ensures.1.1 _ c.before.if-n-eq0.false (omega arith) (omega arith)

pub expansion_bytes_spec : {M : Type 1} → statement M
expansion_bytes_spec =
    tie.close (tie.spec (λ c κs. search rules) (λ c κs. search rules) (λ c κs. search rules) (λ c κs. search rules) returns (λ c. search rules)
    (λ c. search rules) (λ c. search rules) (λ c. search rules) returns-2)
