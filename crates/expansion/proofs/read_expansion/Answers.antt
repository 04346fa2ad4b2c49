use Rattle.std.proofs.Common.{sym, arith, ◌∙◌}
use Rattle.expansion.proofs.Chains.{expansion-few, expansion-there}
use Rattle.expansion.proofs.Interpreting.{broken, said}
use Rattle.expansion.proofs.read_expansion.Goals as goal

pub returns-then-n-eq0 : goal.returns-then-n-eq0
returns-then-n-eq0 c = record {
  length_value = (c.expansion_length-n.ensures, omega arith);
  values_value = broken c.args.pdu.now c.args.at c.args.la _ (sym c.expansion_length-n.ensures ∙ c.if-n-eq0.true) c.nothing-none.ensures;
}

pub interpret-values-requires : goal.interpret-values-requires
interpret-values-requires c = record {
  at_bound = (omega arith, omega (arith, expansion-few c.args.pdu.now c.args.at c.args.la));
  n_len = rw (c.from.ensures, c.expansion_length-n.ensures) (expansion-there c.args.pdu.now c.args.at c.args.la);
}

pub returns : goal.returns
returns c = record {
  length_value = (c.expansion_length-n.ensures, omega (arith, expansion-few c.args.pdu.now c.args.at c.args.la));
  values_value =
      said c.args.pdu.now c.args.at c.args.la c.expansion_length-n.result _
      (λ z. c.if-n-eq0.false (c.expansion_length-n.ensures ∙ z)) c.expansion_length-n.ensures (rw c.from.ensures at c.interpret-values.ensures);
}
