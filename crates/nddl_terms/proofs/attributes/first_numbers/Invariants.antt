use Rattle.nddl_symbols.proofs.Firsts.{HasFirstsTo}
use Rattle.nddl_terms.specs.Attributes.{is_attribute_named}
use Rattle.nddl_terms.proofs.attributes.first_numbers.Given as goal

abbrev pub invariant-loop-number : goal.invariant-loop-number
invariant-loop-number l = HasFirstsTo is_attribute_named l.attributes l.number l.numbers
