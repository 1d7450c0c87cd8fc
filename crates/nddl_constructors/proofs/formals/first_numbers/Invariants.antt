use Rattle.nddl_symbols.proofs.Firsts.{HasFirstsTo}
use Rattle.nddl_constructors.proofs.Numbering.{is_typed_named}
use Rattle.nddl_constructors.proofs.formals.first_numbers.Given as goal

abbrev pub invariant-loop-number : goal.invariant-loop-number
invariant-loop-number l = HasFirstsTo is_typed_named l.formals l.number l.numbers
