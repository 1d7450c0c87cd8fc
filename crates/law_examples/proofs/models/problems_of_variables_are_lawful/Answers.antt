use Rattle.law_examples.proofs.Lawful.{empty_lawful, free_lawful, low_lawful, free_two_lawful, low_two_lawful, typed_lawful, void_lawful, given_lawful, field_lawful, halved_lawful}
use Rattle.std.proofs.Common.{arith}
use Rattle.law_examples.proofs.models.problems_of_variables_are_lawful.Goals as goal

pub returns-clause-empty : goal.returns-clause-empty
returns-clause-empty c = empty_lawful

pub returns-clause-free : goal.returns-clause-free
returns-clause-free c = free_lawful

pub returns-clause-low : goal.returns-clause-low
returns-clause-low c = low_lawful

pub returns-clause-free_two : goal.returns-clause-free_two
returns-clause-free_two c = free_two_lawful

pub returns-clause-low_two : goal.returns-clause-low_two
returns-clause-low_two c = low_two_lawful

pub returns-clause-void : goal.returns-clause-void
returns-clause-void c = void_lawful

pub returns-clause-given : goal.returns-clause-given
returns-clause-given c = given_lawful

pub returns-clause-field : goal.returns-clause-field
returns-clause-field c = field_lawful

pub returns-clause-odd : goal.returns-clause-odd
returns-clause-odd c = halved_lawful 3 (omega arith)

pub returns-clause-even : goal.returns-clause-even
returns-clause-even c = halved_lawful 6 (omega arith)

pub returns-clause-typed : goal.returns-clause-typed
returns-clause-typed c = typed_lawful
