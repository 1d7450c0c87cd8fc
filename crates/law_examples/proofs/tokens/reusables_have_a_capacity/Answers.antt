use Rattle.law_examples.proofs.Examples.{enough_closed, too_little}
use Rattle.law_examples.proofs.tokens.reusables_have_a_capacity.Goals as goal

pub returns-clause-enough : goal.returns-clause-enough
returns-clause-enough c = enough_closed

pub returns-clause-too_little : goal.returns-clause-too_little
returns-clause-too_little c = too_little
