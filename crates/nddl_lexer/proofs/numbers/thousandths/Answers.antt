use Rattle.nddl_lexer.proofs.Sizes.{fraction_small}
use Rattle.nddl_lexer.proofs.numbers.thousandths.Goals as goal

pub returns-in_err-below-clause-value : goal.returns-in_err-below-clause-value
returns-in_err-below-clause-value c = rw c.from_residual-in_err-below.ensures (λ _ digits short. absurd (fraction_small _ digits short (c.in_err-below.ensures.value digits)))
