-- The flag is true exactly where the sorts are one.
use Rattle.nddl_grammar.proofs.OneSort.{same_flag, not_true}
use Rattle.nddl_grammar.proofs.sort.Sort.is.Goals as goal

pub returns : goal.returns
returns c = same_flag _ _ c.equals.result (λ holds. c.equals.ensures.0 holds) (λ fails one. not_true _ fails (c.equals.ensures.1 one))
