use Rattle.model_typing.specs.Terms.{scope_of}
use Rattle.model_typing.proofs.Comparing.{numbers_written}
use Rattle.model_typing.proofs.terms.are_numbers.Goals as goal

pub returns-in-None : goal.returns-in-None
returns-in-None c = numbers_written c.args.model.now (scope_of c.args.scope) c.args.terms.now c.in-None.ensures c.are_of_kind.result c.are_of_kind.ensures
