use Rattle.model_typing.specs.Terms.{scope_of}
use Rattle.model_typing.proofs.Comparing.{compared_values}
use Rattle.model_typing.proofs.terms.are_comparable_values.Goals as goal

pub returns : goal.returns
returns c = compared_values c.args.model.now (scope_of c.args.scope) c.args.terms.now c.args.classes.now c.requires.ground c.requires.values c.are_of_kind.result c.are_of_kind.ensures
