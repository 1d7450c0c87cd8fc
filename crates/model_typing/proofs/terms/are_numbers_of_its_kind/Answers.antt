use Rattle.model_typing.specs.Terms.{scope_of}
use Rattle.model_typing.proofs.Comparing.{numbers_as, numbers_not, numbers_none}
use Rattle.model_typing.proofs.terms.are_numbers_of_its_kind.Goals as goal

pub returns-then-is_numeric : goal.returns-then-is_numeric
returns-then-is_numeric c =
    numbers_as c.args.model.now (scope_of c.args.scope) c.args.terms.now c.args.term c.requires.there c.in-Some.kind c.are_of_kind.result
    (c.in-Some.ensures c.requires.named) (c.is_numeric.ensures.0 c.if-is_numeric.true) c.are_of_kind.ensures

pub returns-else-is_numeric : goal.returns-else-is_numeric
returns-else-is_numeric c =
    numbers_not c.args.model.now (scope_of c.args.scope) c.args.terms.now c.args.term c.requires.there c.in-Some.kind c.is_numeric.result
    (c.in-Some.ensures c.requires.named) c.if-is_numeric.false c.is_numeric.ensures

pub returns-in-None : goal.returns-in-None
returns-in-None c =
    numbers_none c.args.model.now (scope_of c.args.scope) c.args.terms.now c.args.term c.requires.there (c.in-None.ensures c.requires.named)
