use Rattle.model_typing.specs.Terms.{scope_of}
use Rattle.model_typing.proofs.Comparing.{compared_as, compared_none}
use Rattle.model_typing.proofs.terms.are_of_its_kind.Goals as goal

pub returns-in-Some : goal.returns-in-Some
returns-in-Some c =
    compared_as c.args.model.now (scope_of c.args.scope) c.args.terms.now c.args.term c.requires.there c.in-Some.kind c.are_of_kind.result (c.in-Some.ensures c.requires.named) c.are_of_kind.ensures

pub returns-in-None : goal.returns-in-None
returns-in-None c = compared_none c.args.model.now (scope_of c.args.scope) c.args.terms.now c.args.term c.requires.there (c.in-None.ensures c.requires.named)
