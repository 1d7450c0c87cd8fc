use Rattle.model_core.specs.Tokens.{IsRoot}
use Rattle.eu_name.proofs.Members.{get_same}
use Rattle.model_core.specs.declared.model.Root.{Root}
use Rattle.model_core.specs.Kinds.{IsPartOfKind}
use Rattle.model_typing.proofs.Telling.{just_found}
use Rattle.model_typing.proofs.kinds.root_kind.Goals as goal

pub returns-in-Some : goal.returns-in-Some
returns-in-Some c =
    just_found c.part_kind.result (IsRoot c.args.model.now c.args.number) (λ kind (a : Root). IsPartOfKind c.args.model.now a.pred kind c.args.part) c.in-Some.root.now
    c.in-Some.ensures (λ other at. get_same c.args.model.now.problem.roots c.args.number other c.in-Some.root.now at c.in-Some.ensures) c.part_kind.ensures
