use Rattle.std.proofs.Common.{subst}
use Rattle.eu_name.proofs.Members.{get_same}
use Rattle.model_core.specs.declared.model.Root.{Root}
use Rattle.model_core.specs.declared.variable.ValueKind.TheVariants.{Object}
use Rattle.model_core.specs.Kinds.{IsPartOfClass, IsPartOfKind}
use Rattle.model_core.specs.Tokens.{IsRoot}
use Rattle.model_typing.proofs.Lined.{line_found}
use Rattle.model_typing.proofs.lines.root_line.Goals as goal

pub returns-in-Some : goal.returns-in-Some
returns-in-Some c =
    let model = c.args.model.now in
    let root = c.in-Some.root.now in
    let only = λ (other : Root) (at : IsRoot model c.args.number other). get_same model.problem.roots c.args.number other root at c.in-Some.ensures in
    λ kind. line_found model c.part_line.result (IsRoot model c.args.number) (λ class (a : Root). IsPartOfClass model a.pred class c.args.part) root c.in-Some.ensures only
    (c.part_line.ensures (subst (λ (r : Root). IsPartOfKind model r.pred Object c.args.part) (only kind.0 kind.1) kind.2))

pub returns-in-None : goal.returns-in-None
returns-in-None c = λ kind. absurd (c.in-None.ensures kind.0 kind.1)
