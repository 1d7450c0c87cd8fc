use Rattle.std.proofs.Common.{List, sym, subst}
use Rattle.std.specs.Prelude.{All}
use Rattle.model_core.specs.declared.decision.ConArg.{ConArg}
use Rattle.model_core.specs.declared.model.Model.{Model}
use Rattle.model_core.specs.Lawful.{IsLawfulArgument}
use Rattle.model_core.proofs.Naming.{names_what_there_is}
use Rattle.script_lang.specs.Compared.{compared, IsFirstKind}
use Rattle.script_lang.proofs.Arguing.{named_lawful, answers_found}
use Rattle.script_lang.proofs.arguments.constraint_asked.Goals as goal

pub kind_among-among-requires : goal.kind_among-among-requires
kind_among-among-requires c =
    subst (λ (m : Model). All (IsLawfulArgument m) c.as_slice.result.now) (sym c.model.ensures)
    (subst (All (IsLawfulArgument c.args.model.now)) (sym c.as_slice.ensures) (named_lawful c.args.model.now names_what_there_is c.args.words.now c.in_ok-named.named c.in_ok-named.ensures))

pub returns : goal.returns
returns c =
    answers_found c.args.model.now c.requires c.args.kind c.kind_among-among.result c.args.words.now c.in_ok-named.named c.arguments_said.result c.in_ok-named.ensures
    (subst (λ (m : Model). IsFirstKind m (compared c.args.kind c.in_ok-named.named) c.kind_among-among.result) c.model.ensures
    (subst (λ (list : List ConArg). IsFirstKind c.model.result.now (compared c.args.kind list) c.kind_among-among.result) c.as_slice.ensures c.kind_among-among.ensures))
    c.arguments_said.ensures
