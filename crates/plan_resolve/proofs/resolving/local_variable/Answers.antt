use Rattle.std.proofs.Common.{◌≡◌, Some, slice_get, sym, subst}
use Rattle.eu_name.specs.declared.name.TokenName.{TokenName}
use Rattle.eu_name.specs.declared.name.VarName.TheVariants.{Local}
use Rattle.model_core.specs.declared.model.Model.{Model}
use Rattle.model_core.specs.declared.rule.Rule.{Rule}
use Rattle.model_core.specs.declared.variable.VarDecl.{VarDecl}
use Rattle.model_core.specs.Names.{NamesVariable, token_at}
use Rattle.model_core.specs.Tokens.{HasRule}
use Rattle.model_core.proofs.Resolving.{no_variable, no_local_variable, local_named}
use Rattle.plan_resolve.proofs.resolving.local_variable.Goals as goal

pub returns-in_default : goal.returns-in_default
returns-in_default c = no_variable c.args.model.now c.args.name.now (λ whole. cc) c.in_default.ensures

pub returns-in_default-local_of : goal.returns-in_default-local_of
returns-in_default-local_of c =
    no_local_variable c.args.model.now c.args.name.now (token_at c.in-Some.reached.root c.args.name.now.steps) c.in-Some.reached.pred c.args.rule c.args.number
    c.requires.lawful c.requires.tail c.in-Some.ensures
    (subst (λ (m : Model). (found : Rule) (variable : VarDecl) → HasRule m c.in-Some.reached.pred c.args.rule found → slice_get found.locals c.args.number ≡ Some variable → ⊥) c.model.ensures c.in_default-local_of.ensures)

pub returns : goal.returns
returns c =
    subst (λ (token : TokenName). NamesVariable c.args.model.now c.args.name.now (Local token c.args.rule c.args.number)) (sym c.in_ok-token.ensures)
    (local_named c.args.model.now c.args.name.now (token_at c.in-Some.reached.root c.args.name.now.steps) c.in-Some.reached.pred c.args.rule c.args.number c.in-Some-local_of.field-0.now
    c.requires.tail c.in-Some.ensures
    (subst (λ (m : Model). (found : Rule) × HasRule m c.in-Some.reached.pred c.args.rule found × (slice_get found.locals c.args.number ≡ Some c.in-Some-local_of.field-0.now)) c.model.ensures c.in-Some-local_of.ensures))
