use Rattle.std.proofs.Common.{sym, subst}
use Rattle.model_core.specs.Kinds.{IsOfKind, IsInner}
use Rattle.model_typing.specs.declared.scope.TermScope.{TermScope}
use Rattle.model_typing.specs.Terms.{IsJust, scope_of}
use Rattle.model_typing.proofs.kinds.scoped_kind.Goals as goal

pub returns-in-InRule : goal.returns-in-InRule
returns-in-InRule c =
    subst (λ (p : TermScope). IsInner c.args.term → IsJust c.inner_kind.result (λ kind. IsOfKind c.args.model.now (scope_of p) kind c.args.term)) (sym c.in-InRule.is)
    c.inner_kind.ensures
