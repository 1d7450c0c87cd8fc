use Rattle.std.proofs.Common.{sym, subst}
use Rattle.model_typing.specs.declared.scope.TermScope.{TermScope}
use Rattle.model_typing.specs.declared.line.Line.TheVariants.{Nothing}
use Rattle.model_core.specs.Kinds.{IsInner}
use Rattle.model_typing.specs.Terms.{HasLocalLines, IsTermLine, scope_of}
use Rattle.model_typing.proofs.Lined.{nowhere_inner}
use Rattle.model_typing.proofs.lines.scoped_line.Goals as goal

pub inner_line-requires-clause-locals : goal.inner_line-requires-clause-locals
inner_line-requires-clause-locals c = subst (HasLocalLines c.args.model.now) c.in-InRule.is c.requires.scoped

pub returns-in-InRule : goal.returns-in-InRule
returns-in-InRule c =
    subst (λ (p : TermScope). IsInner c.args.term → IsTermLine c.args.model.now (scope_of p) c.args.term c.inner_line.result) (sym c.in-InRule.is) c.inner_line.ensures

pub returns-in-InProblem : goal.returns-in-InProblem
returns-in-InProblem c =
    subst (λ (p : TermScope). IsInner c.args.term → IsTermLine c.args.model.now (scope_of p) c.args.term Nothing) (sym c.in-InProblem.is)
    (λ inner kind. absurd (nowhere_inner c.args.model.now c.args.term inner kind))
