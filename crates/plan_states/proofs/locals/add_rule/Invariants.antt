-- The lines of the locals so far were put behind the others.
use Rattle.eu_name.specs.declared.name.TokenName.{TokenName}
use Rattle.model_core.specs.Views.{IsTokenAt}
use Rattle.plan_defs.specs.Surveying.{Surveys, UpTo, IsLocalLine, IsLocalFlaw}
use Rattle.plan_states.proofs.locals.add_rule.Given as goal

abbrev pub invariant-loop-number : goal.invariant-loop-number
invariant-loop-number g l =
    (token : TokenName) → IsTokenAt (g.V.View.state l.view) l.place token
    → Surveys (g.V.View.model l.view) (g.V.View.decisions l.view) (g.V.View.state l.view)
    (UpTo (IsLocalLine (g.V.View.model l.view) (g.V.View.decisions l.view) (g.V.View.state l.view) token l.rule) l.number)
    (UpTo (IsLocalFlaw (g.V.View.model l.view) (g.V.View.decisions l.view) (g.V.View.state l.view) token l.rule) l.number) l.fn.lines.items l.lines.items
