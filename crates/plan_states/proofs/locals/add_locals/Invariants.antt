-- The lines of the locals of the rules so far were put behind the others.
use Rattle.eu_name.specs.declared.name.TokenName.{TokenName}
use Rattle.model_core.specs.Views.{IsTokenAt}
use Rattle.plan_defs.specs.Surveying.{Surveys, UpTo, IsRuleLine, IsRuleFlaw}
use Rattle.plan_states.proofs.locals.add_locals.Given as goal

abbrev pub invariant-loop-rule : goal.invariant-loop-rule
invariant-loop-rule g l =
    (token : TokenName) → IsTokenAt (g.V.View.state l.view) l.place token
    → Surveys (g.V.View.model l.view) (g.V.View.decisions l.view) (g.V.View.state l.view)
    (UpTo (IsRuleLine (g.V.View.model l.view) (g.V.View.decisions l.view) (g.V.View.state l.view) token) l.rule)
    (UpTo (IsRuleFlaw (g.V.View.model l.view) (g.V.View.decisions l.view) (g.V.View.state l.view) token) l.rule) l.fn.lines.items l.lines.items
