-- The lines of the tokens so far and of their locals were put behind the others.
use Rattle.plan_defs.specs.Surveying.{Surveys, UpTo, IsLineOfPlace, IsFlawOfPlace}
use Rattle.plan_states.proofs.making.add_tokens.Given as goal

abbrev pub invariant-loop-place : goal.invariant-loop-place
invariant-loop-place g l =
    Surveys (g.V.View.model l.view) (g.V.View.decisions l.view) (g.V.View.state l.view)
    (UpTo (IsLineOfPlace (g.V.View.model l.view) (g.V.View.decisions l.view) (g.V.View.state l.view)) l.place)
    (UpTo (IsFlawOfPlace (g.V.View.state l.view)) l.place) l.fn.lines.items l.lines.items
