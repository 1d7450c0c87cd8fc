use Rattle.narrow_core.proofs.Below.{are_domains}
use Rattle.narrow_core.proofs.Sweeping.{monotone, one_answer}
use Rattle.narrow_core.proofs.laws.a_pass_is_monotone.Goals as goal

pub returns-clause-one : goal.returns-clause-one
returns-clause-one g c = λ it old new other change answer old_ok new_ok other_ok sweep again.
    one_answer (g.C.Narrow.reach it) (g.C.Narrow.holds it) _ old new other change answer (are_domains old old_ok) (are_domains new new_ok) (are_domains other other_ok) sweep again

pub returns-clause-monotone : goal.returns-clause-monotone
returns-clause-monotone g c = λ it old new wide wide_new change wide_change old_ok new_ok wide_ok wide_new_ok within sweep wide_sweep some.
    monotone (g.C.Narrow.reach it) (g.C.Narrow.holds it) _ _ old wide new wide_new change wide_change tt tt
    (are_domains old old_ok) (are_domains wide wide_ok) (are_domains new new_ok) (are_domains wide_new wide_new_ok) tt within sweep wide_sweep some
