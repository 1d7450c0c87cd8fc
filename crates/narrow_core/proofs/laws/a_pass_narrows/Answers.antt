use Rattle.narrow_core.proofs.Below.{are_domains}
use Rattle.narrow_core.proofs.Sweeping.{narrows, consistent_same, same_supported}
use Rattle.narrow_core.proofs.laws.a_pass_narrows.Goals as goal

pub returns-clause-narrows : goal.returns-clause-narrows
returns-clause-narrows g c = λ it old new change old_ok new_ok sweep. narrows (g.C.Narrow.reach it) (g.C.Narrow.holds it) old new change (are_domains old old_ok) (are_domains new new_ok) sweep

pub returns-clause-same : goal.returns-clause-same
returns-clause-same g c = λ it old new change old_ok new_ok sweep. (
  λ same. (same_supported (g.C.Narrow.reach it) (g.C.Narrow.holds it) _ old new change same sweep).1,
  λ consistent. consistent_same (g.C.Narrow.reach it) (g.C.Narrow.holds it) old new change (are_domains old old_ok) (are_domains new new_ok) sweep consistent,
)
