use Rattle.narrow_core.proofs.Below.{are_domains}
use Rattle.narrow_core.proofs.Sweeping.{decides}
use Rattle.narrow_core.proofs.laws.a_pass_decides.Goals as goal

pub returns : goal.returns
returns g c = λ it old new values change some old_ok new_ok single sweep.
    decides (g.C.Narrow.reach it) (g.C.Narrow.holds it) old new values change some (are_domains old old_ok) (are_domains new new_ok) single sweep
