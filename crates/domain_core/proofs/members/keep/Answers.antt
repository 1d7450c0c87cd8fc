use Rattle.domain_core.proofs.Fronts.{front_sieves, front_members}
use Rattle.domain_core.proofs.members.keep.Goals as goal

pub returns-clause-sieved : goal.returns-clause-sieved
returns-clause-sieved g c = front_sieves _ _ _ _ _ c.keep_passing-kept.ensures _ _ c.cut.ensures

pub returns-clause-domain : goal.returns-clause-domain
returns-clause-domain g c = front_members _ _ _ _ _ c.keep_passing-kept.ensures c.requires.are _ _ c.cut.ensures
