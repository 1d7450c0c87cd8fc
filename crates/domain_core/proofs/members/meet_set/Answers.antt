use Rattle.domain_core.proofs.Fronts.{sieves_keeps, front_sieves, front_members}
use Rattle.domain_core.proofs.members.meet_set.Goals as goal

pub returns-clause-kept : goal.returns-clause-kept
returns-clause-kept c = sieves_keeps _ _ _ _ _ _ (λ value has. has) (λ value none. none) (front_sieves _ _ _ _ _ c.keep_common-kept.ensures _ _ c.cut.ensures)

pub returns-clause-domain : goal.returns-clause-domain
returns-clause-domain c = front_members _ _ _ _ _ c.keep_common-kept.ensures c.requires.are _ _ c.cut.ensures
