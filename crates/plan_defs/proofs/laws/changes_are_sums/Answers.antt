use Rattle.plan_defs.proofs.Sharing.{changes_are_sums}
use Rattle.plan_defs.proofs.laws.changes_are_sums.Goals as goal

pub returns : goal.returns
returns c = λ model decisions state object instant initial low high rises falls ok lists. changes_are_sums model decisions state object instant ok rises falls lists initial low high
