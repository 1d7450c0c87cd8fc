use Rattle.domain_core.specs.Laws.{Passes}
use Rattle.domain_core.proofs.Keeping.{keeps_greatest, keeps_exactly, keeps_one, keeps_monotone}
use Rattle.domain_core.proofs.laws.narrowing_leaves_the_greatest_part.Goals as goal

pub returns-clause-greatest : goal.returns-clause-greatest
returns-clause-greatest c = λ what. keeps_greatest (Passes what)

pub returns-clause-exact : goal.returns-clause-exact
returns-clause-exact c = λ what. keeps_exactly (Passes what)

pub returns-clause-one : goal.returns-clause-one
returns-clause-one c = λ what. keeps_one (Passes what)

pub returns-clause-monotone : goal.returns-clause-monotone
returns-clause-monotone c = λ what more. keeps_monotone (Passes what) (Passes more)
