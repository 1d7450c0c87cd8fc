use Rattle.law_search.proofs.Covering as covering
use Rattle.law_search.proofs.Picking.{choice_admissible}
use Rattle.law_search.proofs.searches.choices_cover.Goals as goal

pub returns-clause-admissible : goal.returns-clause-admissible
returns-clause-admissible c = choice_admissible

pub returns-clause-cover : goal.returns-clause-cover
returns-clause-cover c = covering.choices_cover
