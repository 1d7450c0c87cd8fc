use Rattle.law_search.proofs.Once.{visits_once}
use Rattle.law_search.proofs.searches.searches_have_one_outcome.Goals as goal

pub returns : goal.returns
returns c = λ model bound units decisions one other lawful few settled p q. visits_once model lawful bound few units units decisions one other settled p q
