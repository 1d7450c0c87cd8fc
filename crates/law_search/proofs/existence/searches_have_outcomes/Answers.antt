use Rattle.law_search.proofs.Outcoming as outcoming
use Rattle.law_search.proofs.existence.searches_have_outcomes.Goals as goal

pub returns : goal.returns
returns c = outcoming.searches_have_outcomes
