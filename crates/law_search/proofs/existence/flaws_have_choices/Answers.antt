use Rattle.law_search.proofs.Choosing as choosing
use Rattle.law_search.proofs.Firsts as firsts
use Rattle.law_search.proofs.existence.flaws_have_choices.Goals as goal

pub returns-clause-first : goal.returns-clause-first
returns-clause-first c = firsts.first_flaw_or_none

pub returns-clause-choices : goal.returns-clause-choices
returns-clause-choices c = choosing.flaws_have_choices
