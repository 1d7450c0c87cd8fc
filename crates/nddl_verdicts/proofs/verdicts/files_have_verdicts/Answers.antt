use Rattle.nddl_verdicts.proofs.Meanings as meanings
use Rattle.nddl_verdicts.proofs.Judging as judging
use Rattle.nddl_verdicts.proofs.verdicts.files_have_verdicts.Goals as goal

pub returns-clause-facts : goal.returns-clause-facts
returns-clause-facts c = meanings.programs_have_facts

pub returns-clause-verdicts : goal.returns-clause-verdicts
returns-clause-verdicts c = judging.files_have_verdicts
