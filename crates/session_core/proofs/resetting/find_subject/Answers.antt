use Rattle.session_core.proofs.resetting.find_subject.Goals as goal

pub returns-clause-found : goal.returns-clause-found
returns-clause-found c = rw (c.of.ensures, c.model.ensures.model) at c.subject_asked.ensures
