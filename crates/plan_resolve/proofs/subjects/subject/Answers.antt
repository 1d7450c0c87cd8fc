use Rattle.plan_resolve.proofs.Naming.{subject_says}
use Rattle.plan_resolve.proofs.subjects.subject.Goals as goal

pub returns-in_ok-found-in-Ok : goal.returns-in_ok-found-in-Ok
returns-in_ok-found-in-Ok c =
    subject_says c.args.model.now c.args.word.now c.in-Ok.text c.in_ok-found-in-Ok.found c.names_are_read_back.ensures.one c.in-Ok.ensures c.in_ok-found-in-Ok.ensures
