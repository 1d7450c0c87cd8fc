use Rattle.session_core.proofs.Stepping.{found_reset, none_reset}
use Rattle.session_core.proofs.resetting.reset_found.Goals as goal

pub returns-in-Some : goal.returns-in-Some
returns-in-Some c = λ command finds.
    found_reset c.args.db.now.database c.reset_subject.new.db.database c.requires command c.args.found c.in-Some.subject c.reset_subject.result c.in-Some.is finds c.reset_subject.ensures

pub returns-in-None : goal.returns-in-None
returns-in-None c = λ command finds. none_reset c.args.db.now.database command c.args.found c.in-None.is finds
