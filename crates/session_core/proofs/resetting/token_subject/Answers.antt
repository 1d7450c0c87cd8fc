use Rattle.model_core.specs.Names.{NamesToken}
use Rattle.script_lang.proofs.Asked.{none_is, NamesNoToken}
use Rattle.session_core.proofs.Stepping.{no_subject}
use Rattle.session_core.proofs.resetting.token_subject.Goals as goal

pub returns-in-None : goal.returns-in-None
returns-in-None c =
    no_subject c.args.model.now c.args.text.now c.requires.none
    (none_is (NamesNoToken c.args.model.now c.args.text.now) (NamesToken c.args.model.now c.args.text.now) c.in_ok-found.found c.in-None.is c.in_ok-found.ensures)
