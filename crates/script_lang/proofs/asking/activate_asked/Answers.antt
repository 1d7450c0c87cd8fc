use Rattle.model_core.specs.Names.{NamesToken}
use Rattle.script_lang.proofs.Asked.{none_is, NamesNoToken, no_activate}
use Rattle.script_lang.proofs.asking.activate_asked.Goals as goal

pub returns-in-None : goal.returns-in-None
returns-in-None c =
    no_activate c.args.model.now c.args.token.now
    (none_is (NamesNoToken c.args.model.now c.args.token.now) (NamesToken c.args.model.now c.args.token.now) c.in_ok-found.found c.in-None.is c.in_ok-found.ensures)
