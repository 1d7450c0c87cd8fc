use Rattle.model_core.specs.Names.{NamesVariable}
use Rattle.script_lang.proofs.Asked.{none_is, NamesNoVariable}
use Rattle.session_core.proofs.resetting.subject_named.Goals as goal

pub token_subject-requires-clause-none : goal.token_subject-requires-clause-none
token_subject-requires-clause-none c =
    none_is (NamesNoVariable c.args.model.now c.args.text.now) (NamesVariable c.args.model.now c.args.text.now) c.in_ok-found.found c.in-None.is c.in_ok-found.ensures
