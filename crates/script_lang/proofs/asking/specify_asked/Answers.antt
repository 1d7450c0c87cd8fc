use Rattle.model_core.specs.Names.{NamesVariable}
use Rattle.script_lang.proofs.Asked.{none_is, some_is, NamesNoVariable, no_specify, specify_found}
use Rattle.script_lang.proofs.asking.specify_asked.Goals as goal

pub specified-requires-clause-there : goal.specified-requires-clause-there
specified-requires-clause-there c =
    c.texts_name_what_there_is.ensures c.args.model.now c.args.variable.now c.in-Some.name
    (some_is (NamesNoVariable c.args.model.now c.args.variable.now) (NamesVariable c.args.model.now c.args.variable.now) c.in_ok-found.found c.in-Some.name c.in-Some.is c.in_ok-found.ensures)

pub returns-in-Some : goal.returns-in-Some
returns-in-Some c =
    specify_found c.args.model.now c.args.variable.now c.args.word.now c.in-Some.name c.specified.result c.requires
    (some_is (NamesNoVariable c.args.model.now c.args.variable.now) (NamesVariable c.args.model.now c.args.variable.now) c.in_ok-found.found c.in-Some.name c.in-Some.is c.in_ok-found.ensures) c.specified.ensures

pub returns-in-None : goal.returns-in-None
returns-in-None c =
    no_specify c.args.model.now c.args.variable.now c.args.word.now
    (none_is (NamesNoVariable c.args.model.now c.args.variable.now) (NamesVariable c.args.model.now c.args.variable.now) c.in_ok-found.found c.in-None.is c.in_ok-found.ensures)
