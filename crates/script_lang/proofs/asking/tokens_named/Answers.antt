use Rattle.model_core.specs.Names.{NamesToken}
use Rattle.script_lang.proofs.Asked.{none_is, some_is, NamesNoToken, both_named}
use Rattle.script_lang.proofs.asking.tokens_named.Goals as goal

pub returns-in-Some : goal.returns-in-Some
returns-in-Some c =
    both_named c.args.model.now c.args.one.now c.args.other.now c.in-Some.first c.token_named-in-Some.result c.paired.result
    (some_is (NamesNoToken c.args.model.now c.args.one.now) (NamesToken c.args.model.now c.args.one.now) c.in_ok-found.found c.in-Some.first c.in-Some.is c.in_ok-found.ensures)
    c.token_named-in-Some.ensures c.paired.ensures

pub returns-in-None : goal.returns-in-None
returns-in-None c = λ first second names named.
    none_is (NamesNoToken c.args.model.now c.args.one.now) (NamesToken c.args.model.now c.args.one.now) c.in_ok-found.found c.in-None.is c.in_ok-found.ensures first names
