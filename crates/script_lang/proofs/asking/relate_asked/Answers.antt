use Rattle.eu_name.specs.declared.name.TokenName.{TokenName}
use Rattle.model_core.specs.Names.{NamesToken}
use Rattle.script_lang.proofs.Asked.{none_is, NameNoTokens, no_relate}
use Rattle.script_lang.proofs.asking.relate_asked.Goals as goal

pub returns-in-None : goal.returns-in-None
returns-in-None c =
    no_relate c.args.model.now c.args.relation c.args.first.now c.args.second.now
    (none_is (NameNoTokens c.args.model.now c.args.first.now c.args.second.now) (λ (tokens : TokenName × TokenName). NamesToken c.args.model.now c.args.first.now tokens.0 × NamesToken c.args.model.now c.args.second.now tokens.1)
    c.in_ok-found.found c.in-None.is c.in_ok-found.ensures)
