use Rattle.eu_name.specs.declared.name.TokenName.{TokenName}
use Rattle.model_core.specs.Names.{NamesToken}
use Rattle.script_lang.proofs.Asked.{none_is, NameNoTokens}
use Rattle.session_core.proofs.Stepping.{no_relation}
use Rattle.session_core.proofs.resetting.relation_named.Goals as goal

pub returns-in-None : goal.returns-in-None
returns-in-None c =
    no_relation c.args.model.now c.args.one.now c.args.relation c.args.other.now
    (none_is (NameNoTokens c.args.model.now c.args.one.now c.args.other.now) (λ (tokens : TokenName × TokenName). NamesToken c.args.model.now c.args.one.now tokens.0 × NamesToken c.args.model.now c.args.other.now tokens.1)
    c.in_ok-found.found c.in-None.is c.in_ok-found.ensures)
