use Rattle.eu_name.specs.declared.name.TokenName.{TokenName}
use Rattle.model_core.specs.Names.{NamesToken}
use Rattle.script_lang.proofs.Asked.{none_is, NameNoTokens, no_merge}
use Rattle.script_lang.proofs.asking.merge_asked.Goals as goal

pub returns-in-None : goal.returns-in-None
returns-in-None c =
    no_merge c.args.model.now c.args.token.now c.args.target.now
    (none_is (NameNoTokens c.args.model.now c.args.token.now c.args.target.now) (λ (tokens : TokenName × TokenName). NamesToken c.args.model.now c.args.token.now tokens.0 × NamesToken c.args.model.now c.args.target.now tokens.1)
    c.in_ok-found.found c.in-None.is c.in_ok-found.ensures)
