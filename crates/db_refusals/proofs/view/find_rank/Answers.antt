use Rattle.std.proofs.lemmas.List.{length-map}
use Rattle.std.proofs.Common.{sym}
use Rattle.eu_name.specs.declared.name.TokenName.{TokenName}
use Rattle.token_store.specs.Tokens.{tokens_now, token_names}
use Rattle.token_store.specs.declared.trail.Token.{Token}
use Rattle.db_refusals.proofs.Seen.{rank_found}
use Rattle.db_refusals.proofs.view.find_rank.Goals as goal

pub returns : goal.returns
returns c =
    rank_found (token_names (tokens_now c.args.tokens.now)) c.args.rank _ c.at_rank.result
    (sym (length-map (tokens_now c.args.tokens.now) (λ (token : TokenName × Token). token.0))) c.at_rank.ensures
