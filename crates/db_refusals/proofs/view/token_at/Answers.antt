use Rattle.std.proofs.Common.{◌≡◌, Some, None, subst}
use Rattle.std.specs.Prelude.{slice_get, option_copied}
use Rattle.token_store.specs.Tokens.{TokenPast, tokens_now, token_names}
use Rattle.db_store.specs.Stores.{snapshot_of}
use Rattle.db_refusals.specs.Seeing.{FindsRank}
use Rattle.db_refusals.proofs.Seen.{name_told, none_told}
use Rattle.db_refusals.proofs.view.token_at.Goals as goal

pub returns-in-Some : goal.returns-in-Some
returns-in-Some c =
    name_told (snapshot_of c.args.store.now) c.is_sound.ensures c.args.rank c.in-Some.place (option_copied c.name.result)
    (subst (λ (past : TokenPast). FindsRank (token_names (tokens_now past)) c.args.rank (Some c.in-Some.place)) c.tokens-tokens.ensures c.in-Some.ensures)
    (subst (λ (past : TokenPast). option_copied c.name.result ≡ slice_get (token_names (tokens_now past)) c.in-Some.place) c.tokens-tokens.ensures c.name.ensures)

pub returns-in-None : goal.returns-in-None
returns-in-None c =
    none_told (snapshot_of c.args.store.now) c.is_sound.ensures c.args.rank
    (subst (λ (past : TokenPast). FindsRank (token_names (tokens_now past)) c.args.rank None) c.tokens-tokens.ensures c.in-None.ensures)
