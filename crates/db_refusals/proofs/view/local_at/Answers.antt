use Rattle.std.proofs.Common.{Some, None, refl, subst}
use Rattle.eu_name.specs.declared.name.VarName.TheVariants.{Local}
use Rattle.token_store.specs.Tokens.{TokenPast, tokens_now, token_names}
use Rattle.db_store.specs.declared.key.VarKey.TheVariants as keys
use Rattle.db_store.specs.Stores.{snapshot_of}
use Rattle.db_refusals.specs.Seeing.{FindsRank}
use Rattle.db_refusals.proofs.Seen.{at_told, at_nowhere}
use Rattle.db_refusals.proofs.view.local_at.Goals as goal

pub returns-in-Some : goal.returns-in-Some
returns-in-Some c =
    let finds : FindsRank (token_names (tokens_now c.args.store.now.past)) c.args.rank (Some c.in-Some.token) =
    subst (λ (past : TokenPast). FindsRank (token_names (tokens_now past)) c.args.rank (Some c.in-Some.token)) c.tokens.ensures c.in-Some.ensures in
    at_told (snapshot_of c.args.store.now) c.is_sound.ensures (λ token. Local token c.args.rule c.args.number) (keys.Local c.in-Some.token c.args.rule c.args.number) c.args.rank c.in-Some.token
    finds refl finds.0 _ c.domain_of.ensures

pub returns-in-None : goal.returns-in-None
returns-in-None c =
    at_nowhere (snapshot_of c.args.store.now) c.is_sound.ensures (λ token. Local token c.args.rule c.args.number) c.args.rank
    (subst (λ (past : TokenPast). FindsRank (token_names (tokens_now past)) c.args.rank None) c.tokens.ensures c.in-None.ensures)
