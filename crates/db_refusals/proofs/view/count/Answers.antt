use Rattle.std.proofs.Common.{length, ◌∙◌, sym, ap}
use Rattle.std.proofs.lemmas.List.{length-map}
use Rattle.eu_name.specs.declared.name.TokenName.{TokenName}
use Rattle.token_store.specs.Tokens.{TokenPast, tokens_now}
use Rattle.token_store.specs.declared.trail.Token.{Token}
use Rattle.db_store.specs.Stores.{snapshot_of, named_content}
use Rattle.db_store.proofs.Naming.{names_are_once}
use Rattle.db_refusals.proofs.Seen.{count_same}
use Rattle.db_refusals.proofs.view.count.Goals as goal

pub returns : goal.returns
returns c =
    c.count.ensures
    ∙ (ap (λ (past : TokenPast). length (tokens_now past)) c.tokens.ensures
    ∙ (sym (length-map (tokens_now c.args.store.now.past) (λ (token : TokenName × Token). token.0))
    ∙ count_same (named_content (snapshot_of c.args.store.now)) (names_are_once (snapshot_of c.args.store.now) c.is_sound.ensures)))
