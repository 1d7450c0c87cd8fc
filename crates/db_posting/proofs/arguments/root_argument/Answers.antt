use Rattle.std.proofs.Common.{subst, sym}
use Rattle.std.specs.Prelude.{Contains}
use Rattle.model_core.specs.Tokens.{root_token}
use Rattle.token_store.specs.Tokens.{TokenPast, tokens_now, token_names, IsNamedAt}
use Rattle.plan_defs.specs.Claims.{part_of}
use Rattle.db_refine.specs.Claims.{IsNamedArgument}
use Rattle.db_posting.specs.Origins.{content_now}
use Rattle.db_posting.proofs.Naming.{token_there, has_part_at, name_is}
use Rattle.db_posting.proofs.arguments.root_argument.Goals as goal

pub root_place-token-requires : goal.root_place-token-requires
root_place-token-requires c =
    let token = root_token c.args.number in
    subst (λ (past : TokenPast). Contains (token_names (tokens_now past)) token) (sym c.tokens.ensures)
    (token_there c.args.store.now c.is_sound.ensures token c.args.part c.requires)

pub part_argument-requires : goal.part_argument-requires
part_argument-requires c =
    let token = root_token c.args.number in
    let place = c.root_place-token.result in
    let named = subst (λ (past : TokenPast). IsNamedAt (tokens_now past) place token) c.tokens.ensures c.root_place-token.ensures in
    has_part_at c.args.store.now place token c.args.part named c.requires

pub returns : goal.returns
returns c =
    let token = root_token c.args.number in
    let place = c.root_place-token.result in
    let named = subst (λ (past : TokenPast). IsNamedAt (tokens_now past) place token) c.tokens.ensures c.root_place-token.ensures in
    subst (λ one. IsNamedArgument (content_now c.args.store.now).names (part_of one c.args.part) c.part_argument.result)
    (name_is c.args.store.now place token named) c.part_argument.ensures
