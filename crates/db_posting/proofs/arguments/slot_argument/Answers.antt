use Rattle.std.proofs.Common.{subst, sym}
use Rattle.std.specs.Prelude.{Contains}
use Rattle.model_core.specs.Tokens.{slot_token}
use Rattle.token_store.specs.Orders.{name_at}
use Rattle.token_store.specs.Tokens.{TokenPast, tokens_now, token_names, IsNamedAt}
use Rattle.plan_defs.specs.Claims.{part_of}
use Rattle.db_refine.specs.Claims.{IsNamedArgument}
use Rattle.db_posting.specs.Origins.{content_now}
use Rattle.db_posting.proofs.Naming.{token_there, has_part_at, name_is}
use Rattle.db_posting.proofs.arguments.slot_argument.Goals as goal

pub slot_place-requires-clause-there : goal.slot_place-requires-clause-there
slot_place-requires-clause-there c =
    let store = c.args.store.now in
    subst (λ (past : TokenPast). let names = token_names (tokens_now past) in Contains names (slot_token (name_at names c.args.token) c.args.rule c.args.slot)) (sym c.tokens.ensures)
    (token_there store c.is_sound.ensures (slot_token (name_at (content_now store).tokens c.args.token) c.args.rule c.args.slot) c.args.part c.requires.there)

pub part_argument-requires : goal.part_argument-requires
part_argument-requires c =
    let store = c.args.store.now in
    let place = c.in_ok-token.token in
    let named = subst (λ (past : TokenPast). IsNamedAt (tokens_now past) place (slot_token (name_at (token_names (tokens_now past)) c.args.token) c.args.rule c.args.slot)) c.tokens.ensures c.in_ok-token.ensures in
    has_part_at store place (slot_token (name_at (content_now store).tokens c.args.token) c.args.rule c.args.slot) c.args.part named c.requires.there

pub returns : goal.returns
returns c =
    let store = c.args.store.now in
    let place = c.in_ok-token.token in
    let named = subst (λ (past : TokenPast). IsNamedAt (tokens_now past) place (slot_token (name_at (token_names (tokens_now past)) c.args.token) c.args.rule c.args.slot)) c.tokens.ensures c.in_ok-token.ensures in
    subst (λ one. IsNamedArgument (content_now store).names (part_of one c.args.part) c.part_argument.result)
    (name_is store place (slot_token (name_at (content_now store).tokens c.args.token) c.args.rule c.args.slot) named) c.part_argument.ensures
