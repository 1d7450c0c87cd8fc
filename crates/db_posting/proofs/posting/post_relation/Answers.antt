use Rattle.std.proofs.Common.{sym, subst}
use Rattle.std.specs.Prelude.{Contains, OnOk}
use Rattle.eu_name.specs.declared.name.Part.TheVariants.{Start}
use Rattle.model_core.specs.Tokens.{slot_token}
use Rattle.token_store.specs.Orders.{name_at}
use Rattle.token_store.specs.Tokens.{TokenPast, tokens_now, token_names, IsNamedAt}
use Rattle.plan_defs.specs.Claims.{relates}
use Rattle.db_posting.specs.Origins.{content_now}
use Rattle.db_posting.specs.Posted.{PostsClaims}
use Rattle.db_posting.specs.Terms.{HasTimes}
use Rattle.db_posting.proofs.Naming.{token_there, name_is, place_below}
use Rattle.db_posting.proofs.posting.post_relation.Goals as goal

pub slot_place-requires-clause-there : goal.slot_place-requires-clause-there
slot_place-requires-clause-there c =
    let store = c.args.store.now in
    subst (λ (past : TokenPast). let names = token_names (tokens_now past) in Contains names (slot_token (name_at names c.args.token) c.args.rule c.args.slot)) (sym c.tokens.ensures)
    (token_there store c.is_sound.ensures (slot_token (name_at (content_now store).tokens c.args.token) c.args.rule c.args.slot) Start c.requires.slot.0)

pub post_relation_between-requires-clause-other : goal.post_relation_between-requires-clause-other
post_relation_between-requires-clause-other c =
    let store = c.args.store.now in
    let place = c.in_ok-other.other in
    let token = slot_token (name_at (content_now store).tokens c.args.token) c.args.rule c.args.slot in
    let named = subst (λ (past : TokenPast). IsNamedAt (tokens_now past) place (slot_token (name_at (token_names (tokens_now past)) c.args.token) c.args.rule c.args.slot)) c.tokens.ensures c.in_ok-other.ensures in
    (place_below store place token named, subst (HasTimes (content_now store)) (sym (name_is store place token named)) c.requires.slot)

pub returns-clause-posted : goal.returns-clause-posted
returns-clause-posted c =
    let store = c.args.store.now in
    let content = content_now store in
    let place = c.in_ok-other.other in
    let own = name_at content.tokens c.args.token in
    let token = slot_token own c.args.rule c.args.slot in
    let named = subst (λ (past : TokenPast). IsNamedAt (tokens_now past) place (slot_token (name_at (token_names (tokens_now past)) c.args.token) c.args.rule c.args.slot)) c.tokens.ensures c.in_ok-other.ensures in
    subst (λ one. OnOk c.post_relation_between.result (PostsClaims content.names (Contains (relates c.args.rel own one)) store.net.constraints c.post_relation_between.new.store.net.constraints))
    (name_is store place token named) c.post_relation_between.ensures.posted
