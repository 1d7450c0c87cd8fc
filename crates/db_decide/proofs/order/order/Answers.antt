use Rattle.std.proofs.Common.{sym, subst}
use Rattle.std.specs.Prelude.{Contains}
use Rattle.eu_name.specs.declared.name.Part.TheVariants.{Start, End}
use Rattle.token_store.specs.Tokens.{TokenPast, tokens_now, token_names, IsNamedAt}
use Rattle.db_posting.proofs.Naming.{token_there}
use Rattle.db_decide.proofs.Placing.{part_at}
use Rattle.db_decide.proofs.Ordering.{ordered}
use Rattle.db_decide.proofs.order.order.Goals as goal

pub place_of-requires : goal.place_of-requires
place_of-requires c =
    subst (λ (past : TokenPast). Contains (token_names (tokens_now past)) c.args.first.now) (sym c.tokens.ensures)
    (token_there c.args.store.now c.is_sound.ensures c.args.first.now End c.requires.first.1)

pub place_of-requires-2 : goal.place_of-requires-2
place_of-requires-2 c =
    subst (λ (past : TokenPast). Contains (token_names (tokens_now past)) c.args.second.now) (sym c.tokens-2.ensures)
    (token_there c.args.store.now c.is_sound.ensures c.args.second.now Start c.requires.second.0)

pub post_at_most-requires-clause-one : goal.post_at_most-requires-clause-one
post_at_most-requires-clause-one c =
    part_at c.args.store.now c.place_of.result c.args.first.now
    (subst (λ (past : TokenPast). IsNamedAt (tokens_now past) c.place_of.result c.args.first.now) c.tokens.ensures c.place_of.ensures) End c.requires.first.1

pub post_at_most-requires-clause-other : goal.post_at_most-requires-clause-other
post_at_most-requires-clause-other c =
    part_at c.args.store.now c.place_of-2.result c.args.second.now
    (subst (λ (past : TokenPast). IsNamedAt (tokens_now past) c.place_of-2.result c.args.second.now) c.tokens-2.ensures c.place_of-2.ensures) Start c.requires.second.0

pub returns-clause-takes : goal.returns-clause-takes
returns-clause-takes c = λ model decisions due may after.
    ordered model decisions c.args.first.now c.args.second.now c.args.store.now c.place_of.result c.place_of-2.result
    (subst (λ (past : TokenPast). IsNamedAt (tokens_now past) c.place_of.result c.args.first.now) c.tokens.ensures c.place_of.ensures)
    (subst (λ (past : TokenPast). IsNamedAt (tokens_now past) c.place_of-2.result c.args.second.now) c.tokens-2.ensures c.place_of-2.ensures)
    may due c.post_at_most.new.store c.in_ok-post_at_most.ensures.only c.in_ok-post_at_most.ensures.posted
