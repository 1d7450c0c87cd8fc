use Rattle.std.proofs.Common.{sym, subst}
use Rattle.std.specs.Prelude.{Contains}
use Rattle.eu_name.specs.declared.name.Part.TheVariants.{Start}
use Rattle.token_store.specs.Tokens.{TokenPast, tokens_now, token_names, IsNamedAt}
use Rattle.db_posting.proofs.Naming.{token_there}
use Rattle.db_decide.proofs.Placing.{times_at}
use Rattle.db_decide.proofs.Posting.{related}
use Rattle.db_decide.proofs.relate.relate.Goals as goal

pub place_of-one-requires : goal.place_of-one-requires
place_of-one-requires c =
    subst (λ (past : TokenPast). Contains (token_names (tokens_now past)) c.args.first.now) (sym c.tokens.ensures)
    (token_there c.args.store.now c.is_sound.ensures c.args.first.now Start c.requires.first.0)

pub place_of-other-requires : goal.place_of-other-requires
place_of-other-requires c =
    subst (λ (past : TokenPast). Contains (token_names (tokens_now past)) c.args.second.now) (sym c.tokens-2.ensures)
    (token_there c.args.store.now c.is_sound.ensures c.args.second.now Start c.requires.second.0)

pub post_relation_between-requires-clause-one : goal.post_relation_between-requires-clause-one
post_relation_between-requires-clause-one c =
    times_at c.args.store.now c.place_of-one.result c.args.first.now
    (subst (λ (past : TokenPast). IsNamedAt (tokens_now past) c.place_of-one.result c.args.first.now) c.tokens.ensures c.place_of-one.ensures) c.requires.first

pub post_relation_between-requires-clause-other : goal.post_relation_between-requires-clause-other
post_relation_between-requires-clause-other c =
    times_at c.args.store.now c.place_of-other.result c.args.second.now
    (subst (λ (past : TokenPast). IsNamedAt (tokens_now past) c.place_of-other.result c.args.second.now) c.tokens-2.ensures c.place_of-other.ensures) c.requires.second

pub returns-clause-takes : goal.returns-clause-takes
returns-clause-takes c = λ model decisions due may after.
    related c.args.relation c.args.first.now c.args.second.now model decisions c.args.store.now c.post_relation_between.new.store c.place_of-one.result c.place_of-other.result
    (subst (λ (past : TokenPast). IsNamedAt (tokens_now past) c.place_of-one.result c.args.first.now) c.tokens.ensures c.place_of-one.ensures)
    (subst (λ (past : TokenPast). IsNamedAt (tokens_now past) c.place_of-other.result c.args.second.now) c.tokens-2.ensures c.place_of-other.ensures)
    due may c.in_ok-post_relation_between.ensures.only c.in_ok-post_relation_between.ensures.posted
