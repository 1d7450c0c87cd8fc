use Rattle.std.proofs.Common.{subst}
use Rattle.token_store.specs.Tokens.{TokenPast, tokens_now, IsNamedAt}
use Rattle.db_edges.proofs.Joining.{seen_somewhere}
use Rattle.db_edges.proofs.whole.token_holds.Goals as goal

pub edges_of_token-requires-clause-named : goal.edges_of_token-requires-clause-named
edges_of_token-requires-clause-named c =
    subst (λ (past : TokenPast). IsNamedAt (tokens_now past) c.in-Some.place c.args.token.now) c.tokens.ensures c.in-Some.ensures.0

pub unreachable-requires : goal.unreachable-requires
unreachable-requires c =
    let there = seen_somewhere c.args.store.now c.args.token.now c.tokens.result.now c.is_sound.ensures c.tokens.ensures c.requires.there in
    c.in-None.ensures there.0 there.1
