use Rattle.std.proofs.Common.{subst}
use Rattle.token_store.specs.Tokens.{TokenPast, tokens_now, IsNamedAt}
use Rattle.db_decide.proofs.Rejecting.{rejected}
use Rattle.db_decide.proofs.reject.reject.Goals as goal

pub returns-clause-takes : goal.returns-clause-takes
returns-clause-takes c = λ model decisions due may after.
    rejected model decisions c.args.token.now c.args.store.now c.is_sound.ensures c.place_of-place.result
    (subst (λ (past : TokenPast). IsNamedAt (tokens_now past) c.place_of-place.result c.args.token.now) c.tokens.ensures c.place_of-place.ensures)
    may due c.set_state.new.self c.in_ok-set_state.ensures.ok
