use Rattle.std.proofs.Common.{refl}
use Rattle.db_opening.proofs.Parting.{begins_fact}
use Rattle.db_opening.proofs.tokens.begin_token.Goals as goal

pub returns-in_ok-set_state-clause-begins : goal.returns-in_ok-set_state-clause-begins
returns-in_ok-set_state-clause-begins c =
    begins_fact c.args.model.now c.args.token.now c.args.pred c.in_ok-place.place c.args.store.now c.add_new.new.store c.in_ok-place.ensures.added
    c.set_state.new.self (c.if-is_fact.ensures.0 refl) c.in_ok-set_state.ensures.ok
