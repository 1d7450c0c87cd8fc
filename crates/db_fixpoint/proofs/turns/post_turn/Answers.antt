use Rattle.std.proofs.Common.{refl}
use Rattle.token_store.specs.Orders.{name_at}
use Rattle.db_posting.specs.Origins.{content_now}
use Rattle.db_fixpoint.proofs.Sharing.{turn_known, turn_posted}
use Rattle.db_fixpoint.proofs.turns.post_turn.Goals as goal

pub returns-clause-turn : goal.returns-clause-turn
returns-clause-turn c =
    let content = content_now c.args.store.now in
    turn_posted content (name_at content.tokens c.args.one) (name_at content.tokens c.args.other) c.args.store.now c.post_at_most.new.store c.post_at_most.result
    c.if-not-ends_too_late.ensures c.post_at_most.ensures.posted

pub returns-then-is_known_at_most-clause-turn : goal.returns-then-is_known_at_most-clause-turn
returns-then-is_known_at_most-clause-turn c =
    let content = content_now c.args.store.now in
    turn_known content (name_at content.tokens c.args.one) (name_at content.tokens c.args.other) c.args.store.now (c.if-is_known_at_most.ensures refl)
