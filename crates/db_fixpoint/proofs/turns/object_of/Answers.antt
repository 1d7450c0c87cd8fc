use Rattle.token_store.specs.Orders.{name_at}
use Rattle.db_posting.specs.Origins.{content_now}
use Rattle.db_fixpoint.proofs.Sharing.{object_told}
use Rattle.db_fixpoint.proofs.turns.object_of.Goals as goal

pub returns-in_default : goal.returns-in_default
returns-in_default c = λ object on. c.in_default.ensures on.0 on.1

pub returns : goal.returns
returns c = object_told c.args.store.now c.is_sound.ensures (name_at (content_now c.args.store.now).tokens c.args.place) c.in-Some.domain.now c.single.result
    c.in-Some.ensures c.single.ensures.some c.single.ensures.none
