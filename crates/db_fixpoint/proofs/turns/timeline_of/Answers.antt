use Rattle.std.proofs.Common.{◌≡◌, false, true, subst, to_z, of_z, w32, arith}
use Rattle.std.proofs.lemmas.Int.{ints}
use Rattle.plan_defs.specs.Timelines.{IsTimeline}
use Rattle.token_store.specs.Orders.{name_at}
use Rattle.db_posting.specs.Origins.{content_now}
use Rattle.db_fixpoint.proofs.Sharing.{one_object}
use Rattle.db_fixpoint.proofs.turns.timeline_of.Goals as goal

pub returns-in_default : goal.returns-in_default
returns-in_default c = λ decisions decided timeline on. c.in_default.ensures timeline on.on

pub returns-else-is_timeline : goal.returns-else-is_timeline
returns-else-is_timeline c = λ decisions decided timeline on.
    let token = name_at (content_now c.args.store.now).tokens c.args.place in
    let same : timeline ≡ c.in-Some.object = one_object c.args.store.now c.is_sound.ensures token c.in-Some.object timeline c.in-Some.ensures on.on in
    let cast : timeline ≡ to_z w32 (of_z w32 c.in-Some.object) = omega (arith, ints, same) in
    let p : false ≡ true = c.if-is_timeline.ensures.1 (subst (IsTimeline c.args.model.now) cast on.is_timeline) in
    cc
