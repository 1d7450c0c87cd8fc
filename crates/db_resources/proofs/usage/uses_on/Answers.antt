-- What is found goes on by what the next actor has.
use Rattle.std.proofs.Common.{◌≡◌, w32, to_z, of_z, subst, arith}
use Rattle.std.proofs.lemmas.Int.{ints}
use Rattle.db_resources.specs.Effects.{IsUseOn}
use Rattle.db_resources.specs.Picks.{Picks}
use Rattle.db_resources.proofs.Acting.{no_actor}
use Rattle.db_resources.proofs.Picking.{picks_more, picks_all}
use Rattle.db_resources.proofs.usage.uses_on.Goals as goal

pub loop-actor-preserved : goal.loop-actor-preserved
loop-actor-preserved g c =
    let state = g.V.View.state c.args.view.now in
    picks_more (IsUseOn state (to_z w32 (of_z w32 c.args.object))) c.args.actors.now c.loop-actor.actor-index no_actor
    c.loop-actor.found.items c.push_found.new.list.items c.use_on.result c.loop-actor-test.true c.loop-actor.invariant c.use_on.ensures c.in_ok-push_found.ensures

pub returns : goal.returns
returns g c =
    let object : to_z w32 (of_z w32 c.args.object) ≡ c.args.object = omega (arith, ints) in
    let state = g.V.View.state c.args.view.now in
    subst (λ o. Picks (IsUseOn state o) c.args.actors.now c.loop-actor.found.items) object
    (picks_all (IsUseOn state (to_z w32 (of_z w32 c.args.object))) c.args.actors.now c.loop-actor.actor-index c.loop-actor.found.items c.loop-actor-test.false c.loop-actor.invariant)
