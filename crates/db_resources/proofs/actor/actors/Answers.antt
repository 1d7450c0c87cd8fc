-- What is found goes on by what the next token has.
use Rattle.std.proofs.Common.{◌<◌, length, arith}
use Rattle.db_resources.specs.Actors.{IsActorOf}
use Rattle.db_resources.proofs.Acting.{no_token, token_told}
use Rattle.db_resources.proofs.Picking.{picks_more, picks_all}
use Rattle.db_resources.proofs.actor.actors.Goals as goal

pub loop-place-preserved : goal.loop-place-preserved
loop-place-preserved g c =
    let state = g.V.View.state c.args.view.now in
    let has = IsActorOf (g.V.View.model c.args.view.now) (g.V.View.decisions c.args.view.now) state in
    let within : c.loop-place.place < length state.tokens = omega (arith, c.count-count.ensures) in
    picks_more has state.tokens c.loop-place.place no_token c.loop-place.found.items c.push_found.new.list.items c.actor_at.result within c.loop-place.invariant
    (token_told has state c.loop-place.place c.actor_at.result within c.actor_at.ensures) c.in_ok-push_found.ensures

pub returns : goal.returns
returns g c =
    let state = g.V.View.state c.args.view.now in
    picks_all (IsActorOf (g.V.View.model c.args.view.now) (g.V.View.decisions c.args.view.now) state) state.tokens c.loop-place.place c.loop-place.found.items
    (omega (arith, c.count-count.ensures)) c.loop-place.invariant
