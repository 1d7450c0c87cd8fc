-- One token after another.
use Rattle.std.proofs.Common.{◌<◌, length, arith}
use Rattle.eu_name.proofs.Members.{get_within, get_below}
use Rattle.plan_defs.specs.Surveying.{IsLineOfPlace, IsFlawOfPlace}
use Rattle.plan_states.proofs.Following.{tokens_before}
use Rattle.plan_states.proofs.Gathering.{surveys_more, surveys_all}
use Rattle.plan_states.proofs.Placing.{place_surveyed}
use Rattle.plan_states.proofs.making.add_tokens.Goals as goal

pub add_token-requires-clause-at : goal.add_token-requires-clause-at
add_token-requires-clause-at g c = get_within (g.V.View.state c.args.view.now).tokens c.loop-place.place (omega (arith, c.count-place-end.ensures))

pub loop-place-preserved : goal.loop-place-preserved
loop-place-preserved g c =
    let within : c.loop-place.place < length (g.V.View.state c.args.view.now).tokens = omega (arith, c.count-place-end.ensures) in
    surveys_more (g.V.View.model c.args.view.now) (g.V.View.decisions c.args.view.now) (g.V.View.state c.args.view.now) (IsLineOfPlace (g.V.View.model c.args.view.now) (g.V.View.decisions c.args.view.now) (g.V.View.state c.args.view.now)) (IsFlawOfPlace (g.V.View.state c.args.view.now)) c.loop-place.place c.args.lines.now.items c.loop-place.lines.items c.add_token.new.lines.items
    (tokens_before (g.V.View.model c.args.view.now) (g.V.View.decisions c.args.view.now) (g.V.View.state c.args.view.now) c.requires.settled.consistent.is_state.order) c.loop-place.invariant
    (place_surveyed (g.V.View.model c.args.view.now) (g.V.View.decisions c.args.view.now) (g.V.View.state c.args.view.now) c.requires.settled c.loop-place.place c.loop-place.lines.items c.add_token.new.lines.items within c.in_ok-add_token.ensures)

pub returns : goal.returns
returns g c =
    surveys_all (g.V.View.model c.args.view.now) (g.V.View.decisions c.args.view.now) (g.V.View.state c.args.view.now) (IsLineOfPlace (g.V.View.model c.args.view.now) (g.V.View.decisions c.args.view.now) (g.V.View.state c.args.view.now)) (IsFlawOfPlace (g.V.View.state c.args.view.now)) c.loop-place.place c.args.lines.now.items c.loop-place.lines.items
    (λ place line is. omega (arith, get_below (g.V.View.state c.args.view.now).tokens place is.0 is.1, c.count-place-end.ensures))
    (λ place flaw sought is. omega (arith, get_below (g.V.View.state c.args.view.now).tokens place sought.0 sought.1, c.count-place-end.ensures)) c.loop-place.invariant
