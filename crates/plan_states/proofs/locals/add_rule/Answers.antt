-- One local after another.
use Rattle.std.proofs.Common.{◌<◌, arith}
use Rattle.plan_defs.specs.Surveying.{IsLocalLine, IsLocalFlaw}
use Rattle.plan_states.proofs.Counting.{number_below}
use Rattle.plan_states.proofs.Following.{locals_before}
use Rattle.plan_states.proofs.Gathering.{surveys_more, surveys_all}
use Rattle.plan_states.proofs.Placing.{flaw_gives}
use Rattle.plan_states.proofs.locals.add_rule.Goals as goal

pub loop-number-preserved : goal.loop-number-preserved
loop-number-preserved g c = λ token at.
    surveys_more (g.V.View.model c.args.view.now) (g.V.View.decisions c.args.view.now) (g.V.View.state c.args.view.now) (IsLocalLine (g.V.View.model c.args.view.now) (g.V.View.decisions c.args.view.now) (g.V.View.state c.args.view.now) token c.args.rule) (IsLocalFlaw (g.V.View.model c.args.view.now) (g.V.View.decisions c.args.view.now) (g.V.View.state c.args.view.now) token c.args.rule) c.loop-number.number
    c.args.lines.now.items c.loop-number.lines.items c.add_local.new.lines.items (locals_before (g.V.View.model c.args.view.now) (g.V.View.decisions c.args.view.now) (g.V.View.state c.args.view.now) token c.args.rule) (c.loop-number.invariant token at) (c.in_ok-add_local.ensures token at)

pub returns : goal.returns
returns g c = λ token at.
    surveys_all (g.V.View.model c.args.view.now) (g.V.View.decisions c.args.view.now) (g.V.View.state c.args.view.now) (IsLocalLine (g.V.View.model c.args.view.now) (g.V.View.decisions c.args.view.now) (g.V.View.state c.args.view.now) token c.args.rule) (IsLocalFlaw (g.V.View.model c.args.view.now) (g.V.View.decisions c.args.view.now) (g.V.View.state c.args.view.now) token c.args.rule) c.loop-number.number c.args.lines.now.items c.loop-number.lines.items
    (λ number line is.
    let below : number < c.count_locals-number-end.result =
    number_below (g.V.View.model c.args.view.now) c.args.model.now c.requires.model (g.V.View.decisions c.args.view.now) (g.V.View.state c.args.view.now) c.requires.settled c.args.place c.args.pred c.requires.at token at c.args.rule number _ is.1.0 c.count_locals-number-end.ensures is.1.1 in
    omega arith)
    (λ number flaw sought is.
    let gives = flaw_gives (g.V.View.model c.args.view.now) (g.V.View.decisions c.args.view.now) (g.V.View.state c.args.view.now) token c.args.rule number flaw sought is in
    let below : number < c.count_locals-number-end.result =
    number_below (g.V.View.model c.args.view.now) c.args.model.now c.requires.model (g.V.View.decisions c.args.view.now) (g.V.View.state c.args.view.now) c.requires.settled c.args.place c.args.pred c.requires.at token at c.args.rule number _ gives.0 c.count_locals-number-end.ensures gives.1 in
    omega arith)
    (c.loop-number.invariant token at)
