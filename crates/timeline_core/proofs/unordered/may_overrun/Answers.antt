-- Where the state lacks an end there is none to be later; else the two decide.
use Rattle.timeline_core.proofs.Telling.{overrun_told}
use Rattle.timeline_core.proofs.unordered.may_overrun.Goals as goal

pub returns-in_default : goal.returns-in_default
returns-in_default g c = λ first second at at' over. c.in_default.ensures first over.end at over.gives_end

pub returns-in_default-domain_at : goal.returns-in_default-domain_at
returns-in_default-domain_at g c = λ first second at at' over. c.in_default-domain_at.ensures second over.start at' over.gives_start

pub returns : goal.returns
returns g c =
    overrun_told (g.V.View.state c.args.view.now) c.requires c.args.one c.args.other c.in-Some.end.now c.in-Some-domain_at.start.now c.is_below.result
    c.in-Some.ensures c.in-Some-domain_at.ensures c.is_below.ensures
