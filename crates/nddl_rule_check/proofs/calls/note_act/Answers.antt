use Rattle.nddl_hierarchy.specs.Facts.{facts_of}
use Rattle.nddl_resolve.specs.Paths.{around_of}
use Rattle.nddl_rule_check.proofs.ArgumentSteps.{acted}
use Rattle.nddl_rule_check.proofs.calls.note_act.Goals as goal

pub returns : goal.returns
returns c =
    acted (facts_of c.args.spot.now.basis) (around_of c.args.around.now) c.args.spot.now.decl c.args.act.now c.in_ok-front.front
    (record { first = c.args.name.now; rest = c.args.names.now }) c.in_ok-found.found c.args.first.now c.note_no_act.new.first
    c.note_no_act.ensures c.in_ok-found.ensures c.in_ok-front.ensures
