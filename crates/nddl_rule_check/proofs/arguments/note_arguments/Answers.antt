use Rattle.std.specs.Prelude.{None}
use Rattle.nddl_symbols.specs.Finding.{earliest_fault}
use Rattle.nddl_hierarchy.specs.Facts.{facts_of}
use Rattle.nddl_resolve.specs.Paths.{around_of}
use Rattle.nddl_rule_check.specs.Arguments.{arguments_faults}
use Rattle.nddl_rule_check.specs.Constraints.{asked_among}
use Rattle.nddl_rule_check.proofs.ArgumentSteps.{arguments_step}
use Rattle.nddl_rule_check.proofs.arguments.note_arguments.Goals as goal

pub loop-place-preserved : goal.loop-place-preserved
loop-place-preserved c =
    let facts = facts_of c.args.spot.now.basis in
    let decl = c.args.spot.now.decl in
    let asking = asked_among c.in_ok-decimal.decimal c.args.kind in
    arguments_step facts (around_of c.args.around.now) decl asking c.args.exprs.now c.loop-place.place
    c.index-exprs-place.result c.asked_among-asks.result c.in_ok-meant.meant c.loop-place.compared c.compared_with-compared.result c.loop-place.first
    c.note_argument.new.first
    (earliest_fault c.args.first.now
    (arguments_faults facts (around_of c.args.around.now) decl asking 0 None c.args.exprs.now))
    c.loop-place-test.true c.index-exprs-place.is c.asked_among-asks.ensures c.in_ok-meant.ensures.meant c.compared_with-compared.ensures
    c.in_ok-meant.ensures.faults c.loop-place.invariant
