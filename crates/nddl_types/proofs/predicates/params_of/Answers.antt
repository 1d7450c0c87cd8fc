use Rattle.nddl_hierarchy.specs.Facts.{facts_of}
use Rattle.nddl_declarations.specs.Members.{parameters_of}
use Rattle.nddl_types.proofs.Splitting.{params_step}
use Rattle.nddl_types.proofs.predicates.params_of.Goals as goal
use Rattle.nddl_declarations.specs.Declares.{variables_of}

pub loop-part-preserved : goal.loop-part-preserved
loop-part-preserved c =
    let facts = facts_of c.args.sources.now.basis in
    let enums = c.args.sources.now.enums.now in
    params_step facts enums c.args.parts.now c.loop-part.part-index c.part-item.result c.loop-part.params
    c.push_param.new.params (variables_of facts enums (parameters_of c.args.parts.now))
    c.loop-part-test.true c.part-item.is c.in_ok-push_param.ensures c.loop-part.invariant
