use Rattle.std.proofs.Common.{w32, to_z, of_z}
use Rattle.std.proofs.lemmas.Result.{err_from_is_err_and}
use Rattle.model_core.specs.Naming.{names_of}
use Rattle.plan_core.proofs.Lining.{parameter_kept}
use Rattle.plan_core.proofs.Stepping.{parameter_stops, parameter_memory, one_parameter_more, parameters_done}
use Rattle.plan_core.proofs.readers.parameters.Goals as goal

pub returns-in_err-value : goal.returns-in_err-value
returns-in_err-value c =
    let p = err_from_is_err_and c.from_residual.result c.from_residual.ensures.1 in
    rw (p.1, p.2) (parameter_stops c.args.model.now (names_of c.args.params.now) c.args.params.now c.loop-variable.variable-index c.variable-item.result _ c.args.cursor.now.rest.now c.loop-variable.cursor.rest.now _
    c.args.values.now.items c.loop-variable.values.items c.loop-variable-test.true c.variable-item.is c.in_err-value.ensures c.loop-variable.invariant)

pub returns-in_err-push_value : goal.returns-in_err-push_value
returns-in_err-push_value c =
    let p = err_from_is_err_and c.from_residual-in_err-push_value.result c.from_residual-in_err-push_value.ensures.1 in
    rw p.1 (parameter_memory c.args.model.now (names_of c.args.params.now) c.args.params.now c.loop-variable.variable-index c.variable-item.result _ c.args.cursor.now.rest.now c.loop-variable.cursor.rest.now _
    c.args.values.now.items c.loop-variable.values.items c.loop-variable-test.true c.variable-item.is p.2 c.loop-variable.invariant)

pub loop-variable-preserved : goal.loop-variable-preserved
loop-variable-preserved c =
    one_parameter_more c.args.model.now (names_of c.args.params.now) c.args.params.now c.loop-variable.variable-index c.variable-item.result c.in_ok-value.value (to_z w32 (of_z w32 c.in_ok-value.value)) c.args.cursor.now.rest.now c.loop-variable.cursor.rest.now
    c.one_parameter.new.cursor.rest.now c.args.values.now.items c.loop-variable.values.items c.push_value.new.values.items
    (parameter_kept c.args.model.now (names_of c.args.params.now) c.variable-item.result c.loop-variable.cursor.rest.now c.one_parameter.new.cursor.rest.now c.in_ok-value.value c.requires c.in_ok-value.ensures)
    c.loop-variable-test.true c.variable-item.is c.in_ok-value.ensures c.in_ok-push_value.ensures c.loop-variable.invariant

pub returns : goal.returns
returns c =
    parameters_done c.args.model.now (names_of c.args.params.now) c.args.params.now c.loop-variable.variable-index c.args.cursor.now.rest.now c.loop-variable.cursor.rest.now c.args.values.now.items c.loop-variable.values.items
    c.loop-variable-test.false c.loop-variable.invariant
