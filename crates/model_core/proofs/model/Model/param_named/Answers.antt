use Rattle.std.proofs.Common.{arith}
use Rattle.model_core.proofs.Lookups.{parameter_named, no_parameter_named, few_parameters, parameter_small}
use Rattle.model_core.proofs.model.Model.param_named.Goals as goal

pub first_named-requires : goal.first_named-requires
first_named-requires c =
    let few = few_parameters c.args.self.now c.args.pred c.in_ok-pred.pred.now c.as_slice-2.result.now c.requires (rw c.as_slice.ensures at c.in_ok-pred.ensures) c.as_slice-2.ensures in
    omega (arith, few)

pub returns-in_err-number : goal.returns-in_err-number
returns-in_err-number c =
    rw c.from_residual-in_err-number.ensures (no_parameter_named c.args.self.now c.args.pred c.in_ok-pred.pred.now c.as_slice-2.result.now c.args.word.now
    (rw c.as_slice.ensures at c.in_ok-pred.ensures) c.as_slice-2.ensures c.in_err-number.ensures)

pub overflow_cast-result : goal.overflow_cast-result
overflow_cast-result c =
    let small = parameter_small c.args.self.now c.args.pred c.in_ok-pred.pred.now c.as_slice-2.result.now c.args.word.now c.in_ok-number.number
    c.requires (rw c.as_slice.ensures at c.in_ok-pred.ensures) c.as_slice-2.ensures c.in_ok-number.ensures in
    omega (arith, small)

pub returns : goal.returns
returns c =
    parameter_named c.args.self.now c.args.pred c.in_ok-pred.pred.now c.as_slice-2.result.now c.args.word.now c.in_ok-number.number
    (rw c.as_slice.ensures at c.in_ok-pred.ensures) c.as_slice-2.ensures c.in_ok-number.ensures
