use Rattle.model_core.proofs.Leading.{found_there, found_not}
use Rattle.model_core.proofs.model.Model.reached.Goals as goal

pub returns-in_err-pred : goal.returns-in_err-pred
returns-in_err-pred c =
    rw c.from_residual-in_err-pred.ensures (found_not c.args.self.now c.args.name.now c.in_ok-root.root c.as_slice.result.now c.index-as_slice-root.result c.as_bytes.result.now c.as_slice-2.result.now
    c.requires c.as_slice.ensures c.as_bytes.ensures c.as_slice-2.ensures c.in_ok-root.ensures c.in_err-pred.ensures)

pub returns : goal.returns
returns c =
    found_there c.args.self.now c.args.name.now c.in_ok-root.root c.in_ok-pred.pred c.as_slice.result.now c.index-as_slice-root.result c.as_bytes.result.now c.as_slice-2.result.now
    c.as_slice.ensures c.as_bytes.ensures c.as_slice-2.ensures c.in_ok-root.ensures c.in_ok-pred.ensures
