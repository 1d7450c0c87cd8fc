use Rattle.europa_run.proofs.Halting.{file_outside, input_outside, output_outside}
use Rattle.europa_run.proofs.stopping.outside.Goals as goal

pub returns-in-Err-clause-file : goal.returns-in-Err-clause-file
returns-in-Err-clause-file c = rw c.in-Err.is (file_outside c.in-Err.fault)

pub returns-in-Err-clause-input : goal.returns-in-Err-clause-input
returns-in-Err-clause-input c = input_outside c.in-Err.fault

pub returns-in-Err-clause-output : goal.returns-in-Err-clause-output
returns-in-Err-clause-output c = rw c.in-Err.is (output_outside c.in-Err.fault)
