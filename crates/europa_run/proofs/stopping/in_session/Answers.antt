use Rattle.europa_run.proofs.Halting.{file_in_session, input_in_session, output_in_session}
use Rattle.europa_run.proofs.stopping.in_session.Goals as goal

pub returns-in-Err-clause-file : goal.returns-in-Err-clause-file
returns-in-Err-clause-file c = file_in_session c.in-Err.fault

pub returns-in-Err-clause-input : goal.returns-in-Err-clause-input
returns-in-Err-clause-input c = rw c.in-Err.is (input_in_session c.in-Err.fault)

pub returns-in-Err-clause-output : goal.returns-in-Err-clause-output
returns-in-Err-clause-output c = rw c.in-Err.is (output_in_session c.in-Err.fault)
