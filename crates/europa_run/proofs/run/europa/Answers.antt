use Rattle.europa_run.proofs.Halting.{where_raised, no_read_status, no_script_asked}
use Rattle.europa_run.proofs.run.europa.Goals as goal

pub returns-clause-output : goal.returns-clause-output
returns-clause-output g c = record {
  ended = c.carry_out.result;
  is = c.halted_status.ensures;
  leaves = c.carry_out.ensures.output;
  steps = c.carry_out.ensures.steps;
  fails = record {
    shelf = c.carry_out.ensures.files;
    input = c.carry_out.ensures.reads;
    output = c.carry_out.ensures.writes;
    last_of_shelf = c.carry_out.ensures.last_file;
    last_of_input = c.carry_out.ensures.last_read;
    last_of_output = c.carry_out.ensures.last_write;
  };
}

pub returns-clause-untouched : goal.returns-clause-untouched
returns-clause-untouched g c = where_raised _ _ _ c.carry_out.ensures.files c.carry_out.ensures.untouched

pub returns-clause-no_read_fault : goal.returns-clause-no_read_fault
returns-clause-no_read_fault g c = λ no_file.
    rw c.halted_status.ensures (no_read_status c.carry_out.result (c.carry_out.ensures.no_file_fault no_file)
    (c.carry_out.ensures.no_input_fault (no_script_asked c.args.words.now no_file)))
