use Rattle.solver_core.proofs.Granting.{only_memory, refused_same, refused_ready}
use Rattle.solver_core.proofs.taking.take_choice.Goals as goal

pub want_of-requires : goal.want_of-requires
want_of-requires c = only_memory c.args.db.now c.apply.new.self c.args.choice.now c.in-Err.fault c.in-Err.ensures.applied c.requires.ready c.requires.admissible

pub returns-in-Err-clause-err : goal.returns-in-Err-clause-err
returns-in-Err-clause-err c = refused_same c.args.db.now c.apply.new.self c.args.choice.now c.in-Err.fault c.in-Err.ensures.applied

pub returns-in-Err-clause-still : goal.returns-in-Err-clause-still
returns-in-Err-clause-still c = refused_ready c.args.db.now c.apply.new.self c.args.choice.now c.in-Err.fault c.in-Err.ensures.applied c.requires.ready
