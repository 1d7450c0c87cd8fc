use Rattle.constraint_net.proofs.Moving.{sinks_cell, steps_cell}
use Rattle.constraint_net.proofs.domains.keep_common.Goals as goal

pub returns : goal.returns
returns c =
    let limited = c.limit_cell.ensures.limited in
    record {
      steps = steps_cell c.args.variable c.args.other.now c.args.since c.args.cells.now c.limit_cell.new.cells c.limit_cell.result c.requires.sound.are c.requires.exists c.requires.kind limited;
      sinks = sinks_cell c.args.variable c.args.other.now c.args.since c.args.cells.now c.limit_cell.new.cells c.limit_cell.result c.requires.sound c.requires.exists limited;
      alerts = c.limit_cell.ensures.alerts;
      told_of_loss = c.limit_cell.ensures.told_of_loss;
    }
