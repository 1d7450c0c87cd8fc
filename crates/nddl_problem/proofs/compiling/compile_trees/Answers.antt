use Rattle.nddl_problem.proofs.compiling.compile_trees.Goals as goal

pub invariant_of-ruled : goal.invariant_of-ruled
invariant_of-ruled c = record {
  are_in_order =
      c.names_are_read_in_order.ensures c.args.table.now c.args.groundwork.now c.args.trees.now c.requires.given c.requires.trees;
}
