use Rattle.nddl_terms.specs.Readings.{readings_of}
use Rattle.nddl_unroll.proofs.Steps.{branch_on, goes_on_at}
use Rattle.nddl_unroll.proofs.blocks.+unrolling.Goals as goal

pub unroll_stmt-returns-in_ok-otherwise-in-If : goal.unroll_stmt-returns-in_ok-otherwise-in-If
unroll_stmt-returns-in_ok-otherwise-in-If t c =
    goes_on_at (readings_of c.args.reading.now) c.args.turns.now _ c.args.stmt.now c.args.growth.now c.add_branch.new.growth
    c.add_branch.result c.in-If.is
    (branch_on (readings_of c.args.reading.now) c.args.turns.now c.in-If.at c.in-If.condition c.in-If.then c.in-If.otherwise
    c.args.growth.now c.guard_of.new.growth c.unroll_block.new.growth c.unroll_otherwise.new.growth c.add_branch.new.growth
    c.in_ok-guard-in-If.guard c.in_ok-then-in-If.then c.in_ok-otherwise-in-If.otherwise c.add_branch.result
    c.in_ok-guard-in-If.ensures.grown c.in_ok-guard-in-If.ensures.guard c.in_ok-then-in-If.ensures.grown
    c.in_ok-then-in-If.ensures.block c.in_ok-otherwise-in-If.ensures.grown c.in_ok-otherwise-in-If.ensures.block
    c.add_branch.ensures)
