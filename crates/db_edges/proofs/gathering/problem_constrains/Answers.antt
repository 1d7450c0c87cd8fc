use Rattle.plan_defs.specs.Terms.{InProblem}
use Rattle.db_edges.specs.Edges.{HasConstraintEdges}
use Rattle.db_edges.proofs.Appending.{appends_none, appends_read, appends_all}
use Rattle.db_edges.proofs.gathering.problem_constrains.Goals as goal

pub loop-item-init : goal.loop-item-init
loop-item-init c = appends_none (HasConstraintEdges c.args.listed.model.now c.args.listed.decisions.now InProblem) c.args.items.now c.args.edges.now.items

pub loop-item-preserved : goal.loop-item-preserved
loop-item-preserved c =
    appends_read (HasConstraintEdges c.args.listed.model.now c.args.listed.decisions.now InProblem) c.args.items.now c.args.edges.now.items c.loop-item.edges.items
    c.constrained.new.edges.items c.loop-item.item-index c.item-item.result c.loop-item-test.true c.item-item.is c.loop-item.invariant c.in_ok-constrained.ensures

pub returns : goal.returns
returns c =
    appends_all (HasConstraintEdges c.args.listed.model.now c.args.listed.decisions.now InProblem) c.args.items.now c.args.edges.now.items c.loop-item.edges.items
    c.loop-item.item-index c.loop-item-test.false c.loop-item.invariant
