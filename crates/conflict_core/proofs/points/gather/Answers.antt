use Rattle.std.proofs.Common.{◌<◌, length, arith}
use Rattle.conflict_core.proofs.Copying.{have_whole}
use Rattle.conflict_core.proofs.Ordering.{have_none, have_next}
use Rattle.conflict_core.proofs.points.gather.Goals as goal

pub loop-edge-init : goal.loop-edge-init
loop-edge-init c = record { are = c.requires; have = have_none c.args.points.now.items }

pub loop-edge-preserved : goal.loop-edge-preserved
loop-edge-preserved c =
    let within : c.loop-edge.edge-index < length c.args.edges.now = omega arith in
    let added = c.in_ok-add_points.ensures in
    record {
      are = added.to.are;
      have = have_next c.args.edges.now c.loop-edge.edge-index c.edge-item.result c.loop-edge.points.items c.add_points.new.points.items
          within c.edge-item.is c.loop-edge.invariant.have added.from added.to;
    }

pub returns-clause-have : goal.returns-clause-have
returns-clause-have c = have_whole c.loop-edge.points.items c.args.edges.now c.loop-edge.edge-index (omega arith) c.loop-edge.invariant.have
