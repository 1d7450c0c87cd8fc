use Rattle.std.proofs.Common.{◌<◌, length, take, arith}
use Rattle.std.proofs.lemmas.List.{length-take-le}
use Rattle.std.proofs.lemmas.Slice.Zip.{AllZip-long}
use Rattle.conflict_core.specs.Points.{NumbersEdge}
use Rattle.conflict_core.proofs.Copying.{item_there, zip_add, zip_whole}
use Rattle.conflict_core.proofs.edge_cycle.numbered_all.Goals as goal

pub numbered-requires-clause-from : goal.numbered-requires-clause-from
numbered-requires-clause-from c =
    let within : c.loop-edge.edge-index < length c.args.edges.now = omega arith in
    (c.requires.have c.edge-item.result (item_there c.args.edges.now c.loop-edge.edge-index c.edge-item.result within c.edge-item.is)).0

pub numbered-requires-clause-to : goal.numbered-requires-clause-to
numbered-requires-clause-to c =
    let within : c.loop-edge.edge-index < length c.args.edges.now = omega arith in
    (c.requires.have c.edge-item.result (item_there c.args.edges.now c.loop-edge.edge-index c.edge-item.result within c.edge-item.is)).1

pub add-requires-clause-few : goal.add-requires-clause-few
add-requires-clause-few c =
    let edges = c.args.edges.now in
    let within : c.loop-edge.edge-index < length edges = omega arith in
    omega (
      arith,
      within,
      c.requires.few_edges,
      AllZip-long (NumbersEdge c.args.points.now) (take c.loop-edge.edge-index edges) c.loop-edge.network.edges c.loop-edge.invariant.edges,
      length-take-le c.loop-edge.edge-index edges (omega (arith, within)),
    )

pub loop-edge-preserved : goal.loop-edge-preserved
loop-edge-preserved c =
    let within : c.loop-edge.edge-index < length c.args.edges.now = omega arith in
    let both = zip_add c.args.points.now c.args.edges.now c.loop-edge.edge-index c.edge-item.result c.loop-edge.network c.add.new.self c.in_ok-number.number
    within c.edge-item.is c.loop-edge.invariant.points c.loop-edge.invariant.edges c.in_ok-number.ensures.numbered c.in_ok-add.ensures.ok in
    record { points = both.0; edges = both.1 }

pub returns-clause-edges : goal.returns-clause-edges
returns-clause-edges c = zip_whole c.args.points.now c.args.edges.now c.loop-edge.edge-index c.loop-edge.network.edges (omega arith) c.loop-edge.invariant.edges
