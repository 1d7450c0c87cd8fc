use Rattle.std.proofs.Common.{List, ℕ, ◌<◌, length, sym, subst}
use Rattle.std.specs.Prelude.{All}
use Rattle.temporal_core.specs.TimeBounds.{IsNoBounds}
use Rattle.conflict_core.proofs.Naming.{found_none, found_round, found_within}
use Rattle.conflict_core.proofs.Copying.{round_found}
use Rattle.conflict_core.proofs.edge_cycle.cycle_among.Goals as goal

pub returns-in-Ok : goal.returns-in-Ok
returns-in-Ok c =
    found_none c.args.points.now c.requires.are c.args.edges.now c.requires.have c.in_ok-network.network.edges c.in_ok-network.ensures.edges c.new.result.items
    c.in-Ok.ensures.ok.schedule c.new.ensures.items

pub walk-requires : goal.walk-requires
walk-requires c =
    let none = subst (IsNoBounds c.in_ok-network.network) c.in-Err-Cycle.field-0-is c.in-Err-Cycle.ensures.err in
    subst (λ (places : List ℕ). All (λ place. place < length c.args.edges.now) places) (sym c.as_slice.ensures)
    (found_within c.args.points.now c.requires.are c.args.edges.now c.requires.have c.in_ok-network.network.edges c.in_ok-network.ensures.edges c.in-Err-Cycle.places none.1)

pub returns-in-Err-Cycle : goal.returns-in-Err-Cycle
returns-in-Err-Cycle c =
    let none = subst (IsNoBounds c.in_ok-network.network) c.in-Err-Cycle.field-0-is c.in-Err-Cycle.ensures.err in
    round_found c.walk.result c.args.edges.now c.as_slice.result.now c.in-Err-Cycle.places c.as_slice.ensures
    (λ cycle is. found_round c.args.points.now c.requires.are c.args.edges.now c.requires.have c.in_ok-network.network.edges c.in_ok-network.ensures.edges c.in-Err-Cycle.places cycle none is)
    c.walk.ensures
