use Rattle.std.proofs.Common.{List, sym, subst}
use Rattle.db_edges.specs.declared.edge.Point.{Point}
use Rattle.conflict_core.specs.Points.{HavePoints}
use Rattle.conflict_core.proofs.edge_cycle.cycle_of.Goals as goal

pub cycle_among-requires-clause-have : goal.cycle_among-requires-clause-have
cycle_among-requires-clause-have c =
    subst (λ (points : List Point). HavePoints points c.args.edges.now) (sym c.as_slice.ensures.value) c.in_ok-points.ensures.have
