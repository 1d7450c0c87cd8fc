use Rattle.std.proofs.Common.{sym, subst}
use Rattle.temporal_core.specs.Canonical.{IsCycleOf}
use Rattle.temporal_core.proofs.Ordering.{cycle_of}
use Rattle.temporal_core.proofs.canonical.canonical_cycle.Goals as goal

pub in_order-requires-clause-cycle : goal.in_order-requires-clause-cycle
in_order-requires-clause-cycle c =
    let is = cycle_of c.args.edges.now c.in_ok-places.places.items c.in_ok-places.ensures in
    (is.0, subst (λ places. IsCycleOf c.args.edges.now places is.0) (sym c.deref.ensures.value) is.1)

pub returns : goal.returns
returns c =
    let is = subst (λ places. IsCycleOf c.args.edges.now places c.in_ok-ordered.ordered.items) c.deref.ensures.value c.in_ok-ordered.ensures in
    record { left = c.in_ok-places.places.items; leaves = c.in_ok-places.ensures.leaves; same = is.same; cycle = is.cycle; first = is.first }
