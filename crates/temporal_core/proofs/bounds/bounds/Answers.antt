use Rattle.std.proofs.Common.{◌≡◌, MatchOption, length, sym, ◌∙◌, subst}
use Rattle.temporal_core.specs.Schedule.{AreLeastValues, AreGreatestValues}
use Rattle.temporal_core.specs.Cycle.{IsCanonicalCycle}
use Rattle.temporal_core.specs.Satisfied.{AreSatisfied, IsSatisfiedGraph, HasPositiveCycle}
use Rattle.temporal_core.proofs.Walks.{no_schedule}
use Rattle.temporal_core.proofs.Leaving.{schedule_from_satisfied}
use Rattle.temporal_core.proofs.bounds.bounds.Goals as goal

pub greatest_values-requires-clause-schedule : goal.greatest_values-requires-clause-schedule
greatest_values-requires-clause-schedule c =
    let is = subst (λ answer. MatchOption answer (HasPositiveCycle c.as_slice-list.result.now) (IsSatisfiedGraph c.points-points.result c.as_slice-list.result.now)) c.in-Some.is c.in_ok-satisfied.ensures in
    schedule_from_satisfied c.points-points.result c.as_slice-list.result.now c.in-Some.satisfied.values.items is.values

pub canonical_cycle-requires-clause-none : goal.canonical_cycle-requires-clause-none
canonical_cycle-requires-clause-none c =
    let found = subst (λ answer. MatchOption answer (HasPositiveCycle c.as_slice-list.result.now) (IsSatisfiedGraph c.points-points.result c.as_slice-list.result.now)) c.in-None.is c.in_ok-satisfied.ensures in
    no_schedule c.as_slice-list.result.now found

pub returns-in_ok-cycle-in-None-clause-err : goal.returns-in_ok-cycle-in-None-clause-err
returns-in_ok-cycle-in-None-clause-err c =
    let edges = c.args.edges.now.edges in
    let found = subst (λ answer. MatchOption answer (HasPositiveCycle c.as_slice-list.result.now) (IsSatisfiedGraph c.points-points.result c.as_slice-list.result.now)) c.in-None.is c.in_ok-satisfied.ensures in (
      no_schedule edges (subst HasPositiveCycle c.as_slice-list.ensures found),
      subst (IsCanonicalCycle edges) (sym c.from_vec-in-None.ensures) (subst (λ list. IsCanonicalCycle list c.in_ok-cycle-in-None.cycle.items) c.as_slice-list.ensures c.in_ok-cycle-in-None.ensures),
    )

pub returns-in_ok-hi-in-Some-clause-ok : goal.returns-in_ok-hi-in-Some-clause-ok
returns-in_ok-hi-in-Some-clause-ok c =
    let network = c.args.edges.now in
    let points = c.points-points.result in
    let satisfied = c.in-Some.satisfied in
    let lo = c.in_ok-lo-in-Some.lo.items in
    let hi = c.in_ok-hi-in-Some.hi.items in
    let is = subst (λ answer. MatchOption answer (HasPositiveCycle c.as_slice-list.result.now) (IsSatisfiedGraph points c.as_slice-list.result.now)) c.in-Some.is c.in_ok-satisfied.ensures in
    let list : satisfied.graph.edges.items ≡ network.edges = is.graph.list ∙ c.as_slice-list.ensures in
    let least = subst (λ n. AreLeastValues n network.edges lo) (is.values.count ∙ c.points-points.ensures.points)
    (subst (λ edges. AreLeastValues (length satisfied.values.items) edges lo) list c.in_ok-lo-in-Some.ensures.values) in
    let greatest = subst (λ n. AreGreatestValues n network.edges hi) c.points-points.ensures.points (subst (λ edges. AreGreatestValues points edges hi) c.as_slice-list.ensures c.in_ok-hi-in-Some.ensures) in
    record {
      schedule = schedule_from_satisfied points network.edges satisfied.values.items (subst (λ edges. AreSatisfied points edges satisfied.values.items) c.as_slice-list.ensures is.values);
      least = subst (AreLeastValues network.points network.edges) (sym c.from_vec.ensures) least;
      greatest = subst (AreGreatestValues network.points network.edges) (sym c.from_vec-in-Some.ensures) greatest;
    }
