use Rattle.std.proofs.Common.{ℕ, ℤ, MatchBool, sym, subst}
use Rattle.temporal_core.specs.Schedule.{IsSchedule, HasNoSchedule}
use Rattle.temporal_core.specs.Cycle.{edges_at}
use Rattle.temporal_core.specs.Satisfied.{HasPositiveCycle}
use Rattle.temporal_core.proofs.canonical.needed.Goals as goal

pub unreachable-requires : goal.unreachable-requires
unreachable-requires c =
    let edges = c.args.edges.now in
    let kept = c.deref.result.now in
    let none = subst (λ list. HasNoSchedule (edges_at edges list)) (sym c.deref.ensures.value) c.in_ok-kept.ensures.none in
    let found = subst (λ have. MatchBool have ((value : ℕ → ℤ) × IsSchedule (edges_at edges kept) value) (HasPositiveCycle (edges_at edges kept))) c.if-branch.true c.in_ok-have_schedule.ensures in
    none found.0 found.1

pub returns : goal.returns
returns c =
    let edges = c.args.edges.now in
    let kept = c.deref.result.now in
    let answer = subst (λ have. MatchBool have ((value : ℕ → ℤ) × IsSchedule (edges_at edges kept) value) (HasPositiveCycle (edges_at edges kept))) c.if-branch.false c.in_ok-have_schedule.ensures in
    record {
      within = c.in_ok-kept.ensures.within;
      leaves = c.in_ok-kept.ensures.leaves;
      cycle = subst (λ list. HasPositiveCycle (edges_at edges list)) c.deref.ensures.value answer;
    }
