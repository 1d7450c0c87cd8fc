use Rattle.std.proofs.Common.{ℕ, ℤ, ◌∷◌, ◌++◌, [], MatchBool, length, subst, arith}
use Rattle.temporal_core.specs.Network.{IsEdge}
use Rattle.temporal_core.specs.Schedule.{IsSchedule}
use Rattle.temporal_core.specs.Satisfied.{HasPositiveCycle}
use Rattle.temporal_core.specs.Canonical.{edge_at, missing}
use Rattle.temporal_core.proofs.Thinning.{at_place, missing_before, own_points, thinned_values, none_thinned, some_thinned}
use Rattle.temporal_core.proofs.thinned.is_left_out.Goals as goal

pub can_keep-requires-clause-graph : goal.can_keep-requires-clause-graph
can_keep-requires-clause-graph c =
    let points = length c.args.thinned.now.values.items in
    let now = c.leave_out.ensures points c.args.kept.now c.requires.kept c.requires.thinned in
    (own_points points c.args.edges.now c.args.kept.now c.args.end c.leave_out.new.thinned now).graph

pub can_keep-requires-clause-values : goal.can_keep-requires-clause-values
can_keep-requires-clause-values c =
    let points = length c.args.thinned.now.values.items in
    let thinned = c.leave_out.new.thinned in
    let now = c.leave_out.ensures points c.args.kept.now c.requires.kept c.requires.thinned in
    thinned_values (length thinned.values.items) c.args.edges.now c.args.kept.now c.args.end thinned (own_points points c.args.edges.now c.args.kept.now c.args.end thinned now)

pub can_keep-requires-clause-edge : goal.can_keep-requires-clause-edge
can_keep-requires-clause-edge c =
    let points = length c.args.thinned.now.values.items in
    let thinned = c.leave_out.new.thinned in
    let now = c.leave_out.ensures points c.args.kept.now c.requires.kept c.requires.thinned in
    let before = missing_before c.args.kept.now c.args.first c.requires.some c.requires.kept in
    at_place (IsEdge (length thinned.values.items)) c.args.edges.now (missing c.args.kept.now)
    (own_points points c.args.edges.now c.args.kept.now c.args.end thinned now).joins (omega (arith, c.requires.order, c.requires.end))

pub put_back-requires-clause-count : goal.put_back-requires-clause-count
put_back-requires-clause-count c = (c.leave_out.ensures (length c.args.thinned.now.values.items) c.args.kept.now c.requires.kept c.requires.thinned).count

pub returns-then-not-branch-clause-thinned : goal.returns-then-not-branch-clause-thinned
returns-then-not-branch-clause-thinned c = c.leave_out.ensures (length c.args.thinned.now.values.items) c.args.kept.now c.requires.kept c.requires.thinned

pub returns-then-not-branch-clause-done : goal.returns-then-not-branch-clause-done
returns-then-not-branch-clause-done c =
    let points = length c.args.thinned.now.values.items in
    let edges = c.args.edges.now in
    let kept = c.args.kept.now in
    let thinned = c.leave_out.new.thinned in
    let now = c.leave_out.ensures points kept c.requires.kept c.requires.thinned in
    let before = missing_before kept c.args.first c.requires.some c.requires.kept in
    let all = thinned.graph.edges.items ++ edge_at edges (missing kept) ∷ [] in
    let found = subst (λ done. MatchBool done ((value : ℕ → ℤ) × IsSchedule all value) (HasPositiveCycle all)) c.if-not-branch.true c.in_ok-can_keep.ensures in
    none_thinned points edges kept c.args.end thinned now c.requires.some (omega (arith, c.requires.order, c.requires.end)) found

pub returns-clause-thinned : goal.returns-clause-thinned
returns-clause-thinned c =
    let points = length c.args.thinned.now.values.items in
    let now = c.leave_out.ensures points c.args.kept.now c.requires.kept c.requires.thinned in
    c.put_back.ensures points c.args.kept.now (missing_before c.args.kept.now c.args.first c.requires.some c.requires.kept) now

pub returns-clause-done : goal.returns-clause-done
returns-clause-done c =
    let points = length c.args.thinned.now.values.items in
    let edges = c.args.edges.now in
    let kept = c.args.kept.now in
    let thinned = c.leave_out.new.thinned in
    let now = c.leave_out.ensures points kept c.requires.kept c.requires.thinned in
    let before = missing_before kept c.args.first c.requires.some c.requires.kept in
    let all = thinned.graph.edges.items ++ edge_at edges (missing kept) ∷ [] in
    let found = subst (λ done. MatchBool done ((value : ℕ → ℤ) × IsSchedule all value) (HasPositiveCycle all)) c.if-not-branch.false c.in_ok-can_keep.ensures in
    some_thinned points edges kept c.args.end thinned now c.requires.some (omega (arith, c.requires.order, c.requires.end)) found
