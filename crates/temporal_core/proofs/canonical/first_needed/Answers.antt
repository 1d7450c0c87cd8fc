use Rattle.std.proofs.Common.{◌≡◌, ◌+◌, ◌-◌, ◌<◌, ◌∷◌, ◌++◌, [], pos, MatchBool, length, get_or, subst, arith}
use Rattle.temporal_core.specs.declared.edges.Edge.{Edge}
use Rattle.temporal_core.specs.Cycle.{edges_at}
use Rattle.temporal_core.specs.Satisfied.{IsSatisfiedGraph, HasPositiveCycle}
use Rattle.temporal_core.specs.Canonical.{places_from}
use Rattle.temporal_core.proofs.Leaving.{all_places}
use Rattle.temporal_core.proofs.Needed.{IsSatisfiedWith, with_more, needs_place, with_all}
use Rattle.temporal_core.proofs.canonical.first_needed.Goals as goal

pub returns-then-not-branch : goal.returns-then-not-branch
returns-then-not-branch c =
    let edges = c.args.edges.now in
    let place = c.loop-place.place - 1 in
    let none : Edge = record { from = 0; to = 0; gap = pos 0 } in
    let old = c.loop-place.satisfied in
    let more = old.graph.edges.items ++ get_or edges place none ∷ [] in
    let within : place < length edges = omega arith in
    let next : c.loop-place.place ≡ place + 1 = omega arith in
    let before = subst (λ n. IsSatisfiedWith c.args.points (edges_at edges ([] ++ places_from n (length edges))) old) next c.loop-place.invariant in
    let found = subst (λ done. MatchBool done (IsSatisfiedGraph (length old.values.items) more c.insert.new.self) (HasPositiveCycle more)) c.if-not-branch.true c.in_ok-insert.ensures in
    needs_place c.args.points edges [] place within none old before 0 (omega arith) found

pub loop-place-preserved : goal.loop-place-preserved
loop-place-preserved c =
    let edges = c.args.edges.now in
    let place = c.loop-place.place - 1 in
    let none : Edge = record { from = 0; to = 0; gap = pos 0 } in
    let old = c.loop-place.satisfied in
    let more = old.graph.edges.items ++ get_or edges place none ∷ [] in
    let within : place < length edges = omega arith in
    let next : c.loop-place.place ≡ place + 1 = omega arith in
    let before = subst (λ n. IsSatisfiedWith c.args.points (edges_at edges ([] ++ places_from n (length edges))) old) next c.loop-place.invariant in
    let is = subst (λ done. MatchBool done (IsSatisfiedGraph (length old.values.items) more c.insert.new.self) (HasPositiveCycle more)) c.if-not-branch.false c.in_ok-insert.ensures in
    with_more c.args.points edges [] place within none old before c.insert.new.self (subst (λ n. IsSatisfiedGraph n more c.insert.new.self) before.satisfied_own.values.count is)

pub unreachable-requires : goal.unreachable-requires
unreachable-requires c =
    with_all c.args.points c.args.edges.now [] 0 c.loop-place.place c.loop-place.satisfied c.loop-place-test.false c.loop-place.invariant (all_places c.args.edges.now c.requires.none)
