use Rattle.std.proofs.Common.{◌∷◌, ◌++◌, [], pos, MatchBool, length, get_or, subst}
use Rattle.std.proofs.lemmas.List.{take_all}
use Rattle.temporal_core.specs.Cycle.{edges_at}
use Rattle.temporal_core.proofs.Leaving.{schedule_from_satisfied}
use Rattle.temporal_core.specs.declared.edges.Edge.{Edge}
use Rattle.temporal_core.specs.Satisfied.{IsSatisfiedGraph, HasPositiveCycle}
use Rattle.temporal_core.proofs.Needed.{kept_more, kept_cycle}
use Rattle.temporal_core.proofs.canonical.have_schedule.Goals as goal

pub returns-then-not-branch : goal.returns-then-not-branch
returns-then-not-branch c =
    let edges = c.args.edges.now in
    let kept = c.args.kept.now in
    let i = c.loop-place.place-index in
    let none : Edge = record { from = 0; to = 0; gap = pos 0 } in
    let old = c.loop-place.satisfied in
    let more = old.graph.edges.items ++ get_or edges (get_or kept i 0) none ∷ [] in
    let found = subst (λ done. MatchBool done (IsSatisfiedGraph (length old.values.items) more c.insert.new.self) (HasPositiveCycle more)) c.if-not-branch.true c.in_ok-insert.ensures in
    kept_cycle c.args.points edges kept i none c.loop-place-test.true c.requires.kept old c.loop-place.invariant found

pub loop-place-preserved : goal.loop-place-preserved
loop-place-preserved c =
    let edges = c.args.edges.now in
    let kept = c.args.kept.now in
    let i = c.loop-place.place-index in
    let none : Edge = record { from = 0; to = 0; gap = pos 0 } in
    let old = c.loop-place.satisfied in
    let more = old.graph.edges.items ++ get_or edges (get_or kept i 0) none ∷ [] in
    let is = subst (λ done. MatchBool done (IsSatisfiedGraph (length old.values.items) more c.insert.new.self) (HasPositiveCycle more)) c.if-not-branch.false c.in_ok-insert.ensures in
    kept_more c.args.points edges kept i none c.loop-place-test.true c.requires.kept old c.loop-place.invariant c.insert.new.self is

pub returns : goal.returns
returns c =
    let edges = c.args.edges.now in
    let kept = c.args.kept.now in
    let satisfied = c.loop-place.satisfied in
    let all = subst (λ list. IsSatisfiedGraph c.args.points (edges_at edges list) satisfied) (take_all c.loop-place.place-index kept c.loop-place-test.false) c.loop-place.invariant in
    schedule_from_satisfied c.args.points (edges_at edges kept) satisfied.values.items all.values
