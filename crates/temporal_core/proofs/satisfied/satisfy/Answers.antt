use Rattle.std.proofs.Common.{◌+◌, ◌∷◌, ◌++◌, [], pos, MatchBool, length, take, drop, get_or, sym, ap, ◌∙◌, subst}
use Rattle.std.specs.Prelude.{Contains}
use Rattle.std.proofs.lemmas.List.{take_more, take-append-drop}
use Rattle.std.proofs.lemmas.List.Elements.{Contains-append_left}
use Rattle.temporal_core.specs.declared.edges.Edge.{Edge}
use Rattle.temporal_core.specs.Satisfied.{IsSatisfiedGraph, HasPositiveCycle}
use Rattle.temporal_core.proofs.Satisfying.{HasPositiveCycle-within}
use Rattle.temporal_core.proofs.satisfied.satisfy.Goals as goal

pub returns-then-not-branch : goal.returns-then-not-branch
returns-then-not-branch c =
    let edges = c.args.edges.now in
    let i = c.loop-edge.edge-index in
    let none : Edge = record { from = 0; to = 0; gap = pos 0 } in
    let before = c.loop-edge.satisfied.graph.edges.items in
    let edge = get_or edges i none in
    let found = subst (λ done. MatchBool done (IsSatisfiedGraph (length c.loop-edge.satisfied.values.items) (before ++ edge ∷ []) c.insert.new.self) (HasPositiveCycle (before ++ edge ∷ []))) c.if-not-branch.true c.in_ok-insert.ensures in
    let front = subst HasPositiveCycle (ap (λ list. list ++ edge ∷ []) c.loop-edge.invariant.graph.list ∙ sym (take_more edges i none c.loop-edge-test.true)) found in
    HasPositiveCycle-within (take (i + 1) edges) edges (λ other among. subst (λ list. Contains list other) (take-append-drop (i + 1) edges) (Contains-append_left (take (i + 1) edges) (drop (i + 1) edges) other among)) front
