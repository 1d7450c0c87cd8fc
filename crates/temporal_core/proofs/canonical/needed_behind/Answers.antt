use Rattle.std.proofs.Common.{◌+◌, ◌<◌, MatchOption, length, sym, subst}
use Rattle.std.specs.Prelude.{All, ⊤}
use Rattle.temporal_core.specs.Schedule.{HasNoSchedule}
use Rattle.temporal_core.specs.Cycle.{edges_at}
use Rattle.temporal_core.specs.Canonical.{IsThinned, IsNextNeeded, HasNoneFrom}
use Rattle.temporal_core.proofs.Thinning.{IsLeaving, leaving_first, leaving_next, leaving_all, own_points}
use Rattle.temporal_core.proofs.canonical.needed_behind.Goals as goal

pub loop-kept-init : goal.loop-kept-init
loop-kept-init c =
    let first = c.args.first in
    subst (λ list. IsLeaving (length c.args.thinned.now.values.items) c.args.edges.now list (first + 1) c.args.thinned.now) (sym c.in_ok-kept.ensures.items)
    (leaving_first (length c.args.thinned.now.values.items) c.args.edges.now first c.args.thinned.now c.requires.first c.requires.thinned)

pub next_needed-requires-clause-kept : goal.next_needed-requires-clause-kept
next_needed-requires-clause-kept c = subst (All (λ place. place < c.loop-kept.next)) (sym c.deref.ensures.value) c.loop-kept.invariant.before

pub next_needed-requires-clause-some : goal.next_needed-requires-clause-some
next_needed-requires-clause-some c = subst (λ list. 0 < length list) (sym c.deref.ensures.value) c.loop-kept.invariant.some

pub next_needed-requires-clause-thinned : goal.next_needed-requires-clause-thinned
next_needed-requires-clause-thinned c =
    let edges = c.args.edges.now in
    let thinned = c.loop-kept.thinned in
    subst (λ list. IsThinned (length thinned.values.items) edges list c.loop-kept.next thinned) (sym c.deref.ensures.value)
    (own_points (length c.args.thinned.now.values.items) edges c.loop-kept.kept.items c.loop-kept.next thinned c.loop-kept.invariant.thinned_next)

pub next_needed-requires-clause-none : goal.next_needed-requires-clause-none
next_needed-requires-clause-none c = subst (λ list. HasNoneFrom c.args.edges.now list c.loop-kept.next) (sym c.deref.ensures.value) c.loop-kept.invariant.none

pub loop-kept-preserved : goal.loop-kept-preserved
loop-kept-preserved c =
    let edges = c.args.edges.now in
    let kept = c.loop-kept.kept.items in
    let next = c.loop-kept.next in
    let place = c.in-Some.place in
    let old = c.loop-kept.thinned in
    let new = c.next_needed.new.thinned in
    let inv = c.loop-kept.invariant in
    let answer = subst (λ list. MatchOption c.in_ok-place.field-0 (HasNoSchedule (edges_at edges list)) (IsNextNeeded edges list next)) c.deref.ensures.value c.in_ok-place.ensures.next in
    let needed = subst (λ found. MatchOption found (HasNoSchedule (edges_at edges kept)) (IsNextNeeded edges kept next)) c.in-Some.is answer in
    let left = subst (λ list. MatchOption c.in_ok-place.field-0 ⊤ (λ place. IsThinned (length old.values.items) edges list place new)) c.deref.ensures.value c.in_ok-place.ensures.thinned in
    let thinned = subst (λ found. MatchOption found ⊤ (λ place. IsThinned (length old.values.items) edges kept place new)) c.in-Some.is left in
    subst (λ list. IsLeaving (length c.args.thinned.now.values.items) edges list (place + 1) new) (sym c.in_ok-push.ensures.items)
    (leaving_next (length c.args.thinned.now.values.items) edges kept next old inv place needed new (subst (λ n. IsThinned n edges kept place new) inv.thinned_next.values.count thinned))

pub returns-clause-leaves : goal.returns-clause-leaves
returns-clause-leaves c =
    let edges = c.args.edges.now in
    let kept = c.loop-kept.kept.items in
    let next = c.loop-kept.next in
    let answer = subst (λ list. MatchOption c.in_ok-place.field-0 (HasNoSchedule (edges_at edges list)) (IsNextNeeded edges list next)) c.deref.ensures.value c.in_ok-place.ensures.next in
    let none = subst (λ found. MatchOption found (HasNoSchedule (edges_at edges kept)) (IsNextNeeded edges kept next)) c.in_default.is answer in
    leaving_all (length c.args.thinned.now.values.items) edges kept next c.loop-kept.thinned c.loop-kept.invariant none

pub returns-clause-none : goal.returns-clause-none
returns-clause-none c =
    let edges = c.args.edges.now in
    let kept = c.loop-kept.kept.items in
    let next = c.loop-kept.next in
    let answer = subst (λ list. MatchOption c.in_ok-place.field-0 (HasNoSchedule (edges_at edges list)) (IsNextNeeded edges list next)) c.deref.ensures.value c.in_ok-place.ensures.next in
    subst (λ found. MatchOption found (HasNoSchedule (edges_at edges kept)) (IsNextNeeded edges kept next)) c.in_default.is answer
