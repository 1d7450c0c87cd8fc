use Rattle.std.proofs.Common.{◌+◌, ◌-◌, ◌/◌, MatchBool, length, subst, arith}
use Rattle.temporal_core.specs.Canonical.{IsThinned, HasNoneFrom, HasSomeFrom}
use Rattle.temporal_core.proofs.Thinning.{own_points, as_before}
use Rattle.temporal_core.proofs.thinned.needed_in.Goals as goal

pub loop-end-init : goal.loop-end-init
loop-end-init c =
    let part = c.requires.part in
    record { after = omega arith; order = part.order; within = part.within; thinned_first = part.thinned_first; none = part.none; some = part.some }

pub loop-end-preserved : goal.loop-end-preserved
loop-end-preserved c =
    let edges = c.args.edges.now in
    let kept = c.args.kept.now in
    let points = length c.args.thinned.now.values.items in
    let first = c.loop-end.first in
    let middle = first + (c.loop-end.end - first) / 2 in
    let now = c.is_left_out.new.thinned in
    let inv = c.loop-end.invariant in
    let answer = as_before points (length c.loop-end.thinned.values.items) edges kept first middle now _ inv.thinned_first.values.count c.in_ok-is_left_out.ensures.thinned in
    record {
      after = inv.after;
      order = omega (arith, c.loop-end-test.true);
      within = omega (arith, c.loop-end-test.true, inv.within);
      thinned_first = subst (λ done. MatchBool done (IsThinned points edges kept middle now) (IsThinned points edges kept first now)) c.if-branch.false answer;
      none = inv.none;
      some = subst (λ done. MatchBool done (HasNoneFrom edges kept middle) (HasSomeFrom edges kept middle)) c.if-branch.false c.in_ok-is_left_out.ensures.done;
    }

pub is_left_out-requires-clause-kept : goal.is_left_out-requires-clause-kept
is_left_out-requires-clause-kept c = λ k d within. let below = c.requires.kept k d within in omega (arith, c.loop-end.invariant.after)

pub is_left_out-requires-clause-thinned : goal.is_left_out-requires-clause-thinned
is_left_out-requires-clause-thinned c =
    own_points (length c.args.thinned.now.values.items) c.args.edges.now c.args.kept.now c.loop-end.first c.loop-end.thinned c.loop-end.invariant.thinned_first
