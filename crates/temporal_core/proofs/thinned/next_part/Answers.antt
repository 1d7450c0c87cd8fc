use Rattle.std.proofs.Common.{◌+◌, MatchBool, length, subst, arith}
use Rattle.temporal_core.specs.Canonical.{IsThinned, HasNoneFrom, HasSomeFrom}
use Rattle.temporal_core.proofs.Thinning.{own_points, none_alone, as_before}
use Rattle.temporal_core.proofs.thinned.next_part.Goals as goal

pub loop-first-init : goal.loop-first-init
loop-first-init c = record {
  after = omega arith;
  within = c.requires.from;
  width = omega (arith, c.max-width.ensures);
  wider = omega arith;
  thinned_first = c.requires.thinned;
  none = c.requires.none;
}

pub loop-first-preserved : goal.loop-first-preserved
loop-first-preserved c =
    let edges = c.args.edges.now in
    let kept = c.args.kept.now in
    let points = length c.args.thinned.now.values.items in
    let first = c.loop-first.first in
    let end = first + c.min.result in
    let now = c.is_left_out.new.thinned in
    let inv = c.loop-first.invariant in
    let answer = as_before points (length c.loop-first.thinned.values.items) edges kept first end now _ inv.thinned_first.values.count c.in_ok-is_left_out.ensures.thinned in
    record {
      after = omega (arith, inv.after);
      within = omega (arith, c.loop-first-test.true, c.min.ensures);
      width = inv.wider;
      wider = omega (arith, inv.wider, c.saturating_mul-wider.ensures);
      thinned_first = subst (λ done. MatchBool done (IsThinned points edges kept end now) (IsThinned points edges kept first now)) c.if-not-branch.false answer;
      none = subst (λ done. MatchBool done (HasNoneFrom edges kept end) (HasSomeFrom edges kept end)) c.if-not-branch.false c.in_ok-is_left_out.ensures.done;
    }

pub is_left_out-requires-clause-kept : goal.is_left_out-requires-clause-kept
is_left_out-requires-clause-kept c = λ k d within. let below = c.requires.kept k d within in omega (arith, c.loop-first.invariant.after)

pub is_left_out-requires-clause-thinned : goal.is_left_out-requires-clause-thinned
is_left_out-requires-clause-thinned c =
    own_points (length c.args.thinned.now.values.items) c.args.edges.now c.args.kept.now c.loop-first.first c.loop-first.thinned c.loop-first.invariant.thinned_first

pub returns-clause-part : goal.returns-clause-part
returns-clause-part c = none_alone c.args.edges.now c.args.kept.now c.loop-first.first c.loop-first-test.false c.loop-first.invariant.none
