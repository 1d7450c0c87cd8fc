use Rattle.std.proofs.Common.{pos, length}
use Rattle.plan_check.specs.Acts.{IsChangeOf}
use Rattle.plan_check.proofs.Linking.{way_below, way_shorter}
use Rattle.plan_check.proofs.Rising.{changes_none}
use Rattle.plan_check.proofs.Using.{gathered_at, gathered_first, gathered_next, gathered_all}
use Rattle.plan_check.proofs.levels.changes_of.Goals as goal

pub loop-next-init : goal.loop-next-init
loop-next-init c =
    let listed = c.args.plan.now.lines in
    gathered_first (IsChangeOf c.args.model.now (pos c.args.object)) listed c.args.object (changes_none c.args.model.now c.args.object) c.new-changes.result.items c.first_on-next.result c.new-changes.ensures.items
    (c.first_on-next.ensures listed (length c.args.model.now.objects) c.requires.linked c.requires.there)

pub bounds-lines-place : goal.bounds-lines-place
bounds-lines-place c =
    let listed = c.args.plan.now.lines in
    let on = gathered_at (IsChangeOf c.args.model.now (pos c.args.object)) listed c.args.object c.in-Some.place c.loop-next.next c.loop-next.changes.items c.in-Some.is c.loop-next.invariant in
    way_below listed c.as_slice-lines.result.now c.args.object c.in-Some.place c.as_slice-lines.ensures on

pub loop-next-smaller : goal.loop-next-smaller
loop-next-smaller c =
    let listed = c.args.plan.now.lines in
    let on = gathered_at (IsChangeOf c.args.model.now (pos c.args.object)) listed c.args.object c.in-Some.place c.loop-next.next c.loop-next.changes.items c.in-Some.is c.loop-next.invariant in
    way_shorter listed c.args.object c.in-Some.place c.loop-next.next c.after-next.result c.in-Some.is on
    (c.after-next.ensures listed (length c.args.model.now.objects) c.args.object c.requires.linked c.requires.there on)

pub loop-next-preserved : goal.loop-next-preserved
loop-next-preserved c =
    let listed = c.args.plan.now.lines in
    gathered_next (IsChangeOf c.args.model.now (pos c.args.object)) listed c.args.object (changes_none c.args.model.now c.args.object) c.as_slice-lines.result.now c.in-Some.place c.loop-next.next c.after-next.result
    c.index-lines-place.result c.change_of.result c.loop-next.changes.items c.keep.new.acts.items c.in-Some.is
    (c.after-next.ensures listed (length c.args.model.now.objects) c.args.object c.requires.linked c.requires.there)
    c.as_slice-lines.ensures c.index-lines-place.is c.change_of.ensures c.in_ok-keep.ensures c.loop-next.invariant

pub returns : goal.returns
returns c =
    gathered_all (IsChangeOf c.args.model.now (pos c.args.object)) c.args.plan.now.lines c.args.object c.loop-next.next c.loop-next.changes.items c.in_default.is c.loop-next.invariant
