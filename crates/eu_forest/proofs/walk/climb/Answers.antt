use Rattle.std.proofs.Common.{arith, None, Some, length, ◌<◌}
use Rattle.eu_forest.specs.declared.walk.Mark.TheVariants as marks
use Rattle.eu_forest.proofs.Climbing.{climbed_more, fewer_unseen}
use Rattle.eu_forest.proofs.Lists.{read_at}
use Rattle.eu_forest.proofs.walk.climb.Goals as goal

pub loop-marks-preserved : goal.loop-marks-preserved
loop-marks-preserved c =
    let climbed = c.loop-marks.invariant in
    let there : c.loop-marks.next < length c.loop-marks.marks = omega (arith, climbed.there, climbed.marks_are.count) in
    let unseen = read_at c.loop-marks.marks c.loop-marks.next marks.Unseen marks.Unseen there c.in-Unseen.is in
    let under = read_at c.args.parents.now c.loop-marks.next None (Some c.in-Some.parent) climbed.there c.in-Some.is in
    rw (c.in_ok-push-in-Some.ensures.items)
    (climbed_more c.args.parents.now c.args.number c.args.marks.now c.loop-marks.marks c.loop-marks.path.items c.loop-marks.next c.in-Some.parent _
    c.requires.parents unseen under (omega (arith, c.len.ensures, c.in_ok-push-in-Some.ensures.len)) climbed)

pub loop-marks-smaller : goal.loop-marks-smaller
loop-marks-smaller c =
    let climbed = c.loop-marks.invariant in
    let there : c.loop-marks.next < length c.loop-marks.marks = omega (arith, climbed.there, climbed.marks_are.count) in
    let unseen = read_at c.loop-marks.marks c.loop-marks.next marks.Unseen marks.Unseen there c.in-Unseen.is in
    fewer_unseen c.loop-marks.marks c.loop-marks.next _ unseen
