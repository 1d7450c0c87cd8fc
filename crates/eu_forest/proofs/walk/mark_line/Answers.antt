use Rattle.std.proofs.Common.{arith}
use Rattle.std.proofs.lemmas.Option.{slice_get-get_or}
use Rattle.eu_forest.proofs.Marking.{marks_more}
use Rattle.eu_forest.proofs.walk.mark_line.Goals as goal

pub loop-number-preserved : goal.loop-number-preserved
loop-number-preserved c =
    let here = slice_get-get_or c.args.path.now c.loop-number.number-index 0 c.loop-number-test.true in
    marks_more c.args.path.now c.loop-number.number-index _ _ c.args.marks.now c.loop-number.marks here
    (omega (arith, c.requires c.loop-number.number-index 0 c.loop-number-test.true)) c.loop-number.invariant
