use Rattle.std.proofs.Common.{◌<◌, ◌∙◌, arith}
use Rattle.std.proofs.lemmas.Result.{err_from_is_err_and}
use Rattle.session_loop.proofs.CutLemmas.{ReadsPart-refill, ReadsPart-feed, ReadsPart-more, ReadsPart-over, ReadsPart-grows}
use Rattle.session_loop.proofs.cutting.next_line.Goals as goal

pub returns-in_err-move_line-clause-cut : goal.returns-in_err-move_line-clause-cut
returns-in_err-move_line-clause-cut g c =
    let p = err_from_is_err_and c.from_residual.result c.from_residual.ensures.1 in
    let first = g.S.Source.left c.args.input.now in
    let next = g.S.Source.left c.refill.new.input in
    let held_old = c.args.inflow.now in
    let held = c.refill.new.self in
    let line = c.loop-line.line in
    let f = rw c.in-Ok-true.field-0-test at c.in-Ok-true.ensures.bytes in
    let r = ReadsPart-refill first (g.S.Source.left c.loop-line.input) next held_old c.loop-line.inflow held line c.loop-line.invariant.reads f in
    rw (p.1, p.2) (r.0, r.2)

pub returns-then-branch-clause-cut : goal.returns-then-branch-clause-cut
returns-then-branch-clause-cut g c =
    let first = g.S.Source.left c.args.input.now in
    let next = g.S.Source.left c.refill.new.input in
    let held_old = c.args.inflow.now in
    let held = c.refill.new.self in
    let line = c.loop-line.line in
    let f = rw c.in-Ok-true.field-0-test at c.in-Ok-true.ensures.bytes in
    let r = ReadsPart-refill first (g.S.Source.left c.loop-line.input) next held_old c.loop-line.inflow held line c.loop-line.invariant.reads f in
    let m = rw c.if-branch.true at c.in_ok-move_line.ensures.moved in
    ReadsPart-feed first next held_old held c.move_line.new.inflow line c.move_line.new.line c.args.longest r m

pub returns-then-branch-clause-bound : goal.returns-then-branch-clause-bound
returns-then-branch-clause-bound g c = omega (arith, c.in_ok-move_line.ensures.grown, c.loop-line.invariant.short, c.requires)

pub returns-then-len-longest-clause-cut : goal.returns-then-len-longest-clause-cut
returns-then-len-longest-clause-cut g c =
    let first = g.S.Source.left c.args.input.now in
    let next = g.S.Source.left c.refill.new.input in
    let held_old = c.args.inflow.now in
    let held = c.refill.new.self in
    let line = c.loop-line.line in
    let f = rw c.in-Ok-true.field-0-test at c.in-Ok-true.ensures.bytes in
    let r = ReadsPart-refill first (g.S.Source.left c.loop-line.input) next held_old c.loop-line.inflow held line c.loop-line.invariant.reads f in
    let m = rw c.if-branch.false at c.in_ok-move_line.ensures.moved in
    let over : c.args.longest < c.move_line.new.line.length = omega arith in
    ReadsPart-over first next held_old c.move_line.new.inflow c.move_line.new.line c.args.longest
    (ReadsPart-more first next held_old held c.move_line.new.inflow line c.move_line.new.line r m) over

pub loop-line-preserved : goal.loop-line-preserved
loop-line-preserved g c =
    let first = g.S.Source.left c.args.input.now in
    let next = g.S.Source.left c.refill.new.input in
    let held_old = c.args.inflow.now in
    let held = c.refill.new.self in
    let line = c.loop-line.line in
    let f = rw c.in-Ok-true.field-0-test at c.in-Ok-true.ensures.bytes in
    let r = ReadsPart-refill first (g.S.Source.left c.loop-line.input) next held_old c.loop-line.inflow held line c.loop-line.invariant.reads f in
    let m = rw c.if-branch.false at c.in_ok-move_line.ensures.moved in
    record {
      reads = ReadsPart-more first next held_old held c.move_line.new.inflow line c.move_line.new.line r m;
      short = omega arith;
      counted = c.in-Ok-true.ensures.counted ∙ c.loop-line.invariant.counted;
    }

pub loop-line-smaller : goal.loop-line-smaller
loop-line-smaller g c =
    let first = g.S.Source.left c.args.input.now in
    let next = g.S.Source.left c.refill.new.input in
    let held_old = c.args.inflow.now in
    let held = c.refill.new.self in
    let line = c.loop-line.line in
    let f = rw c.in-Ok-true.field-0-test at c.in-Ok-true.ensures.bytes in
    let r = ReadsPart-refill first (g.S.Source.left c.loop-line.input) next held_old c.loop-line.inflow held line c.loop-line.invariant.reads f in
    let m = rw c.if-branch.false at c.in_ok-move_line.ensures.moved in
    let grows : line.length < c.move_line.new.line.length = ReadsPart-grows first next held_old held c.move_line.new.inflow line c.move_line.new.line r m f.3 in
    omega (arith, grows, c.loop-line.invariant.short)
