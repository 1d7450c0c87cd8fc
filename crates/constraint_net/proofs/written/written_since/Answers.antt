use Rattle.std.proofs.Common.{[], sym, subst, arith}
use Rattle.cell_store.specs.Cells.{present, IsPlace}
use Rattle.constraint_net.proofs.Writing.{WrittenFrom, written_none, written_more}
use Rattle.constraint_net.proofs.written.written_since.Goals as goal

pub loop-step-init : goal.loop-step-init
loop-step-init c =
    let from = subst (λ step. WrittenFrom c.args.mark step c.args.cells.now []) (sym c.steps-step.ensures) (written_none c.args.mark c.args.cells.now) in
    subst (λ numbers. WrittenFrom c.args.mark c.steps-step.result c.args.cells.now numbers) (sym c.new-numbers.ensures.items) from

pub loop-step-preserved : goal.loop-step-preserved
loop-step-preserved c =
    let loop = c.loop-step in
    written_more c.args.mark loop.step c.args.cells.now c.written.result loop.numbers.items c.note.new.numbers.items loop.invariant c.written.ensures c.in_ok-note.ensures

pub returns : goal.returns
returns c =
    let loop = c.loop-step in
    λ there at.
    (loop.invariant there (present c.args.cells.now) at (subst (λ place. IsPlace c.args.cells.now place (present c.args.cells.now))
    (omega (arith, c.mark-present.ensures.newest, c.requires, c.steps-step.ensures, c.steps-step-end.ensures, c.loop-step-test.false, loop.auto.step, loop.auto.step-end)) c.mark-present.ensures.place)).changed
