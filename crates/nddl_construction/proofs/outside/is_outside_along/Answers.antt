use Rattle.std.proofs.Common.{sym, ◌∙◌}
use Rattle.nddl_construction.specs.Scene.{grounds_of}
use Rattle.nddl_construction.proofs.Judging.{declared_behind, declared_here}
use Rattle.nddl_construction.proofs.outside.is_outside_along.Goals as goal

pub returns-in-Some : goal.returns-in-Some
returns-in-Some c =
    declared_here (grounds_of c.args.footing.now) c.args.objects.now c.args.name.now c.args.value c.args.line.now
    c.loop-entry.entry-index c.in-Some.outside c.loop-entry-test.true (sym c.in-Some.is ∙ c.in_ok-found.ensures)
    c.loop-entry.invariant

pub loop-entry-preserved : goal.loop-entry-preserved
loop-entry-preserved c =
    declared_behind (grounds_of c.args.footing.now) c.args.objects.now c.args.name.now c.args.value c.args.line.now
    c.loop-entry.entry-index c.loop-entry-test.true (sym c.in_default.is ∙ c.in_ok-found.ensures) c.loop-entry.invariant
