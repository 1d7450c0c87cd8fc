use Rattle.std.proofs.Common.{get_or}
use Rattle.cell_store.specs.Cells.{present}
use Rattle.constraint_net.specs.declared.constraint.NetArg.TheVariants.{Var}
use Rattle.constraint_net.proofs.Keeping.{read_at}
use Rattle.constraint_net.proofs.Moving.{at_refl, at_more}
use Rattle.constraint_net.proofs.Spreading.{supported_not_begun, stays_whole, keeps_none, part_kind, keeps_part}
use Rattle.constraint_net.proofs.domains.narrow_at.Goals as goal

pub returns-in_err-left_at-clause-steps : goal.returns-in_err-left_at-clause-steps
returns-in_err-left_at-clause-steps g c =
    supported_not_begun (g.C.Narrow.reach c.args.constraint.now) (g.C.Narrow.holds c.args.constraint.now) c.args.gathered.args.now (present c.args.cells.now) c.requires.sound.are c.requires.arguments c.args.place c.from_residual.result c.from_residual.ensures.0

pub returns-in_err-left_at-clause-sinks : goal.returns-in_err-left_at-clause-sinks
returns-in_err-left_at-clause-sinks g c = at_refl c.args.gathered.args.now c.args.since c.args.cells.now c.requires.sound.place

pub returns-in-Whole-clause-steps : goal.returns-in-Whole-clause-steps
returns-in-Whole-clause-steps g c =
    let reach = g.C.Narrow.reach c.args.constraint.now in
    let holds = g.C.Narrow.holds c.args.constraint.now in
    let args = c.args.gathered.args.now in
    let old = present c.args.cells.now in
    stays_whole reach holds args old c.requires.sound.are c.requires.arguments c.args.place c.in_ok-left_at.field-0 c.in-Whole.is c.in_ok-left_at.ensures

pub returns-in-Whole-clause-sinks : goal.returns-in-Whole-clause-sinks
returns-in-Whole-clause-sinks g c = at_refl c.args.gathered.args.now c.args.since c.args.cells.now c.requires.sound.place

pub returns-in-Nothing-clause-steps : goal.returns-in-Nothing-clause-steps
returns-in-Nothing-clause-steps g c =
    let reach = g.C.Narrow.reach c.args.constraint.now in
    let holds = g.C.Narrow.holds c.args.constraint.now in
    let args = c.args.gathered.args.now in
    let old = present c.args.cells.now in
    keeps_none reach holds args old c.requires.sound.are c.requires.arguments c.args.place c.in_ok-left_at.field-0 (Var 0) c.requires.place c.in-Nothing.is c.in_ok-left_at.ensures

pub returns-in-Nothing-clause-sinks : goal.returns-in-Nothing-clause-sinks
returns-in-Nothing-clause-sinks g c = at_refl c.args.gathered.args.now c.args.since c.args.cells.now c.requires.sound.place

pub keep_left-requires-clause-kind : goal.keep_left-requires-clause-kind
keep_left-requires-clause-kind g c =
    let reach = g.C.Narrow.reach c.args.constraint.now in
    let holds = g.C.Narrow.holds c.args.constraint.now in
    let args = c.args.gathered.args.now in
    let old = present c.args.cells.now in
    part_kind reach holds args old c.requires.sound.are c.requires.arguments c.args.place c.in_ok-left_at.field-0 c.in-Part.left (Var 0) c.requires.place c.in-Part.is c.in_ok-left_at.ensures

pub keep_left-requires-clause-argument : goal.keep_left-requires-clause-argument
keep_left-requires-clause-argument g c = c.requires.arguments c.args.place (Var 0) c.requires.place

pub returns-in-Part-clause-steps : goal.returns-in-Part-clause-steps
returns-in-Part-clause-steps g c =
    let reach = g.C.Narrow.reach c.args.constraint.now in
    let holds = g.C.Narrow.holds c.args.constraint.now in
    let args = c.args.gathered.args.now in
    let old = present c.args.cells.now in
    keeps_part reach holds args old c.requires.sound.are c.requires.arguments c.args.place c.in_ok-left_at.field-0 c.in-Part.left (Var 0) c.requires.place c.in-Part.is c.in_ok-left_at.ensures
    (present c.keep_left.new.cells) c.keep_left.result c.keep_left.ensures.steps

pub returns-in-Part-clause-sinks : goal.returns-in-Part-clause-sinks
returns-in-Part-clause-sinks g c =
    let arg = get_or c.args.gathered.args.now c.args.place (Var 0) in
    at_more c.args.gathered.args.now arg c.args.since c.args.cells.now c.keep_left.new.cells
    (c.args.place, c.requires.place, read_at c.args.gathered.args.now c.args.place (Var 0) arg c.requires.place) c.keep_left.ensures.sinks
