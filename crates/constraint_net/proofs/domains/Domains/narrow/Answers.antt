use Rattle.std.proofs.Common.{length}
use Rattle.cell_store.specs.Cells.{present}
use Rattle.constraint_net.specs.Arguments.{AgreeAt}
use Rattle.constraint_net.proofs.Advancing.{not_begun}
use Rattle.constraint_net.proofs.Moving.{at_refl}
use Rattle.constraint_net.proofs.Spreading.{are_values, agree_from_each}
use Rattle.constraint_net.proofs.domains.Domains.narrow.Goals as goal

pub gather-requires : goal.gather-requires
gather-requires g c = are_values (length (present c.args.self.now.cells)) c.args.args.now c.requires.arguments

pub returns-in_err-gather-clause-steps : goal.returns-in_err-gather-clause-steps
returns-in_err-gather-clause-steps g c =
    not_begun (AgreeAt (g.C.Narrow.reach c.args.constraint.now) (g.C.Narrow.holds c.args.constraint.now) c.args.args.now) (present c.args.self.now.cells) c.from_residual.result c.from_residual.ensures.0 c.requires.sound.are

pub returns-in_err-gather-clause-sinks : goal.returns-in_err-gather-clause-sinks
returns-in_err-gather-clause-sinks g c = at_refl c.args.args.now c.args.since c.args.self.now.cells c.requires.sound.place

pub returns-clause-steps : goal.returns-clause-steps
returns-clause-steps g c =
    agree_from_each (g.C.Narrow.reach c.args.constraint.now) (g.C.Narrow.holds c.args.constraint.now) c.args.args.now (present c.args.self.now.cells) (present c.narrow_each.new.cells) c.narrow_each.result c.requires.sound.are c.narrow_each.ensures.steps
