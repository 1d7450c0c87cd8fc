use Rattle.std.proofs.Common.{refl, sym, arith}
use Rattle.std.proofs.lemmas.Option.{slice_get_within}
use Rattle.cell_store.specs.Cells.{present}
use Rattle.constraint_net.proofs.Moving.{sinks_refl}
use Rattle.constraint_net.proofs.Turns.{number_steps}
use Rattle.constraint_net.proofs.propagating.narrow_number.Goals as goal

pub returns-in-Some-clause-steps : goal.returns-in-Some-clause-steps
returns-in-Some-clause-steps c =
    number_steps c.args.tables.now c.args.constraints.now c.args.number c.in-Some.constraint.now (present c.args.domains.now.cells) (present c.narrow_constraint.new.domains.cells) c.narrow_constraint.result c.in-Some.ensures c.narrow_constraint.ensures.steps

pub returns-in-None-clause-sinks : goal.returns-in-None-clause-sinks
returns-in-None-clause-sinks c = sinks_refl c.args.since c.args.domains.now.cells c.requires.sound.place

pub returns-in-Some-clause-past : goal.returns-in-Some-clause-past
returns-in-Some-clause-past c = λ low.
    let below = slice_get_within c.args.constraints.now c.args.number c.in-Some.constraint.now (sym c.in-Some.ensures) in
    absurd (omega (arith, low, below))

pub returns-in-None-clause-past : goal.returns-in-None-clause-past
returns-in-None-clause-past c = λ low. (refl, refl)
