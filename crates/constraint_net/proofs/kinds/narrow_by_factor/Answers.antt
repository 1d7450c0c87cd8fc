use Rattle.std.proofs.Common.{◌≡◌, length, w32, to_z, of_z, ◌∙◌, arith}
use Rattle.std.proofs.lemmas.Int.{ints}
use Rattle.cell_store.specs.Cells.{present}
use Rattle.constraint_net.proofs.Moving.{at_outer}
use Rattle.constraint_net.proofs.Meaning.{for_factor, factor_value}
use Rattle.constraint_net.proofs.kinds.narrow_by_factor.Goals as goal

pub returns-in-Lit-clause-steps : goal.returns-in-Lit-clause-steps
returns-in-Lit-clause-steps c =
    let number = c.in-Lit.number in
    let old = present c.args.domains.now.cells in
    let value = factor_value (length old) c.args.x c.args.factor c.args.z number c.in-Lit.is c.requires.arguments in
    let cast : to_z w32 (of_z w32 number) ≡ number = omega (arith, ints, value) in
    for_factor c.args.x c.args.factor c.args.z number c.by.result.factor old (present c.narrow.new.self.cells) c.narrow.result c.in-Lit.is (c.by.ensures ∙ cast) c.requires.sound.are c.requires.arguments c.narrow.ensures.steps

pub returns-in-Lit-clause-sinks : goal.returns-in-Lit-clause-sinks
returns-in-Lit-clause-sinks c = at_outer c.args.x c.args.factor c.args.z c.args.since c.args.domains.now.cells c.narrow.new.self.cells c.narrow.ensures.sinks
