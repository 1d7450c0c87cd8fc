use Rattle.std.proofs.Common.{[], ◌∷◌}
use Rattle.constraint_net.proofs.Moving.{at_refl}
use Rattle.constraint_net.proofs.domains.keep_left.Goals as goal

pub returns-in-Lit-clause-sinks : goal.returns-in-Lit-clause-sinks
returns-in-Lit-clause-sinks c = at_refl (c.args.arg ∷ []) c.args.since c.args.cells.now c.requires.sound.place
