use Rattle.std.proofs.Common.{ap, take, drop, length, ◌-◌, ◌∙◌}
use Rattle.std.proofs.lemmas.List.{take_rest}
use Rattle.eu_io.proofs.Moves.{copied-consumes}
use Rattle.eu_io.proofs.calm.source.CalmSourceSource.read.Goals as goal

pub returns-clause-bytes : goal.returns-clause-bytes
returns-clause-bytes c =
    let given = c.self.inside.given in
    let is = ap (λ all. take (length all - given) (drop given all)) c.as_slice.ensures ∙ take_rest c.self.inside.bytes given in
    rw (← c.self.view_is)
    (copied-consumes c.self.inside.bytes _ c.args.buffer.now _ given c.self.inside.most _ is c.self.invariant.1 c.copy_front-count.ensures.count c.copy_front-count.ensures.copied)
