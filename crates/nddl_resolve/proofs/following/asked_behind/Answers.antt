use Rattle.std.proofs.Common.{sym, ◌∙◌}
use Rattle.nddl_hierarchy.specs.Facts.{facts_of}
use Rattle.nddl_resolve.proofs.Walking.{asks_found}
use Rattle.nddl_resolve.proofs.following.asked_behind.Goals as goal

pub returns-in-Ok : goal.returns-in-Ok
returns-in-Ok c =
    asks_found (facts_of c.args.basis.now) c.args.first c.args.owner c.in-Ok.here c.args.names.now c.args.name.now c.token_denoted.result
    (sym c.in-Ok.is ∙ c.in_ok-here.ensures) c.token_denoted.ensures
