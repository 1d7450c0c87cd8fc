use Rattle.std.proofs.Common.{◌≡◌, ◌≤◌, length, Some, MatchOption, subst}
use Rattle.std.specs.Prelude.{slice_get}
use Rattle.constraint_net.specs.Networks.{Network}
use Rattle.db_store.specs.Stores.{snapshot_of}
use Rattle.db_refusals.proofs.Seen.{named_told, unnamed_told}
use Rattle.db_refusals.proofs.view.domain.Goals as goal

pub returns-in-Some : goal.returns-in-Some
returns-in-Some c =
    named_told (snapshot_of c.args.store.now) c.is_sound.ensures c.args.variable.now c.in-Some.number c.get.result c.in-Some.ensures
    (subst (λ (net : Network). MatchOption c.get.result (length net.domains ≤ c.in-Some.number) (λ domain. slice_get net.domains c.in-Some.number ≡ Some domain.now)) c.net.ensures c.get.ensures)

pub returns-in-None : goal.returns-in-None
returns-in-None c = unnamed_told (snapshot_of c.args.store.now) c.is_sound.ensures c.args.variable.now c.in-None.ensures
