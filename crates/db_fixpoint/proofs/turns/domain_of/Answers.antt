use Rattle.std.proofs.Common.{◌≡◌, ◌≤◌, length, slice_get, Some, subst}
use Rattle.std.specs.Prelude.{MatchOption}
use Rattle.constraint_net.specs.Networks.{Network}
use Rattle.db_fixpoint.proofs.Domains.{key_nowhere, domain_told}
use Rattle.db_fixpoint.proofs.turns.domain_of.Goals as goal

pub returns-in_default : goal.returns-in_default
returns-in_default c = key_nowhere c.args.store.now c.is_sound.ensures c.args.key c.requires c.in_default.ensures

pub returns : goal.returns
returns c =
    domain_told c.args.store.now c.is_sound.ensures c.args.key c.in-Some.number c.in-Some.ensures c.get.result
    (subst (λ (net : Network). MatchOption c.get.result (length net.domains ≤ c.in-Some.number) (λ domain. slice_get net.domains c.in-Some.number ≡ Some domain.now))
    c.net.ensures c.get.ensures)
