-- The object is one of the domain, or there is no domain.
use Rattle.std.proofs.Common.{◌↔◌, ◌≡◌, IsTrue, w32, to_z, of_z, subst, arith}
use Rattle.std.proofs.lemmas.Int.{ints}
use Rattle.domain_core.specs.Domain.{Has}
use Rattle.db_resources.proofs.Acting.{may_told, may_not}
use Rattle.db_resources.proofs.change.may_be_on.Goals as goal

pub returns-in-Some : goal.returns-in-Some
returns-in-Some g c =
    let object : to_z w32 (of_z w32 c.args.object) ≡ c.args.object = omega (arith, ints) in
    may_told (g.V.View.state c.args.view.now) c.requires c.args.place c.args.object c.in-Some.domain.now c.has.result c.in-Some.ensures
    (subst (λ o. IsTrue c.has.result ↔ Has c.in-Some.domain.now o) object c.has.ensures)

pub returns-in-None : goal.returns-in-None
returns-in-None g c = may_not (g.V.View.state c.args.view.now) c.requires c.args.place c.args.object c.in-None.ensures
