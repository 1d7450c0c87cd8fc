-- The one object that the token can be on is this one, or another; or it is on none for sure.
use Rattle.std.proofs.Common.{◌≡◌, ◌↔◌, IsTrue, w32, to_z, of_z, subst, arith}
use Rattle.std.proofs.lemmas.Int.{ints}
use Rattle.db_resources.proofs.Acting.{on_told, not_on}
use Rattle.db_resources.proofs.usage.is_on.Goals as goal

pub returns-in-Some : goal.returns-in-Some
returns-in-Some g c =
    let found : to_z w32 (of_z w32 c.in-Some.found) ≡ c.in-Some.found = omega (arith, ints) in
    let object : to_z w32 (of_z w32 c.args.object) ≡ c.args.object = omega (arith, ints) in
    on_told (g.V.View.state c.args.view.now) c.requires c.args.place c.in-Some.found c.args.object c.is_same_object.result c.in-Some.ensures
    (subst (λ x. IsTrue c.is_same_object.result ↔ (x ≡ c.args.object)) found (subst (λ x. IsTrue c.is_same_object.result ↔ (to_z w32 (of_z w32 c.in-Some.found) ≡ x)) object c.is_same_object.ensures))

pub returns-in-None : goal.returns-in-None
returns-in-None g c = not_on (g.V.View.state c.args.view.now) c.requires c.args.place c.args.object c.in-None.ensures
