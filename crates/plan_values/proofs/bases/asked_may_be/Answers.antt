use Rattle.std.proofs.Common.{◌≡◌, ◌++◌, ◌∷◌, [], w32, to_z, of_z, arith}
use Rattle.std.proofs.lemmas.Int.{ints}
use Rattle.model_core.specs.Names.{token_at}
use Rattle.plan_values.proofs.Declaring.{object_answer}
use Rattle.plan_values.proofs.bases.asked_may_be.Goals as goal

pub returns-in-Some : goal.returns-in-Some
returns-in-Some c =
    let cast : to_z w32 (of_z w32 c.args.value) ≡ c.args.value = omega (arith, ints) in
    object_answer c.args.model.now (token_at c.args.root (c.args.front.now ++ c.args.last ∷ [])) c.args.value (to_z w32 (of_z w32 c.args.value)) cast c.in-Some.slot.now c.base_has.result
    c.in-Some.ensures c.base_has.ensures

pub returns-in-None : goal.returns-in-None
returns-in-None c = λ may. c.in-None.ensures may.0 may.1
