use Rattle.std.proofs.Common.{◌≡◌, [], w32, to_z, of_z, arith}
use Rattle.std.proofs.lemmas.Int.{ints}
use Rattle.model_core.specs.Names.{token_at}
use Rattle.model_core.specs.Tokens.{slot_of}
use Rattle.plan_values.proofs.Declaring.{object_answer, root_slot, tested}
use Rattle.plan_values.proofs.bases.root_may_be.Goals as goal

pub returns-in-Some : goal.returns-in-Some
returns-in-Some c =
    let cast : to_z w32 (of_z w32 c.args.value) ≡ c.args.value = omega (arith, ints) in
    object_answer c.args.model.now (token_at c.args.root []) c.args.value (to_z w32 (of_z w32 c.args.value)) cast (slot_of c.in-Some.root.now) c.has.result
    (root_slot c.args.model.now c.args.root c.in-Some.root.now c.in-Some.ensures) (tested c.has.result _ c.has.ensures)
