use Rattle.std.proofs.Common.{◌≡◌, ℕ, ◌<◌, Some}
use Rattle.std.specs.Prelude.{slice_get}
use Rattle.db_resources.specs.Touching.{IsOfIdle}
use Rattle.db_resources.proofs.touched.is_one_of_actor.Given as goal

abbrev pub invariant-loop-number : goal.invariant-loop-number
invariant-loop-number l = (place other : ℕ) → place < l.number-index → slice_get l.numbers place ≡ Some other → IsOfIdle l.resources l.model l.store other
