use Rattle.std.specs.Prelude.{ℕ, length}
use Rattle.eu_forest.specs.Ancestors.{ancestry}
use Rattle.model_core.specs.Kinds.{IsUnder}
use Rattle.model_typing.proofs.joining.first_over.Given as goal

-- the classes so far may be passed over
abbrev pub invariant-loop-class : goal.invariant-loop-class
invariant-loop-class l =
    IsUnder l.model l.first l.class
    × ((class : ℕ) → IsUnder l.model l.first class → IsUnder l.model l.other class → IsUnder l.model l.class class)

abbrev pub decreases-loop-class : goal.decreases-loop-class
decreases-loop-class l = length (ancestry l.parents l.class)
