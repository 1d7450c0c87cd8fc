use Rattle.std.specs.Prelude.{ℕ}
use Rattle.model_core.specs.Kinds.{IsUnder}
use Rattle.model_typing.proofs.joining.lowest_near.Given as goal

-- the classes so far may be passed over
abbrev pub invariant-loop-stride : goal.invariant-loop-stride
invariant-loop-stride l =
    IsUnder l.model l.first l.class
    × ((class : ℕ) → IsUnder l.model l.first class → IsUnder l.model l.other class → IsUnder l.model l.class class)

abbrev pub decreases-loop-stride : goal.decreases-loop-stride
decreases-loop-stride l = l.stride
