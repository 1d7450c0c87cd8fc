use Rattle.std.specs.Prelude.{◌↔◌, length}
use Rattle.eu_forest.specs.Ancestors.{ancestry}
use Rattle.model_typing.specs.declared.line.Line.TheVariants.{From}
use Rattle.model_typing.specs.Terms.{FitsOnLine, scope_of}
use Rattle.model_typing.proofs.accesses.fits_above.Given as goal

-- it is so above the class that the walk has come to if it is above the first
abbrev pub invariant-loop-access : goal.invariant-loop-access
invariant-loop-access l =
    FitsOnLine l.model (scope_of l.scope) (From l.class) l.access.field l.access.value
    ↔ FitsOnLine l.model (scope_of l.scope) (From l.first) l.access.field l.access.value

abbrev pub decreases-loop-access : goal.decreases-loop-access
decreases-loop-access l = length (ancestry l.parents l.class)
