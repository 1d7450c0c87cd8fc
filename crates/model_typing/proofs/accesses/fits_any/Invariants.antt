use Rattle.std.specs.Prelude.{ℕ, ◌<◌}
use Rattle.model_typing.specs.Terms.{FieldFits, scope_of}
use Rattle.model_typing.proofs.accesses.fits_any.Given as goal

abbrev pub invariant-loop-class : goal.invariant-loop-class
invariant-loop-class l = (class : ℕ) → class < l.class → FieldFits l.model (scope_of l.scope) class l.access.field l.access.value → ⊥
