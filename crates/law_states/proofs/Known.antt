-- What a state knows of decisions, each state below it knows too.
use Rattle.std.proofs.lemmas.List.Elements.{All-weaker}
use Rattle.model_core.specs.declared.decision.ConArg.{ConArg}
use Rattle.model_core.specs.declared.decision.ConArg.TheVariants.{Var, Value}
use Rattle.model_core.specs.declared.decision.Decision.{Decision}
use Rattle.model_core.specs.declared.decision.Decision.TheVariants.{Specify, Activate, Merge, Reject, Order, Constrain, Relate}
use Rattle.model_core.specs.State.{State, IsBelow}
use Rattle.plan_defs.specs.Refusals.{IsArgumentKnown, IsKnown}

module _ (high low : State) (below : IsBelow high low) where
  argument_below : (argument : ConArg) → IsArgumentKnown high argument → IsArgumentKnown low argument
  argument_below (Var name) known = let found = below.variables name known.0 known.1 in (found.0, found.1)
  argument_below (Value value) known = tt

  pub known_below : (decision : Decision) → IsKnown high decision → IsKnown low decision
  known_below (Specify name value) known = let found = below.variables name known.0 known.1 in (found.0, found.1)
  known_below (Activate token) known = below.tokens token known
  known_below (Merge token target) known = (below.tokens token known.0, below.tokens target known.1)
  known_below (Reject token) known = below.tokens token known
  known_below (Order one other) known = (below.tokens one known.0, below.tokens other known.1)
  known_below (Constrain kind arguments) known = All-weaker (IsArgumentKnown high) (IsArgumentKnown low) argument_below arguments known
  known_below (Relate relation one other) known = (below.tokens one known.0, below.tokens other known.1)
