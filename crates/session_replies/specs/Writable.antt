-- What can be written of a model.
use Rattle.std.specs.Prelude.{◌≡◌, ⊤, ℕ, ◌<◌, Option, Some, None, List, length, slice_get}
use Rattle.domain_core.specs.declared.kind.Kind.{Kind}
use Rattle.model_core.specs.declared.decision.ConArg.{ConArg}
use Rattle.model_core.specs.declared.decision.ConArg.TheVariants.{Var, Value}
use Rattle.model_core.specs.declared.decision.Decision.{Decision}
use Rattle.model_core.specs.declared.decision.Decision.TheVariants.{Specify, Activate, Merge, Reject, Order, Constrain, Relate}
use Rattle.model_core.specs.declared.model.Model.{Model}
use Rattle.model_core.specs.declared.variable.Base.{Base}
use Rattle.model_core.specs.declared.variable.ValueKind.{ValueKind}
use Rattle.model_core.specs.Kinds.{IsValueOf}
use Rattle.model_core.specs.Lawful.{IsToken}
use Rattle.model_core.specs.Variables.{HasBase}
use Rattle.plan_defs.specs.Refusals.{IsDeclared}
use Rattle.db_edges.specs.declared.edge.NamedEdge.{NamedEdge}
use Rattle.db_edges.specs.declared.edge.Point.{Point}
use Rattle.db_edges.specs.declared.edge.Point.TheVariants as points
use Rattle.plan_defs.specs.Flaws.{Flaw, Undecided, Undetermined, Unordered, Untimed}
use Rattle.script_lang.specs.Compared.{compared, IsFirstKind, kind_at}
use Rattle.script_lang.specs.KindWords.{IsPosted}

-- the model has the variable, or the value is of the kind in which it is read
abbrev pub IsArgumentWritable : Model → Option ValueKind → ConArg → Type 0
IsArgumentWritable model kind (Var name) = (base : Base) × HasBase model name base
IsArgumentWritable model (Some kind) (Value value) = IsValueOf model kind value
IsArgumentWritable model None (Value value) = ⊥

-- the constraint may be posted, and each of its arguments, of which there are some, can be written in its place
pub record IsPostWritable (model : Model) (kind : Kind) (arguments : List ConArg) : Type 0 where
  pub posted : IsPosted kind
  pub some : 0 < length arguments
  pub among : Option ValueKind
  pub is_among : IsFirstKind model (compared kind arguments) among
  pub each : (place : ℕ) (argument : ConArg)
      → slice_get arguments place ≡ Some argument → IsArgumentWritable model (kind_at kind among place) argument

-- the model has the tokens that the decision names, or declares the variable with the value, or its arguments can be written
abbrev pub IsWritable : Model → Decision → Type 0
IsWritable model (Specify name value) = IsDeclared model name value
IsWritable model (Activate token) = IsToken model token
IsWritable model (Merge token target) = IsToken model token × IsToken model target
IsWritable model (Reject token) = IsToken model token
IsWritable model (Order one other) = IsToken model one × IsToken model other
IsWritable model (Constrain kind arguments) = IsPostWritable model kind arguments
IsWritable model (Relate relation one other) = IsToken model one × IsToken model other

-- the model has the token of the point
abbrev pub IsPointWritable : Model → Point → Type 0
IsPointWritable model points.Origin = ⊤
IsPointWritable model (points.Start token) = IsToken model token
IsPointWritable model (points.End token) = IsToken model token

-- the model has the tokens of both points
abbrev pub IsEdgeWritable : Model → NamedEdge → Type 0
IsEdgeWritable model edge = IsPointWritable model edge.from × IsPointWritable model edge.to

-- the model has what the flaw is about
abbrev pub IsFlawWritable : Model → Flaw → Type 0
IsFlawWritable model (Undecided token) = IsToken model token
IsFlawWritable model (Undetermined name) = (base : Base) × HasBase model name base
IsFlawWritable model (Unordered one other) = IsToken model one × IsToken model other
IsFlawWritable model (Untimed name) = (base : Base) × HasBase model name base
