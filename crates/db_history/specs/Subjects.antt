-- What a decision is on, and taking the decision on something out.
use Rattle.std.specs.Prelude.{◌≡◌, ℕ, List, ◌∷◌, ◌++◌, length}
use Rattle.model_core.specs.declared.decision.Decision.{Decision}
use Rattle.model_core.specs.declared.decision.Decision.TheVariants.{Specify, Activate, Merge, Reject, Constrain, Relate}
use Rattle.model_core.specs.declared.decision.Decision.TheVariants as decisions
use Rattle.model_core.specs.declared.model.Model.{Model}
use Rattle.plan_defs.specs.Settling.{Settles}
use Rattle.db_history.specs.declared.subject.Subject.{Subject}
use Rattle.db_history.specs.declared.subject.Subject.TheVariants.{Var, Token, Order, Constraint, Relation}

-- the decision is on the subject: it gives the variable its value, says what becomes of the token, puts the one token before
-- the other, or posts the constraint with these arguments, or the relation of these tokens
abbrev pub IsOfSubject : Subject → Decision → Type 0
IsOfSubject (Var name) (Specify other value) = other ≡ name
IsOfSubject (Token token) (Activate other) = other ≡ token
IsOfSubject (Token token) (Merge other target) = other ≡ token
IsOfSubject (Token token) (Reject other) = other ≡ token
IsOfSubject (Order one other) (decisions.Order first second) = (first ≡ one) × (second ≡ other)
IsOfSubject (Constraint kind arguments) (Constrain other given) = (other ≡ kind) × (given ≡ arguments)
IsOfSubject (Relation relation one other) (Relate related first second) =
    (related ≡ relation) × (first ≡ one) × (second ≡ other)
IsOfSubject subject decision = ⊥

-- the decision at the place was taken out, and the rest settled
pub record TakesOutAt (model : Model) (place : ℕ) (below list : List Decision) : Type 0 where
  pub front : List Decision
  pub decision : Decision
  pub back : List Decision
  pub parts : below ≡ front ++ decision ∷ back
  pub place_is : length front ≡ place
  pub settles : Settles model (front ++ back) list
