-- The one induction: steps that each keep what fits keep it together.
use Rattle.std.proofs.Common.{List, [], ◌∷◌}
use Rattle.model_core.specs.declared.model.Model.{Model}
use Rattle.model_core.specs.State.{State, IsState}
use Rattle.plan_defs.specs.Steps.{Approaches, AreSteps, last_of}
use Rattle.plan_defs.proofs.States.{IsBelow-refl, IsBelow-trans}

pub Approaches-refl : (model : Model) (fits : State → Type 0) (state : State) → Approaches model fits state state
Approaches-refl model fits state = record { lower = IsBelow-refl state; is_state = λ ok. ok; keeps = λ other ok below fit. below }

-- what both approaches keep is kept by the one after the other
pub Approaches-trans : (model : Model) (first second both : State → Type 0) (old middle new : State)
    → ((state : State) → IsState model state → both state → first state × second state)
    → Approaches model first old middle → Approaches model second middle new → Approaches model both old new
Approaches-trans model first second both old middle new split p q = record {
  lower = IsBelow-trans old middle new p.lower q.lower;
  is_state = λ ok. q.is_state (p.is_state ok);
  keeps = λ other ok below fit. q.keeps other ok (p.keeps other ok below (split other ok fit).0) (split other ok fit).1;
}

-- any number of steps, one after another, are a step
pub steps_approach : (model : Model) (fits : State → Type 0) (old : State) (states : List State) → AreSteps model fits old states → Approaches model fits old (last_of old states)
steps_approach model fits old [] steps = Approaches-refl model fits old
steps_approach model fits old (next ∷ states) steps =
    Approaches-trans model fits fits fits old next (last_of next states) (λ state ok fit. (fit, fit)) steps.0 (steps_approach model fits next states steps.1)
