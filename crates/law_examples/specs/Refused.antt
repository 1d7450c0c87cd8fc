-- Decisions and the reasons against them.
use Rattle.std.specs.Prelude.{ℕ, zero, suc, pos, List, [], ◌∷◌, None, codes}
use Rattle.model_core.specs.declared.class.ObjectKind.TheVariants as kind
use Rattle.model_core.specs.declared.class.PredKind.TheVariants as pred
use Rattle.model_core.specs.declared.decision.Decision.{Decision}
use Rattle.model_core.specs.declared.decision.Decision.TheVariants.{Merge, Reject, Order}
use Rattle.model_core.specs.declared.model.Model.{Model}
use Rattle.model_core.specs.declared.model.RootKind.{RootKind}
use Rattle.model_core.specs.declared.model.RootKind.TheVariants.{Goal, Fact}
use Rattle.model_core.specs.State.{State}
use Rattle.model_core.specs.Tokens.{root_token}
use Rattle.plan_defs.specs.Refusals.{Hinders}
use Rattle.model_core.specs.declared.refusal.Refusal.{Refusal}
use Rattle.law_examples.specs.Cases.{moment}
use Rattle.law_examples.specs.Scenes.{both_objects, object_called, predicate_of, predicate_called, root_of, label_of}
use Rattle.law_examples.specs.Scenes.{scene, Moment, scene_state}

-- no reason speaks against the decision
abbrev pub IsUnhindered : Model → List Decision → State → Decision → Type 0
IsUnhindered model decisions state decision = (reason : Refusal) → Hinders model decisions state reason decision → ⊥

-- states of one token and of two
abbrev pub one_token : State
one_token = scene_state [] (moment 0 1 1 ∷ [])

abbrev pub two_tokens : State
two_tokens = scene_state [] (moment 0 1 1 ∷ moment 0 1 1 ∷ [])

-- what may be decided of them
abbrev pub merge_them : Decision
merge_them = Merge (root_token 0) (root_token 1)

abbrev pub order_them : Decision
order_them = Order (root_token 0) (root_token 1)

abbrev pub order_it : Decision
order_it = Order (root_token 0) (root_token 0)

abbrev pub reject_it : Decision
reject_it = Reject (root_token 0)

-- one root of this kind
abbrev pub alone : RootKind → Model
alone root_kind = scene kind.Plain pred.Plain [] [] (root_kind ∷ [])

abbrev pub two_goals : Model
two_goals = scene kind.Plain pred.Plain [] [] (Goal ∷ Goal ∷ [])

-- a goal and a fact of another predicate
abbrev pub mixed : Model
mixed = record {
  enums = [];
  classes = record { name = codes "C"; parent = None; fields = [] } ∷ [];
  objects = object_called (codes "o") kind.Plain ∷ object_called (codes "p") kind.Plain ∷ [];
  preds = predicate_of pred.Plain [] ∷ predicate_called (codes "Q") pred.Plain [] ∷ [];
  rules = [];
  problem = record {
    start = pos 0;
    end = pos 10;
    steps = 1;
    roots =
        root_of 0 Goal
        ∷ record { label = label_of 1; kind = Fact; pred = 1; object = both_objects }
        ∷ [];
    globals = [];
    items = [];
    decisions = [];
  };
}

-- so many facts, and then a goal
abbrev pub facts_and_goal : ℕ → List RootKind
facts_and_goal zero = Goal ∷ []
facts_and_goal (suc number) = Fact ∷ facts_and_goal number

abbrev pub many_roots : ℕ → Model
many_roots number = scene kind.Plain pred.Plain [] [] (facts_and_goal number)

-- when they take place
abbrev pub many_moments : ℕ → List Moment
many_moments zero = moment 0 1 1 ∷ []
many_moments (suc number) = moment 0 1 1 ∷ many_moments number

abbrev pub many_tokens : ℕ → State
many_tokens number = scene_state [] (many_moments number)
