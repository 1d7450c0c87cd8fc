-- The problems and moments of the examples.
use Rattle.std.specs.Prelude.{ℕ, pos, List, [], ◌∷◌}
use Rattle.domain_core.specs.Domain.{Domain}
use Rattle.eu_name.specs.declared.name.Part.TheVariants.{Param}
use Rattle.eu_name.specs.declared.name.VarName.TheVariants.{Token}
use Rattle.model_core.specs.declared.class.ObjectKind.{ObjectKind}
use Rattle.model_core.specs.declared.class.ObjectKind.TheVariants as kind
use Rattle.model_core.specs.declared.class.PredKind.TheVariants as pred
use Rattle.model_core.specs.declared.decision.Decision.{Decision}
use Rattle.model_core.specs.declared.decision.Decision.TheVariants.{Specify, Activate, Merge, Reject, Order}
use Rattle.model_core.specs.declared.item.Item.{Item}
use Rattle.model_core.specs.declared.item.Item.TheVariants.{Constraint}
use Rattle.domain_core.specs.declared.kind.Kind.TheVariants.{Leq}
use Rattle.model_core.specs.declared.item.Term.TheVariants as term
use Rattle.model_core.specs.declared.model.Model.{Model}
use Rattle.model_core.specs.declared.model.RootKind.{RootKind}
use Rattle.model_core.specs.declared.model.RootKind.TheVariants.{Goal, Rejectable, Fact}
use Rattle.model_core.specs.State.{State}
use Rattle.model_core.specs.Tokens.{root_token}
use Rattle.law_examples.specs.Scenes.{scene, the_object, both_objects, scene_with, Moment, exactly, scene_state}
use Rattle.law_examples.specs.Scenes.{guarded, with_local}

-- from 0 to 1, with a quantity in this domain
abbrev pub short : Domain → Moment
short quantity = record { start = 0; duration = 1; quantity = quantity; object = the_object }

-- from 0 to 5, and from 4 to 7
abbrev pub early : Moment
early = record { start = 0; duration = 5; quantity = exactly 0; object = the_object }

abbrev pub late : Moment
late = record { start = 4; duration = 3; quantity = exactly 0; object = the_object }

-- from 0 to 5, with a quantity of 2 or 6
abbrev pub using : Moment
using = record { start = 0; duration = 5; quantity = exactly 2; object = the_object }

abbrev pub taking : Moment
taking = record { start = 0; duration = 5; quantity = exactly 6; object = the_object }

-- one goal, on an object that is nothing special
abbrev pub lone_goal : Model
lone_goal = scene kind.Plain pred.Plain [] [] (Goal ∷ [])

-- the same, where the predicate has a rule with a guard
abbrev pub ruled : Model
ruled = scene kind.Plain pred.Plain (0 ∷ []) (guarded ∷ []) (Goal ∷ [])

-- two facts on an object of this kind
abbrev pub two_facts : ObjectKind → Model
two_facts object_kind = scene object_kind pred.Plain [] [] (Fact ∷ Fact ∷ [])

-- a fact that uses a tool of this capacity
abbrev pub tool : ℕ → Model
tool capacity = scene (kind.Reusable (pos capacity)) pred.Uses [] [] (Fact ∷ [])

-- a fact and a rejectable that take from a battery, which holds 5 and may hold 0 to 10
abbrev pub battery : Model
battery = scene (kind.Reservoir (pos 5) (pos 0) (pos 10)) pred.Consume [] [] (Fact ∷ Rejectable ∷ [])

-- the fact takes 6
abbrev pub drained : State
drained = scene_state [] (taking ∷ late ∷ [])

-- the goal is activated
abbrev pub activated : List Decision
activated = Activate (root_token 0) ∷ []

-- the second root is rejected
abbrev pub rejected : List Decision
rejected = Reject (root_token 1) ∷ []

-- from this instant on, for so long, with this quantity
abbrev pub moment : ℕ → ℕ → ℕ → Moment
moment start duration quantity = record {
  start = start;
  duration = duration;
  quantity = exactly quantity;
  object = the_object;
}

-- the same on either object
abbrev pub either : Moment → Moment
either found = record {
  start = found.start;
  duration = found.duration;
  quantity = found.quantity;
  object = both_objects;
}

-- a goal and a fact
abbrev pub goal_and_fact : Model
goal_and_fact = scene kind.Plain pred.Plain [] [] (Goal ∷ Fact ∷ [])

-- the goal is the fact
abbrev pub merged : List Decision
merged = Merge (root_token 0) (root_token 1) ∷ []

-- the first token ends before the second starts
abbrev pub ordered : List Decision
ordered = Order (root_token 0) (root_token 1) ∷ []

-- `leq(g.quantity, 1);`
abbrev pub at_most_one : Item
at_most_one = Constraint Leq (term.Root 0 (Param 0) ∷ term.Lit (pos 1) ∷ [])

-- a root of this kind, the quantity of which is at most 1
abbrev pub limited : RootKind → Model
limited root_kind = scene_with (at_most_one ∷ []) kind.Plain pred.Plain [] [] (root_kind ∷ [])

-- the first root is activated
abbrev pub activate_it : Decision
activate_it = Activate (root_token 0)

-- its quantity is this number
abbrev pub quantity_is : ℕ → Decision
quantity_is number = Specify (Token (root_token 0) (Param 0)) (pos number)

-- one goal, where the predicate has a rule with a local
abbrev pub localised : Model
localised = scene kind.Plain pred.Plain (0 ∷ []) (with_local ∷ []) (Goal ∷ [])
