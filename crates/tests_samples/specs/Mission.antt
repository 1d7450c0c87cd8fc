-- A small lawful model for plans: two rovers that are at places, an arm that may be used twice at a time, a cell that holds 5,
-- and a variable of each kind.
-- As text: `enum Mode { slow, fast } class Rover extends Timeline { predicate At { int [0 3] place; } }
-- class Arm extends Reusable { .. } class Cell extends Reservoir { .. }
-- Rover::At { equals(Arm.uses use); if (place == 3) { int [0 9] steps; leq(steps, use.quantity); } else { after(Rover.At from); } }
-- PlannerConfig config = new PlannerConfig(0, 10, 100); Rover spirit = new Rover(); Rover twin = new Rover();
-- Arm arm = new Arm(2); Cell cell = new Cell(5, 0, 10); fact(spirit.At base); goal(spirit.At here); rejectable(twin.At there);
-- rejectable(arm.uses drill); rejectable(cell.produce sun); rejectable(cell.consume work); int [0 10] total; Mode [slow] mode;
-- bool [false] on; leq(total, 5); leq(drill.start, there.start);`, and one more global as for a field. The slot `from` has the
-- number 0, and `use` the number 1.
use Rattle.std.specs.Prelude.{ℕ, pos, List, [], ◌∷◌, codes}
use Rattle.eu_name.specs.declared.name.Part.TheVariants.{Start, Param}
use Rattle.model_core.specs.declared.class.Enum.{Enum}
use Rattle.model_core.specs.declared.class.ObjectKind.TheVariants.{Timeline, Reusable, Reservoir}
use Rattle.model_core.specs.declared.class.Pred.{Pred}
use Rattle.model_core.specs.declared.class.PredKind.{PredKind}
use Rattle.model_core.specs.declared.class.PredKind.TheVariants.{Plain, Uses, Produce, Consume}
use Rattle.model_core.specs.declared.item.Item.{Item}
use Rattle.model_core.specs.declared.item.Item.TheVariants.{Constraint, Relation}
use Rattle.domain_core.specs.declared.kind.Kind.TheVariants.{Leq}
use Rattle.model_core.specs.declared.item.Rel.TheVariants.{Equals, After}
use Rattle.model_core.specs.declared.item.Term.TheVariants as terms
use Rattle.model_core.specs.declared.model.Model.{Model}
use Rattle.model_core.specs.declared.model.Root.{Root}
use Rattle.model_core.specs.declared.model.RootKind.TheVariants.{Goal, Rejectable, Fact}
use Rattle.model_core.specs.declared.rule.Guard.TheVariants.{Equal}
use Rattle.model_core.specs.declared.rule.Rule.{Rule}
use Rattle.model_core.specs.declared.variable.Base.TheVariants.{Given}
use Rattle.model_core.specs.declared.variable.ValueKind.TheVariants as kinds
use Rattle.model_core.specs.declared.variable.VarDecl.{VarDecl}
use Rattle.model_core.specs.Entries.{Entries, NoEntry, WithSlot, WithLocal, WithItem, WithBranch}
use Rattle.tests_samples.specs.Pieces.{alone_on, span_variable, listed_variable, bare_class, bare_object, root_on}

abbrev pub mission_mode : Enum
mission_mode = record { name = codes "Mode"; members = codes "slow" ∷ codes "fast" ∷ [] }

-- where a rover is
abbrev pub mission_at : Pred
mission_at =
    record { class = 0; name = codes "At"; params = span_variable (codes "place") 3 ∷ []; kind = Plain; rules = 0 ∷ [] }

-- what is done to a resource, in this quantity
abbrev pub mission_act : ℕ → List ℕ → PredKind → Pred
mission_act class name kind =
    record { class = class; name = name; params = span_variable (codes "quantity") 1000000 ∷ []; kind = kind; rules = [] }

-- where the place is 3
abbrev pub mission_then : Entries
mission_then = WithLocal 0 (WithItem (Constraint Leq (terms.Local 0 ∷ terms.Slot 1 (Param 0) ∷ [])) NoEntry)

-- where it isn't
abbrev pub mission_otherwise : Entries
mission_otherwise = WithSlot 0 (WithItem (Relation After 0) NoEntry)

abbrev pub mission_rule : Rule
mission_rule = record {
  top = WithSlot 1 (WithItem (Relation Equals 1)
      (WithBranch (Equal (terms.Here (Param 0)) (terms.Lit (pos 3))) mission_then mission_otherwise NoEntry));
  slots = record { pred = 0; object = Given (alone_on 0) } ∷ record { pred = 1; object = Given (alone_on 2) } ∷ [];
  locals = span_variable [] 9 ∷ [];
}

abbrev pub mission_roots : List Root
mission_roots =
    root_on (codes "base") Fact 0 0 ∷ root_on (codes "here") Goal 0 0
    ∷ root_on (codes "there") Rejectable 0 1 ∷ root_on (codes "drill") Rejectable 1 2
    ∷ root_on (codes "sun") Rejectable 2 3 ∷ root_on (codes "work") Rejectable 3 3 ∷ []

abbrev pub mission_items : List Item
mission_items =
    Constraint Leq (terms.Global 0 ∷ terms.Lit (pos 5) ∷ [])
    ∷ Constraint Leq (terms.Root 3 Start ∷ terms.Root 2 Start ∷ []) ∷ []

abbrev pub mission_globals : List VarDecl
mission_globals =
    span_variable (codes "total") 10 ∷ span_variable (codes "!1") 5
    ∷ listed_variable (codes "mode") (kinds.Enum 0) ∷ listed_variable (codes "on") kinds.Bool ∷ []

abbrev pub mission : Model
mission = record {
  enums = mission_mode ∷ [];
  classes = bare_class (codes "Rover") ∷ bare_class (codes "Arm") ∷ bare_class (codes "Cell") ∷ [];
  objects =
      bare_object (codes "spirit") 0 Timeline ∷ bare_object (codes "twin") 0 Timeline
      ∷ bare_object (codes "arm") 1 (Reusable (pos 2)) ∷ bare_object (codes "cell") 2 (Reservoir (pos 5) (pos 0) (pos 10)) ∷ [];
  preds =
      mission_at ∷ mission_act 1 (codes "uses") Uses ∷ mission_act 2 (codes "produce") Produce
      ∷ mission_act 2 (codes "consume") Consume ∷ [];
  rules = mission_rule ∷ [];
  problem = record {
    start = pos 0;
    end = pos 10;
    steps = 100;
    roots = mission_roots;
    globals = mission_globals;
    items = mission_items;
    decisions = [];
  };
}
