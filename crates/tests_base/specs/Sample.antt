-- A small lawful model, to try the definitions on: rovers that are at places, each time coming from another place. As text:
-- `class Rover { predicate At { int [0 3] place; } }
-- Rover::At { any(object.At from); int [0 9] steps; }
-- Rover spirit = new Rover(); goal(Rover.At here); int [0 10] total;`,
-- and one more global as for a field.
use Rattle.std.specs.Prelude.{ℕ, pos, List, [], ◌∷◌, None, codes}
use Rattle.domain_core.specs.Domain.{Domain, Range, Set}
use Rattle.model_core.specs.declared.class.Class.{Class}
use Rattle.model_core.specs.declared.class.Object.{Object}
use Rattle.model_core.specs.declared.class.ObjectKind.TheVariants as object_kinds
use Rattle.model_core.specs.declared.class.Pred.{Pred}
use Rattle.model_core.specs.declared.class.PredKind.TheVariants as pred_kinds
use Rattle.model_core.specs.declared.item.Item.TheVariants.{Relation}
use Rattle.model_core.specs.declared.item.Rel.TheVariants.{Any}
use Rattle.model_core.specs.declared.model.Model.{Model}
use Rattle.model_core.specs.declared.model.Root.{Root}
use Rattle.model_core.specs.declared.model.RootKind.TheVariants.{Goal}
use Rattle.model_core.specs.declared.rule.Rule.{Rule}
use Rattle.model_core.specs.declared.variable.Base.TheVariants.{Given}
use Rattle.model_core.specs.declared.variable.ValueKind.TheVariants.{Int}
use Rattle.model_core.specs.declared.variable.VarDecl.{VarDecl}
use Rattle.model_core.specs.Entries.{NoEntry, WithSlot, WithLocal, WithItem}

-- a variable with a range from 0
abbrev pub ranged : List ℕ → ℕ → VarDecl
ranged name greatest = record { name = name; kind = Int; base = Given (Range (pos 0) (pos greatest)) }

-- the one object
abbrev pub spirit_alone : Domain
spirit_alone = Set (pos 0 ∷ [])

abbrev pub rover : Class
rover = record { name = codes "Rover"; parent = None; fields = [] }

abbrev pub spirit : Object
spirit = record { name = codes "spirit"; class = 0; fields = []; kind = object_kinds.Plain }

abbrev pub at : Pred
at = record { class = 0; name = codes "At"; params = ranged (codes "place") 3 ∷ []; kind = pred_kinds.Plain; rules = 0 ∷ [] }

abbrev pub coming : Rule
coming = record {
  top = WithSlot 0 (WithItem (Relation Any 0) (WithLocal 0 NoEntry));
  slots = record { pred = 0; object = Given spirit_alone } ∷ [];
  locals = ranged [] 9 ∷ [];
}

abbrev pub here : Root
here = record { label = codes "here"; kind = Goal; pred = 0; object = spirit_alone }

abbrev pub sample : Model
sample = record {
  enums = [];
  classes = rover ∷ [];
  objects = spirit ∷ [];
  preds = at ∷ [];
  rules = coming ∷ [];
  problem = record {
    start = pos 0;
    end = pos 1000;
    steps = 1000;
    roots = here ∷ [];
    globals = ranged (codes "total") 10 ∷ ranged (codes "!1") 5 ∷ [];
    items = [];
    decisions = [];
  };
}
