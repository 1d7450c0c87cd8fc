-- The slots of rules that are unrolled, and where they are lawful.
use Rattle.std.specs.Prelude.{◌≡◌, ℕ, List, Some, All, slice_get}
use Rattle.model_core.specs.declared.class.Object.{Object}
use Rattle.model_core.specs.declared.class.Pred.{Pred}
use Rattle.model_core.specs.declared.model.Model.{Model}
use Rattle.model_core.specs.declared.rule.Slot.{Slot}
use Rattle.model_core.specs.Lawful.{IsLawfulSlot}
use Rattle.model_rules.specs.Rules.{IsBaseOfClass}
use Rattle.nddl_terms.specs.PlainTree.{PlainTree}
use Rattle.nddl_terms.specs.declared.lexicon.Lexicon.{Lexicon}
use Rattle.nddl_terms.specs.declared.lexicon.PredShape.{PredShape}
use Rattle.nddl_lower.specs.Slots.{class_base, pred_slot}
use Rattle.nddl_unroll.specs.Rules.{tree_rule}

-- the slot asks for a token of a predicate of the files, on any object of its class
pub record IsSlotOfPred (lexicon : Lexicon) (slot : Slot) : Type 0 where
  pub pred : ℕ
  pub shape : PredShape
  pub has : slice_get lexicon.preds pred ≡ Some shape
  pub is : slot ≡ pred_slot lexicon pred

-- each slot of a rule that is unrolled does, whatever the text
abbrev pub SlotsAreOfPreds : Type 0
SlotsAreOfPreds =
    (lexicon : Lexicon) (objects : List Object) (tree : PlainTree) → All (IsSlotOfPred lexicon) (tree_rule lexicon objects tree).slots

-- the model has the predicate of this number, and the objects of its class as the files know it are lawful there
pub record HasPredOf (model : Model) (lexicon : Lexicon) (pred : ℕ) (shape : PredShape) : Type 0 where
  pub found : Pred
  pub is_pred : slice_get model.preds pred ≡ Some found
  pub objects : IsBaseOfClass model found.class (class_base lexicon shape.class)

-- it has all predicates of the files
abbrev pub HasPredsOf : Model → Lexicon → Type 0
HasPredsOf model lexicon =
    (pred : ℕ) (shape : PredShape) → slice_get lexicon.preds pred ≡ Some shape → HasPredOf model lexicon pred shape

-- in such a model the slots of rules are lawful
abbrev pub SlotsAreLawful : Type 0
SlotsAreLawful =
    (model : Model) (lexicon : Lexicon) (objects : List Object) (tree : PlainTree) → HasPredsOf model lexicon
    → All (IsLawfulSlot model) (tree_rule lexicon objects tree).slots
