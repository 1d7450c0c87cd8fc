-- The slots of a rule that is unrolled are of predicates of the files.
use Rattle.std.proofs.Common.{◌≡◌, ℕ, [], refl, sym, ap, subst}
use Rattle.std.specs.Prelude.{Option, All}
use Rattle.std.specs.Option.{option_map_or}
use Rattle.std.proofs.lemmas.List.Elements.{All-nil, All-push, All-weaker}
use Rattle.model_core.specs.declared.model.Model.{Model}
use Rattle.model_core.specs.declared.rule.Slot as slots
use Rattle.model_core.specs.Lawful.{IsLawfulSlot}
use Rattle.model_rules.specs.Rules.{IsBaseOfClass}
use Rattle.nddl_terms.specs.declared.growth.Growth.{Growth}
use Rattle.nddl_terms.specs.declared.lexicon.Lexicon.{Lexicon}
use Rattle.nddl_terms.specs.declared.lexicon.PredShape.{PredShape}
use Rattle.nddl_terms.specs.Growth.{no_growth}
use Rattle.nddl_terms.specs.Lexicon.{pred_class}
use Rattle.nddl_lower.specs.Slots.{class_base, pred_slot}
use Rattle.nddl_unroll.specs.Rules.{tree_readings, tree_rule}
use Rattle.nddl_lowering_laws.specs.Slots.{HasPredsOf, IsSlotOfPred, SlotsAreLawful, SlotsAreOfPreds}
use Rattle.nddl_lowering_laws.proofs.Growing.{IsKept, IsKeptByBranches, unrolled_kept}

-- slots that are so stay so
abbrev StaySlots : Lexicon → Growth → Growth → Type 0
StaySlots lexicon old new = All (IsSlotOfPred lexicon) old.slots → All (IsSlotOfPred lexicon) new.slots

slots_kept : (lexicon : Lexicon) → IsKept lexicon (StaySlots lexicon)
slots_kept lexicon = record {
  same = λ growth are. are;
  join = λ first second third one other are. other (one are);
  item = λ item growth are. are;
  items = λ some growth are. are;
  local = λ shape growth are. are;
  slot = λ pred growth there are.
      All-push (IsSlotOfPred lexicon) growth.slots (pred_slot lexicon pred) are
      (record { pred = pred; shape = there.0; has = there.1; is = refl });
  named = λ at stand growth are. are;
  asked = λ at stand growth are. are;
}

slots_branches : (lexicon : Lexicon) → IsKeptByBranches (StaySlots lexicon)
slots_branches lexicon guard outer filled second one other are = other (one are)

pub slots_of_preds : SlotsAreOfPreds
slots_of_preds lexicon objects tree =
    unrolled_kept (tree_readings lexicon objects tree) (StaySlots lexicon) (slots_kept lexicon) (slots_branches lexicon) [] tree.body no_growth
    (All-nil (IsSlotOfPred lexicon))

-- a slot of a predicate that the model has is lawful
slot_lawful : (model : Model) (lexicon : Lexicon) → HasPredsOf model lexicon → (slot : slots.Slot) → IsSlotOfPred lexicon slot → IsLawfulSlot model slot
slot_lawful model lexicon has slot of =
    let there = has of.pred of.shape of.has in
    let none : ℕ = 0 in
    let class_is : of.shape.class ≡ pred_class lexicon of.pred =
    sym (ap (λ (o : Option PredShape). option_map_or (λ (s : PredShape). s.class) o none) of.has) in
    let base : IsBaseOfClass model there.found.class (class_base lexicon (pred_class lexicon of.pred)) =
    subst (λ (class : ℕ). IsBaseOfClass model there.found.class (class_base lexicon class)) class_is there.objects in
    subst (IsLawfulSlot model) (sym of.is) (record {
      pred = there.found;
      is_pred = there.is_pred;
      base = base.base_is;
      inside = base.inside;
      objects = base.objects;
    })

pub slots_lawful : SlotsAreLawful
slots_lawful model lexicon objects tree has =
    All-weaker (IsSlotOfPred lexicon) (IsLawfulSlot model) (slot_lawful model lexicon has) (tree_rule lexicon objects tree).slots
    (slots_of_preds lexicon objects tree)
