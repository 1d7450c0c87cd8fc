-- The enums, classes and predicates of a compiled model are lawful.
use Rattle.std.proofs.Common.{◌≡◌, ℕ, List, [], length, refl, sym, subst}
use Rattle.std.specs.Prelude.{Some, All, AllPairs, slice_get}
use Rattle.std.specs.List.{AllZip}
use Rattle.std.proofs.lemmas.List.{length-map}
use Rattle.model_core.specs.declared.class.Class.{Class}
use Rattle.model_core.specs.declared.class.Enum.{Enum}
use Rattle.model_core.specs.declared.class.Pred.{Pred}
use Rattle.model_core.specs.declared.model.Model.{Model}
use Rattle.model_core.specs.Lawful.{IsLawfulClass, IsLawfulEnum, IsLawfulPred}
use Rattle.nddl_construction.specs.declared.made.MadeObject.{MadeObject}
use Rattle.nddl_objects.specs.Modelled.{modelled_object}
use Rattle.nddl_types.specs.Classes.{class_fields, compiled_class, enums_of}
use Rattle.nddl_env.specs.Lexicons.{pred_shapes}
use Rattle.nddl_env.specs.Shapes.{entry_attributes}
use Rattle.nddl_instance.specs.Modelled.{modelled_class}
use Rattle.nddl_terms.specs.Lexicon.{shape_fields}
use Rattle.nddl_laws.proofs.Classed.{lawful_classes}
use Rattle.nddl_laws.proofs.Declared.{enums_right}
use Rattle.nddl_laws.proofs.Listed.{DifferInClass, differing_preds, lawful_preds}
use Rattle.nddl_problem.specs.Compiled.{compiled_model}
use Rattle.nddl_problem.specs.Known.{Known, lexicon_known, progress_known, world_known}
use Rattle.nddl_model_laws.specs.Faultless.{IsFaultless}
use Rattle.nddl_model_laws.specs.Ruled.{HaveLawfulRules}
use Rattle.nddl_model_laws.proofs.Grounds.{known_are, known_decls, known_fine, known_right, table_classes, table_enums, table_lawful, table_preds, tabled}
use Rattle.nddl_model_laws.proofs.Listed.{preds_differ}
use Rattle.nddl_model_laws.proofs.Making.{made_right}
use Rattle.nddl_model_laws.proofs.Tabled.{all_preds_lawful, classes_lawful, fields_like, model_class}
use Rattle.nddl_model_laws.proofs.Wide.{IsLike, IsShaped, all_shaped, class_likes}

-- each enum
pub enums_lawful : (known : Known) → IsFaultless known → All IsLawfulEnum (compiled_model known).enums
enums_lawful known is = enums_right known.facts known.facts.program (known_right known is)

module _ (known : Known) (is : IsFaultless known) where
  -- a model with the table as it is
  abbrev pub bare : Model
  bare = record {
    enums = known.table.enums;
    classes = known.table.classes;
    objects = [];
    preds = known.table.preds;
    rules = [];
    problem = (compiled_model known).problem;
  }

  abbrev objects : List MadeObject
  objects = (progress_known known).so_far.objects

  long : length (compiled_model known).objects ≡ length objects
  long = length-map objects (modelled_object known.facts known.table.classes)

  likes : (entry : ℕ)
      → AllZip (IsLike (compiled_model known)) (compiled_class known.facts (enums_of known.facts.program) entry).fields (entry_attributes (world_known known) entry)
  likes entry =
      let made = made_right known.facts (known_decls known is) (known_are known is).is_names in
      let Z : List Enum → Type 0 = λ enums.
      AllZip (IsLike (compiled_model known)) (class_fields known.facts enums entry) (entry_attributes (world_known known) entry) in
      subst Z (table_enums known is)
      (class_likes known.facts (known_are known is) (known_decls known is) known.table.enums (table_enums known is) (table_lawful known is)
      (progress_known known).named_objects objects made.few made.there (compiled_model known) (sym (table_enums known is)) long entry)

  shaped : AllZip (IsShaped (compiled_model known)) known.table.preds (pred_shapes (world_known known))
  shaped =
      let made = made_right known.facts (known_decls known is) (known_are known is).is_names in
      let Z : List Pred → Type 0 = λ preds. AllZip (IsShaped (compiled_model known)) preds (pred_shapes (world_known known)) in
      subst Z (sym (table_preds known is))
      (all_shaped known.facts (known_are known is) (known_decls known is) known.table.enums (table_enums known is) (table_lawful known is)
      (progress_known known).named_objects objects made.few made.there (compiled_model known) (sym (table_enums known is)) long)

  -- the fields of a class of the table are those of its shape
  pub class_fields_like : (number : ℕ) (class : Class) → slice_get known.table.classes number ≡ Some class
      → AllZip (IsLike (compiled_model known)) class.fields (shape_fields (lexicon_known known) number)
  class_fields_like =
      fields_like known.facts (known_are known is) (known_fine known is) (known_right known is) (world_known known) refl (lexicon_known known) refl
      bare (table_classes known is) (compiled_model known) likes

  -- and the class is one of the model
  pub known_class : (number : ℕ) (class : Class) → slice_get known.table.classes number ≡ Some class
      → slice_get (compiled_model known).classes number ≡ Some (modelled_class (lexicon_known known) number class)
  known_class =
      model_class known.facts (known_are known is) (known_fine known is) (known_right known is) (world_known known) refl (lexicon_known known) refl
      bare (table_classes known is) (compiled_model known) likes refl
      (lawful_classes known.files known.table bare (tabled known is bare refl refl refl))

  -- each class
  pub model_classes_lawful : (number : ℕ) (class : Class) → slice_get (compiled_model known).classes number ≡ Some class
      → IsLawfulClass (compiled_model known) number class
  model_classes_lawful =
      classes_lawful known.facts (known_are known is) (known_fine known is) (known_right known is) (world_known known) refl (lexicon_known known) refl
      bare (table_classes known is) (compiled_model known) likes refl
      (lawful_classes known.files known.table bare (tabled known is bare refl refl refl))

  -- each predicate
  pub model_preds_lawful : HaveLawfulRules (compiled_model known) → (number : ℕ) (pred : Pred) → slice_get (compiled_model known).preds number ≡ Some pred
      → IsLawfulPred (compiled_model known) number pred
  model_preds_lawful =
      all_preds_lawful known.facts (known_are known is) (known_fine known is) (known_right known is) (world_known known) refl (lexicon_known known) refl
      bare (table_classes known is) (compiled_model known) likes refl
      (lawful_classes known.files known.table bare (tabled known is bare refl refl refl))
      known.trees refl refl shaped (lawful_preds known.files known.table bare (tabled known is bare refl refl refl))

  pub model_preds_differ : AllPairs DifferInClass (compiled_model known).preds
  model_preds_differ =
      preds_differ (lexicon_known known) known.trees known.table.preds
      (differing_preds known.files known.table bare (tabled known is bare refl refl refl))
