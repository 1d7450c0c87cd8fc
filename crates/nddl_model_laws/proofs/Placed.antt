-- Each object of a compiled model has its name and its class.
use Rattle.std.proofs.Common.{◌≡◌, ℕ, zero, suc, ◌+◌, ◌<◌, List, [], length, refl, sym, ◌∙◌, ap, subst, arith}
use Rattle.std.specs.Prelude.{Option, Some, None, All, slice_get, codes}
use Rattle.std.specs.Option.{option_map, option_map_or}
use Rattle.std.proofs.lemmas.List.{length-map}
use Rattle.std.proofs.lemmas.List.Elements.{All-map, All-weaker}
use Rattle.std.proofs.lemmas.Option.{slice_get-map}
use Rattle.model_core.specs.declared.class.Class.{Class}
use Rattle.model_core.specs.declared.model.Model.{Model}
use Rattle.model_core.specs.declared.variable.VarDecl.{VarDecl}
use Rattle.nddl_symbols.specs.declared.scope.Meaning.{Meaning}
use Rattle.nddl_symbols.specs.declared.scope.Meaning.TheVariants as meanings
use Rattle.nddl_hierarchy.specs.Lines.{parents_of}
use Rattle.nddl_types.specs.Classes.{builtin_class, builtin_fields, class_entries, class_fields, class_number, classes_of, compiled_class, enums_of}
use Rattle.nddl_construction.specs.declared.made.MadeObject.{MadeObject}
use Rattle.nddl_objects.specs.Modelled.{field_value, field_values, fields_of_class, modelled_object}
use Rattle.nddl_terms.specs.Lexicon.{shape_fields}
use Rattle.nddl_instance.specs.Modelled.{modelled_class}
use Rattle.nddl_laws.proofs.Circles.{number_is}
use Rattle.nddl_laws.proofs.Parents.{few_builtin, meant_class}
use Rattle.nddl_problem.specs.Compiled.{compiled_model}
use Rattle.nddl_problem.specs.Known.{Known, lexicon_known, progress_known}
use Rattle.nddl_model_laws.specs.Faultless.{IsFaultless}
use Rattle.nddl_model_laws.specs.Named.{IsPlacedObject}
use Rattle.nddl_model_laws.proofs.Grounds.{known_are, known_decls, known_fine, table_classes}
use Rattle.nddl_model_laws.proofs.Making.{IsClassMeant, IsNamedObject, made_right}
use Rattle.nddl_model_laws.proofs.Meant.{class_sort, meant_as}
use Rattle.nddl_model_laws.proofs.Tables.{bare, class_fields_like, known_class}
use Rattle.nddl_model_laws.proofs.Wide.{like_long}

module _ (known : Known) (is : IsFaultless known) where
  abbrev table_model : Model
  table_model = bare known is

  built_there : (number : ℕ) → number < 4
      → (class : Class) × (slice_get (classes_of known.facts (enums_of known.facts.program)) number ≡ Some class) × (class.fields ≡ builtin_fields number)
  built_there zero few = (builtin_class (codes "Object") None 0, refl, refl)
  built_there (suc zero) few = (builtin_class (codes "Timeline") (Some 0) 1, refl, refl)
  built_there (suc (suc zero)) few = (builtin_class (codes "Reusable") (Some 0) 2, refl, refl)
  built_there (suc (suc (suc zero))) few = (builtin_class (codes "Reservoir") (Some 0) 3, refl, refl)
  built_there (suc (suc (suc (suc number)))) few = absurd (omega arith)

  own_there : (place entry : ℕ) → slice_get (class_entries known.facts.names 0 known.facts.names) place ≡ Some entry
      → (class : Class) × (slice_get (classes_of known.facts (enums_of known.facts.program)) (4 + place) ≡ Some class)
      × (class.fields ≡ class_fields known.facts (enums_of known.facts.program) entry)
  own_there place entry at =
      let enums = enums_of known.facts.program in
      let e : suc (suc (suc (suc place))) ≡ 4 + place = omega arith in
      let P : ℕ → Type 0 = λ n. slice_get (classes_of known.facts enums) n ≡ Some (compiled_class known.facts enums entry) in (
        compiled_class known.facts enums entry,
        subst P e (slice_get-map (compiled_class known.facts enums) (class_entries known.facts.names 0 known.facts.names) place
            ∙ ap (option_map (compiled_class known.facts enums)) at),
        refl,
      )

  -- the fields of a class of a table
  abbrev pub meaning_fields : Meaning → List VarDecl
  meaning_fields (meanings.BuiltIn number) = builtin_fields number
  meaning_fields (meanings.Entry entry) = class_fields known.facts (enums_of known.facts.program) entry

  -- the class is one of the table
  pub class_there : (class : Meaning) → IsClassMeant known.facts class
      → (found : Class) × (slice_get known.table.classes (class_number known.facts.names class) ≡ Some found) × (found.fields ≡ meaning_fields class)
  class_there (meanings.BuiltIn number) meant =
      let told = meant_as known.facts (meanings.BuiltIn number) meant in
      let there = built_there number (few_builtin known.facts.names told.text number told.means) in
      (there.0, ap (λ some. slice_get some number) (table_classes known is) ∙ there.1, there.2)
  class_there (meanings.Entry entry) meant =
      let told = meant_as known.facts (meanings.Entry entry) meant in
      let found = meant_class known.facts.names told.text entry told.means (class_sort known.facts entry told.fine) in
      let parents : known.facts.parents ≡ parents_of known.facts.names known.facts.program =
      (known_are known is).is_parents ∙ ap (λ names. parents_of names known.facts.program) (sym (known_are known is).is_names) in
      let at = number_is known.facts (enums_of known.facts.program) table_model parents (known_are known is).order (known_are known is).lineage (known_fine known is)
      (table_classes known is) entry found.0 found.1 found.2 in
      let there = own_there at.0 entry at.1 in
      (there.0, ap (slice_get known.table.classes) at.2 ∙ (ap (λ some. slice_get some (4 + at.0)) (table_classes known is) ∙ there.1), there.2)

  object_placed : (object : MadeObject) → IsNamedObject known.facts object
      → IsPlacedObject (compiled_model known) (modelled_object known.facts known.table.classes object)
  object_placed object named =
      let number = class_number known.facts.names object.class in
      let found = class_there object.class named.class in
      let fields : fields_of_class known.table.classes number ≡ found.0.fields =
      ap (λ (o : Option Class). option_map_or (λ (class : Class). class.fields) o []) found.1 in
      let long : length (field_values known.facts.names object.fields (fields_of_class known.table.classes number))
      ≡ length (fields_of_class known.table.classes number) =
      length-map (fields_of_class known.table.classes number) (λ (variable : VarDecl). field_value known.facts.names object.fields variable.name) in
      let whole = like_long (compiled_model known) found.0.fields (shape_fields (lexicon_known known) number) (class_fields_like known is number found.0 found.1) in
      record {
        name = named.name.path;
        class = modelled_class (lexicon_known known) number found.0;
        is_class = known_class known is number found.0 found.1;
        whole = long ∙ (ap length fields ∙ sym whole);
      }

  pub objects_placed : All (IsPlacedObject (compiled_model known)) (compiled_model known).objects
  objects_placed =
      let objects = (progress_known known).so_far.objects in
      let made = made_right known.facts (known_decls known is) (known_are known is).is_names in
      All-map (IsPlacedObject (compiled_model known)) (modelled_object known.facts known.table.classes) objects
      (All-weaker (IsNamedObject known.facts) (λ (object : MadeObject). IsPlacedObject (compiled_model known) (modelled_object known.facts known.table.classes object))
      object_placed objects made.named)
