-- A compiled model has the objects, their contents, the parts of tokens and the predicates that the files name.
use Rattle.std.proofs.Common.{◌≡◌, ℕ, ◌+◌, Bool, true, false, List, [], map, ℤ, refl, sym, ◌∙◌, ap, subst, arith}
use Rattle.std.specs.Prelude.{Option, Some, None, Contains, slice_get, codes, if◌then◌else◌}
use Rattle.std.specs.List.{AllZip}
use Rattle.std.specs.Option.{option_map, option_map_or}
use Rattle.std.specs.Str.{bytes_eq}
use Rattle.std.proofs.lemmas.List.{length-map}
use Rattle.std.proofs.lemmas.Option.{same_Some, none-some, slice_get-map}
use Rattle.eu_name.specs.declared.name.Part.{Part}
use Rattle.eu_name.specs.declared.name.Part.TheVariants as parts
use Rattle.model_core.specs.declared.class.Object.{Object}
use Rattle.model_core.specs.declared.class.Pred.{Pred}
use Rattle.model_core.specs.declared.model.Model.{Model}
use Rattle.model_core.specs.declared.variable.ValueKind.TheVariants as value_kinds
use Rattle.model_core.specs.declared.variable.VarDecl.{VarDecl}
use Rattle.model_core.specs.Kinds.{IsPartOfKind, IsValueOf}
use Rattle.model_core.proofs.Items.{item_all}
use Rattle.model_rules.specs.Rules.{IsBaseOfClass}
use Rattle.nddl_ast.specs.declared.declaration.FileDecls.{FileDecls}
use Rattle.nddl_hierarchy.specs.Facts.{Facts}
use Rattle.nddl_types.specs.declared.table.TypeTable.{TypeTable}
use Rattle.nddl_types.specs.Classes.{class_number}
use Rattle.nddl_types.specs.Table.{IsTable}
use Rattle.nddl_construction.specs.declared.made.MadeObject.{MadeObject}
use Rattle.nddl_objects.specs.Modelled.{modelled_object}
use Rattle.nddl_terms.specs.PlainTree.{PlainTree}
use Rattle.nddl_terms.specs.declared.lexicon.Attribute.{Attribute}
use Rattle.nddl_terms.specs.declared.lexicon.Lexicon.{Lexicon}
use Rattle.nddl_terms.specs.declared.lexicon.PredShape.{PredShape}
use Rattle.nddl_terms.specs.Lexicon.{attribute_number, class_objects, part_called, part_kind, pred_params, shape_fields}
use Rattle.nddl_terms.specs.Paths.{known_value}
use Rattle.nddl_lower.specs.Slots.{class_base}
use Rattle.nddl_env.specs.Lexicons.{pred_shapes}
use Rattle.nddl_rules.specs.Told.{AreFileTrees}
use Rattle.nddl_instance.specs.Modelled.{attribute_variable, attribute_variables, modelled_class}
use Rattle.nddl_problem.specs.Compiled.{compiled_model, problem_fault}
use Rattle.nddl_problem.specs.Known.{Known, known_by, lexicon_known, objects_known, progress_known, world_known}
use Rattle.nddl_laws.specs.Given.{AreGiven}
use Rattle.nddl_rule_laws.proofs.Owners.{position_is}
use Rattle.nddl_lowering_laws.specs.Slots.{HasPredsOf}
use Rattle.nddl_model_laws.specs.Faultless.{IsFaultless}
use Rattle.nddl_model_laws.specs.Valued.{HasFieldValues}
use Rattle.nddl_model_laws.proofs.Grounds.{known_are, known_decls, table_enums, table_lawful, table_preds}
use Rattle.nddl_model_laws.proofs.Listed.{pred_at, ruled}
use Rattle.nddl_model_laws.proofs.Making.{made_right}
use Rattle.nddl_model_laws.proofs.Placed.{class_there}
use Rattle.nddl_model_laws.proofs.Tabled.{zip_at}
use Rattle.nddl_model_laws.proofs.Tables.{known_class}
use Rattle.nddl_model_laws.proofs.Valued.{all_values}
use Rattle.nddl_model_laws.proofs.Wide.{IsShaped, all_shaped}
use Rattle.nddl_whole_laws.proofs.Belonging.{IsMadeOf, class_listed, known_is, object_at, own_at, zip_back}
use Rattle.nddl_whole_laws.proofs.Climbing.{class_base_right}

module _ (files : List FileDecls) (table : TypeTable) (trees : List PlainTree) (given : AreGiven files) (is : IsTable files table)
    (are_trees : AreFileTrees table files trees) (fine : problem_fault (known_by files is.facts table trees) ≡ None) where
  abbrev known : Known
  known = known_by files is.facts table trees

  abbrev faultless : IsFaultless known
  faultless = record { given = given; is_table = is; are_trees = are_trees; are = is.are; fine = fine }

  abbrev facts : Facts
  facts = is.facts

  abbrev model : Model
  model = compiled_model known

  abbrev lexicon : Lexicon
  lexicon = lexicon_known known

  abbrev objects : List Object
  objects = objects_known known

  abbrev made : List MadeObject
  made = (progress_known known).so_far.objects

  -- ---- objects and what they have

  pub value_there : (class : ℕ) (value : ℤ) → Contains (class_objects lexicon class) value → IsValueOf model value_kinds.Object value
  value_there class value has =
      let M : MadeObject → Object = modelled_object facts table.classes in
      let one = class_listed files table trees given is are_trees fine class value has in
      let at : IsMadeOf facts one.0.class made value = object_at facts one.0.class made value one.1 in
      (M at.object, (at.number, at.value_is, slice_get-map M made at.number ∙ ap (option_map M) at.there))

  pub content_right : (class number : ℕ) (value content : ℤ) (attribute : Attribute) → Contains (class_objects lexicon class) value
      → slice_get (shape_fields lexicon class) number ≡ Some attribute → known_value objects value number ≡ Some content
      → IsValueOf model attribute.shape.kind content
  content_right class number value content attribute has field told =
      let M : MadeObject → Object = modelled_object facts table.classes in
      let own = own_at files table trees given is are_trees fine class number value attribute has field in
      let object : MadeObject = own.object in
      let place = class_number facts.names object.class in
      let shape = shape_fields lexicon place in
      let found = class_there known faultless object.class own.meant in
      let class_is = known_class known faultless place found.0 found.1 in
      let there : slice_get objects own.place ≡ Some (M object) = slice_get-map M made own.place ∙ ap (option_map M) own.there in
      let values = item_all (HasFieldValues model) objects own.place (M object) (all_values known faultless) there (modelled_class lexicon place found.0) class_is in
      let here : slice_get (attribute_variables shape) number ≡ Some (attribute_variable attribute) =
      slice_get-map attribute_variable shape number ∙ ap (option_map attribute_variable) own.field in
      let one = zip_at (λ (variable : VarDecl) (one : ℤ). IsValueOf model variable.kind one) (attribute_variables shape) (M object).fields number
      (attribute_variable attribute) values here in
      let known_there = known_is files table trees given is are_trees fine number own.place value object own.value_is own.there in
      let same : one.0 ≡ content = same_Some one.0 content (sym one.1 ∙ (sym known_there ∙ told)) in
      subst (IsValueOf model attribute.shape.kind) same one.2

  -- ---- predicates

  shaped : AllZip (IsShaped model) table.preds (pred_shapes (world_known known))
  shaped =
      let right = made_right facts (known_decls known faultless) (known_are known faultless).is_names in
      subst (λ (preds : List Pred). AllZip (IsShaped model) preds (pred_shapes (world_known known))) (sym (table_preds known faultless))
      (all_shaped facts (known_are known faultless) (known_decls known faultless) table.enums (table_enums known faultless) (table_lawful known faultless)
      (progress_known known).named_objects made right.few right.there model (sym (table_enums known faultless))
      (length-map made (modelled_object facts table.classes)))

  -- the model has the predicate of a shape
  pub record HasShape (number : ℕ) (shape : PredShape) : Type 0 where
    pub pred : Pred
    pub there : slice_get model.preds number ≡ Some pred
    pub class_is : pred.class ≡ shape.class
    pub params : pred.params ≡ attribute_variables (pred_params lexicon number)

  pub has_shape : (pred : ℕ) (shape : PredShape) → slice_get lexicon.preds pred ≡ Some shape → HasShape pred shape
  has_shape pred shape at =
      let it = zip_back (IsShaped model) table.preds (pred_shapes (world_known known)) pred shape shaped at in
      record {
        pred = ruled lexicon trees pred it.0;
        there = pred_at lexicon trees pred table.preds ∙ ap (option_map (ruled lexicon trees pred)) it.1;
        class_is = it.2.class;
        params = refl;
      }

  pub preds_there : HasPredsOf model lexicon
  preds_there pred shape at =
      let it = has_shape pred shape at in
      record {
        found = it.pred;
        is_pred = it.there;
        objects = subst (λ (n : ℕ). IsBaseOfClass model n (class_base lexicon shape.class)) (sym it.class_is)
            (class_base_right files table trees given is are_trees fine shape.class);
      }

  -- ---- parts of tokens

  abbrev IsRightPart : ℕ → Part → Type 0
  IsRightPart pred part = IsPartOfKind model pred (part_kind lexicon pred part) part

  param_right : (pred number : ℕ) (attribute : Attribute) → slice_get (pred_params lexicon pred) number ≡ Some attribute
      → IsRightPart pred (parts.Param number)
  param_right pred number attribute at = by (slice_get lexicon.preds pred) refl at
    where
      by : (o : Option PredShape) → slice_get lexicon.preds pred ≡ o
          → slice_get (option_map_or (λ (shape : PredShape). shape.params) o []) number ≡ Some attribute → IsRightPart pred (parts.Param number)
      by None there found = absurd (none-some attribute found)
      by (Some shape) there found =
          let it = has_shape pred shape there in (
            attribute_variable attribute,
            record {
              predicate = it.pred;
              is_predicate = it.there;
              declared = ap (λ (some : List VarDecl). slice_get some number) it.params
                  ∙ (slice_get-map attribute_variable (pred_params lexicon pred) number ∙ ap (option_map attribute_variable) at);
            },
            ap (λ (o : Option Attribute). option_map_or (λ (one : Attribute). one.shape.kind) o value_kinds.Int) at,
          )

  named_right : (pred : ℕ) (name : List ℕ) (o : Option ℕ) (part : Part) → attribute_number name (pred_params lexicon pred) ≡ o
      → option_map parts.Param o ≡ Some part → IsRightPart pred part
  named_right pred name None part at told = absurd (none-some part told)
  named_right pred name (Some number) part at told =
      let params = pred_params lexicon pred in
      let it = position_is (λ (attribute : Attribute). bytes_eq name attribute.name) params 0 number at in
      let e : it.0 ≡ number = (let sum : number ≡ 0 + it.0 = it.1 in omega arith) in
      subst (IsRightPart pred) (same_Some (parts.Param number) part told)
      (param_right pred number it.2.0 (ap (slice_get params) (sym e) ∙ it.2.1))

  pub part_right : (pred : ℕ) (name : List ℕ) (part : Part) → part_called lexicon pred name ≡ Some part
      → IsPartOfKind model pred (part_kind lexicon pred part) part
  part_right pred name part =
      by (bytes_eq name (codes "start")) (bytes_eq name (codes "end")) (bytes_eq name (codes "duration")) (bytes_eq name (codes "object"))
    where
      by : (start end duration object : Bool)
          → (if start then Some parts.Start
          else (if end then Some parts.End
          else (if duration then Some parts.Duration
          else (if object then Some parts.Object
          else option_map parts.Param (attribute_number name (pred_params lexicon pred)))))) ≡ Some part
          → IsRightPart pred part
      by true end duration object told = subst (IsRightPart pred) (same_Some parts.Start part told) refl
      by false true duration object told = subst (IsRightPart pred) (same_Some parts.End part told) refl
      by false false true object told = subst (IsRightPart pred) (same_Some parts.Duration part told) refl
      by false false false true told = subst (IsRightPart pred) (same_Some parts.Object part told) refl
      by false false false false told = named_right pred name (attribute_number name (pred_params lexicon pred)) part refl told
