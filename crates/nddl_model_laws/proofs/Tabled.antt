-- The classes and the predicates of a model are lawful.
use Rattle.std.proofs.Common.{◌≡◌, ◌≢◌, ℕ, zero, suc, ◌+◌, ◌<◌, ◌≤◌, List, [], ◌∷◌, ◌++◌, length, map, refl, sym, ◌∙◌, ap, subst, arith}
use Rattle.std.specs.Prelude.{Option, Some, None, All, AllPairs, Contains, slice_get, codes}
use Rattle.std.specs.List.{AllZip, filter_map, flat_map}
use Rattle.std.specs.Option.{option_map, option_map_or}
use Rattle.std.proofs.lemmas.List.{append-nil, map-append}
use Rattle.std.proofs.lemmas.List.Concat.{flat_map-append}
use Rattle.std.proofs.lemmas.Option.{same_Some, none-some, slice_get-map}
use Rattle.eu_name.specs.Word.{IsName}
use Rattle.eu_forest.specs.Lines.{StandsUnder}
use Rattle.model_core.specs.declared.class.Class.{Class}
use Rattle.model_core.specs.declared.class.Pred.{Pred}
use Rattle.model_core.specs.declared.model.Model.{Model}
use Rattle.model_core.specs.Kinds.{Climbs, IsParentClass}
use Rattle.model_core.specs.Lawful.{IsLawfulClass, IsLawfulPred, HasQuantity}
use Rattle.model_core.specs.Naming.{IsParameterName}
use Rattle.nddl_symbols.specs.declared.scope.Meaning.{Meaning}
use Rattle.nddl_symbols.specs.declared.scope.Meaning.TheVariants as meanings
use Rattle.nddl_symbols.specs.Names.{scope_names}
use Rattle.nddl_hierarchy.specs.Ancestors.{above}
use Rattle.nddl_hierarchy.specs.Decls.{members_of}
use Rattle.nddl_hierarchy.specs.Facts.{Facts}
use Rattle.nddl_hierarchy.specs.Lines.{parents_of}
use Rattle.nddl_declarations.specs.Known.{AreFacts}
use Rattle.nddl_declarations.specs.Faults.{all_faults}
use Rattle.nddl_types.specs.Classes.{builtin_class, builtin_fields, class_entries, classes_of, compiled_class, enums_of, given_fields, line_down, parent_number}
use Rattle.nddl_terms.specs.PlainTree.{PlainTree}
use Rattle.nddl_terms.specs.declared.lexicon.Attribute.{Attribute}
use Rattle.nddl_terms.specs.declared.lexicon.ClassShape.{ClassShape}
use Rattle.nddl_terms.specs.declared.lexicon.Lexicon.{Lexicon}
use Rattle.nddl_terms.specs.declared.lexicon.PredShape.{PredShape}
use Rattle.nddl_terms.specs.Lexicon.{pred_params, shape_fields}
use Rattle.nddl_env.specs.Lexicons.{class_shapes, entry_shape, pred_shapes}
use Rattle.nddl_env.specs.Shapes.{World, attributes_at, entry_attributes, member_attribute, number_attribute}
use Rattle.nddl_instance.specs.Modelled.{attribute_variable, attribute_variables, modelled_class, modelled_classes, modelled_preds}
use Rattle.nddl_laws.proofs.Circles.{class_is, number_is}
use Rattle.nddl_laws.proofs.Declared.{IsRightDecl}
use Rattle.nddl_laws.proofs.Down.{line_alone, line_below}
use Rattle.nddl_laws.proofs.Items.{rooted_of}
use Rattle.nddl_laws.proofs.Standing.{IsClassEntry, class_stands, no_parent, under_builtin, under_class}
use Rattle.nddl_laws.proofs.Variables.{builtin_right}
use Rattle.nddl_model_laws.specs.Ruled.{PredHasLawfulRules}
use Rattle.nddl_model_laws.proofs.Listed.{class_at, pred_at, ruled}
use Rattle.nddl_model_laws.proofs.Wide.{IsLike, IsShaped, like_long, like_names, like_rights, number_likes}

-- what stands at a place of the one list stands with what is at this place of the other
pub zip_at : {A B : Type 0} (R : A → B → Type 0) (xs : List A) (ys : List B) (k : ℕ) (x : A) → AllZip R xs ys → slice_get xs k ≡ Some x
    → (y : B) × (slice_get ys k ≡ Some y) × R x y
zip_at R [] ys k x all at = absurd (none-some x at)
zip_at R (a ∷ xs) [] k x all at = absurd all
zip_at {A} {B} R (a ∷ xs) (b ∷ ys) zero x all at =
    (b, refl, subst (λ (one : A). R one b) (same_Some a x at) all.0)
zip_at R (a ∷ xs) (b ∷ ys) (suc k) x all at = zip_at R xs ys k x all.1 at

-- ---- the shapes of classes

module _ (facts : Facts) (are : AreFacts (scope_names facts.program) facts.program facts) (fine : all_faults facts ≡ [])
    (right : All (IsRightDecl facts) facts.program) (world : World) (world_is : world.facts ≡ facts) (lexicon : Lexicon)
    (shapes : lexicon.classes ≡ class_shapes world) (table : Model) (classes_are : table.classes ≡ classes_of facts (enums_of facts.program)) where
  abbrev entries : List ℕ
  entries = class_entries facts.names 0 facts.names

  parents_are : facts.parents ≡ parents_of facts.names facts.program
  parents_are = are.is_parents ∙ ap (λ names. parents_of names facts.program) (sym are.is_names)

  fields_of_shape : (number : ℕ) (shape : ClassShape) → slice_get (class_shapes world) number ≡ Some shape → shape_fields lexicon number ≡ shape.fields
  fields_of_shape number shape at =
      ap (λ (o : Option ClassShape). option_map_or (λ (found : ClassShape). found.fields) o []) (ap (λ some. slice_get some number) shapes ∙ at)

  -- a built-in class has its numbers
  builtin_shape : (number : ℕ) → number < 4 → shape_fields lexicon number ≡ map number_attribute (builtin_fields number)
  builtin_shape zero few = fields_of_shape 0 (record { fields = map number_attribute (builtin_fields 0) }) refl
  builtin_shape (suc zero) few = fields_of_shape 1 (record { fields = map number_attribute (builtin_fields 1) }) refl
  builtin_shape (suc (suc zero)) few = fields_of_shape 2 (record { fields = map number_attribute (builtin_fields 2) }) refl
  builtin_shape (suc (suc (suc zero))) few = fields_of_shape 3 (record { fields = map number_attribute (builtin_fields 3) }) refl
  builtin_shape (suc (suc (suc (suc number)))) few = absurd (omega arith)

  -- and one of the files has what is declared
  own_shape : (place entry : ℕ) → slice_get entries place ≡ Some entry → shape_fields lexicon (4 + place) ≡ entry_attributes world entry
  own_shape place entry at =
      let e : suc (suc (suc (suc place))) ≡ 4 + place = omega arith in
      let P : ℕ → Type 0 = λ n. slice_get (class_shapes world) n ≡ Some (entry_shape world entry) in
      let listed : slice_get (class_entries world.facts.names 0 world.facts.names) place ≡ Some entry =
      ap (λ (f : Facts). slice_get (class_entries f.names 0 f.names) place) world_is ∙ at in
      fields_of_shape (4 + place) (entry_shape world entry)
      (subst P e (slice_get-map (entry_shape world) (class_entries world.facts.names 0 world.facts.names) place ∙ ap (option_map (entry_shape world)) listed))

  abbrev own_attributes : ℕ → List Attribute
  own_attributes entry = filter_map (member_attribute world) (members_of world.facts.names world.facts.program entry)

  abbrev given_attributes : Option Meaning → List Attribute
  given_attributes o = map number_attribute (given_fields o)

  line_same : (entry : ℕ) → line_down world.facts entry ≡ line_down facts entry
  line_same entry = ap (λ (f : Facts). line_down f entry) world_is

  above_same : (entry : ℕ) → above world.facts.names world.facts.program entry ≡ above facts.names facts.program entry
  above_same entry = ap (λ (f : Facts). above f.names f.program entry) world_is

  alone : (entry : ℕ) → slice_get facts.parents entry ≡ Some None
      → entry_attributes world entry ≡ given_attributes (above facts.names facts.program entry) ++ own_attributes entry
  alone entry none =
      ap (flat_map (attributes_at world)) (line_same entry ∙ line_alone facts.parents entry none)
      ∙ (append-nil (attributes_at world entry) ∙ ap (λ (o : Option Meaning). given_attributes o ++ own_attributes entry) (above_same entry))

  below : (entry other : ℕ) → IsClassEntry facts.names entry → above facts.names facts.program entry ≡ Some (meanings.Entry other) → StandsUnder facts.parents entry other
      → entry_attributes world entry ≡ entry_attributes world other ++ own_attributes entry
  below entry other is up under =
      let own : attributes_at world entry ≡ own_attributes entry =
      ap (λ (o : Option Meaning). given_attributes o ++ own_attributes entry) (above_same entry ∙ up) in
      ap (flat_map (attributes_at world)) (line_same entry ∙ line_below facts.parents entry other under (rooted_of facts are fine right entry is under))
      ∙ (flat_map-append (attributes_at world) (line_down facts other) (entry ∷ [])
      ∙ (λ i. flat_map (attributes_at world) (sym (line_same other) i) ++ (append-nil (attributes_at world entry) ∙ own) i))

  -- a class has first what the class that it extends has
  record HasOwn (number parent : ℕ) : Type 0 where
    own : List Attribute
    is : shape_fields lexicon number ≡ shape_fields lexicon parent ++ own

  entry_class : (place entry : ℕ) → slice_get entries place ≡ Some entry → IsClassEntry facts.names entry
  entry_class place entry at =
      let it = class_is facts (enums_of facts.program) table parents_are are.order are.lineage fine classes_are entry place at in
      record { declared = it.0; there = it.1; sort = it.2 }

  own_first : (place entry parent : ℕ) → slice_get entries place ≡ Some entry → parent_number facts.names (above facts.names facts.program entry) ≡ parent
      → HasOwn (4 + place) parent
  own_first place entry parent at number =
      let is = entry_class place entry at in
      elim (class_stands facts are fine entry is) [
        | no_parent up none ↦
            (let e : 0 ≡ parent = sym (ap (parent_number facts.names) up) ∙ number in
            subst (HasOwn (4 + place)) e (record {
              own = own_attributes entry;
              is = own_shape place entry at ∙ (alone entry none ∙ ((λ i. given_attributes (up i) ++ own_attributes entry)
                  ∙ ap (λ (some : List Attribute). some ++ own_attributes entry) (sym (builtin_shape 0 (omega arith)))));
            }))
        | under_builtin built few up none ↦
            (let e : built ≡ parent = sym (ap (parent_number facts.names) up) ∙ number in
            subst (HasOwn (4 + place)) e (record {
              own = own_attributes entry;
              is = own_shape place entry at ∙ (alone entry none ∙ ((λ i. given_attributes (up i) ++ own_attributes entry)
                  ∙ ap (λ (some : List Attribute). some ++ own_attributes entry) (sym (builtin_shape built few))));
            }))
        | under_class other up under class first decl declared there body ↦
            (let found = number_is facts (enums_of facts.program) table parents_are are.order are.lineage fine classes_are other class.declared class.there
            (first class.declared class.there) in
            let e : 4 + found.0 ≡ parent = sym found.2 ∙ (sym (ap (parent_number facts.names) up) ∙ number) in
            subst (HasOwn (4 + place)) e (record {
              own = own_attributes entry;
              is = own_shape place entry at ∙ (below entry other is up under
                  ∙ ap (λ (some : List Attribute). some ++ own_attributes entry) (sym (own_shape found.0 other found.1)));
            }))
      ]

  builtin_first : (number parent : ℕ) → number < 4 → parent ≡ 0 → HasOwn number parent
  builtin_first number parent few objects =
      subst (HasOwn number) (sym objects) (record {
        own = shape_fields lexicon number;
        is = ap (λ (some : List Attribute). some ++ shape_fields lexicon number) (sym (builtin_shape 0 (omega arith)));
      })

  -- what holds of the built-in classes and of those of the files
  each_class : (P : ℕ → Class → Type 0)
      → ((number : ℕ) (name : List ℕ) (o : Option ℕ) → number < 4 → ((parent : ℕ) → o ≡ Some parent → parent ≡ 0) → P number (builtin_class name o number))
      → ((place entry : ℕ) → slice_get entries place ≡ Some entry → P (4 + place) (compiled_class facts (enums_of facts.program) entry))
      → (number : ℕ) (class : Class) → slice_get table.classes number ≡ Some class → P number class
  each_class P built own number class is = by number (sym (ap (λ some. slice_get some number) classes_are) ∙ is)
    where
      objects : (parent : ℕ) → Some 0 ≡ Some parent → parent ≡ 0
      objects parent told = sym (same_Some 0 parent told)

      files : (place : ℕ) (o : Option ℕ) → slice_get entries place ≡ o → option_map (compiled_class facts (enums_of facts.program)) o ≡ Some class
          → P (4 + place) class
      files place None at found = absurd (none-some class found)
      files place (Some entry) at found =
          subst (P (4 + place)) (same_Some (compiled_class facts (enums_of facts.program) entry) class found) (own place entry at)

      by : (number : ℕ) → slice_get (classes_of facts (enums_of facts.program)) number ≡ Some class → P number class
      by zero found =
          subst (P 0) (same_Some (builtin_class (codes "Object") None 0) class found)
          (built 0 (codes "Object") None (omega arith) (λ parent told. absurd (none-some parent told)))
      by (suc zero) found =
          subst (P 1) (same_Some (builtin_class (codes "Timeline") (Some 0) 1) class found) (built 1 (codes "Timeline") (Some 0) (omega arith) objects)
      by (suc (suc zero)) found =
          subst (P 2) (same_Some (builtin_class (codes "Reusable") (Some 0) 2) class found) (built 2 (codes "Reusable") (Some 0) (omega arith) objects)
      by (suc (suc (suc zero))) found =
          subst (P 3) (same_Some (builtin_class (codes "Reservoir") (Some 0) 3) class found) (built 3 (codes "Reservoir") (Some 0) (omega arith) objects)
      by (suc (suc (suc (suc place)))) found =
          let e : 4 + place ≡ suc (suc (suc (suc place))) = omega arith in
          let Q : ℕ → Type 0 = λ n. P n class in
          subst Q e (files place (slice_get entries place) refl
          (sym (slice_get-map (compiled_class facts (enums_of facts.program)) entries place) ∙ found))

  first_of : (number : ℕ) (class : Class) → slice_get table.classes number ≡ Some class → (parent : ℕ) → class.parent ≡ Some parent → HasOwn number parent
  first_of =
      each_class (λ number class. (parent : ℕ) → class.parent ≡ Some parent → HasOwn number parent)
      (λ number name o few objects parent told. builtin_first number parent few (objects parent told))
      (λ place entry at parent told.
      own_first place entry parent at (same_Some (parent_number facts.names (above facts.names facts.program entry)) parent told))

  module _ (model : Model)
      (own_likes : (entry : ℕ) → AllZip (IsLike model) (compiled_class facts (enums_of facts.program) entry).fields (entry_attributes world entry)) where
    -- the fields of the class of this number
    pub fields_like : (number : ℕ) (class : Class) → slice_get table.classes number ≡ Some class → AllZip (IsLike model) class.fields (shape_fields lexicon number)
    fields_like =
        each_class (λ number class. AllZip (IsLike model) class.fields (shape_fields lexicon number))
        (λ number name o few objects. subst (AllZip (IsLike model) (builtin_fields number)) (sym (builtin_shape number few))
        (number_likes model (builtin_fields number) (builtin_right model number)))
        (λ place entry at. subst (AllZip (IsLike model) (compiled_class facts (enums_of facts.program) entry).fields) (sym (own_shape place entry at)) (own_likes entry))

    -- ---- classes

    module _ (modelled : model.classes ≡ modelled_classes lexicon 0 table.classes)
        (lawful : (number : ℕ) (class : Class) → slice_get table.classes number ≡ Some class → IsLawfulClass table number class) where
      pub model_class : (number : ℕ) (class : Class) → slice_get table.classes number ≡ Some class
          → slice_get model.classes number ≡ Some (modelled_class lexicon number class)
      model_class number class at =
          ap (λ some. slice_get some number) modelled ∙ (class_at lexicon number table.classes ∙ ap (option_map (modelled_class lexicon number)) at)

      table_class : (number : ℕ) (class : Class) → slice_get model.classes number ≡ Some class
          → (found : Class) × (slice_get table.classes number ≡ Some found) × (class ≡ modelled_class lexicon number found)
      table_class number class is =
          by (slice_get table.classes number) refl (sym (ap (λ some. slice_get some number) modelled ∙ class_at lexicon number table.classes) ∙ is)
        where
          by : (o : Option Class) → slice_get table.classes number ≡ o → option_map (modelled_class lexicon number) o ≡ Some class
              → (found : Class) × (slice_get table.classes number ≡ Some found) × (class ≡ modelled_class lexicon number found)
          by None at found = absurd (none-some class found)
          by (Some one) at found = (one, at, sym (same_Some (modelled_class lexicon number one) class found))

      parent_in_table : (number parent : ℕ) → IsParentClass model number parent → IsParentClass table number parent
      parent_in_table number parent is =
          let found = table_class number is.0 is.1 in
          (found.0, found.1, sym (ap (λ (c : Class). c.parent) found.2) ∙ is.2)

      climbs_in_table : (number : ℕ) (path : List ℕ) (top : ℕ) → Climbs model number path top → Climbs table number path top
      climbs_in_table number [] top climbs = climbs
      climbs_in_table number (parent ∷ path) top climbs = (parent_in_table number parent climbs.0, climbs_in_table parent path top climbs.1)

      class_lawful : (number : ℕ) (class : Class) → slice_get table.classes number ≡ Some class → IsLawfulClass model number (modelled_class lexicon number class)
      class_lawful number class at =
          let is = lawful number class at in
          let likes = fields_like number class at in
          let names = like_names model class.fields (shape_fields lexicon number) likes in
          record {
            name = is.name;
            extends = λ parent told.
                let over = is.extends parent told in
                let first = first_of number class at parent told in
                record {
                  above = modelled_class lexicon parent over.above;
                  own = attribute_variables first.own;
                  is_above = model_class parent over.above over.is_above;
                  fields = ap attribute_variables first.is ∙ map-append attribute_variable (shape_fields lexicon parent) first.own;
                };
            no_circle = λ parent told back. is.no_circle parent told (back.0, climbs_in_table parent back.0 number back.1);
            fields = like_rights model class.fields (shape_fields lexicon number) likes;
            names = subst (All IsName) names is.names;
            distinct = subst (AllPairs ◌≢◌) names is.distinct;
          }

      pub classes_lawful : (number : ℕ) (class : Class) → slice_get model.classes number ≡ Some class → IsLawfulClass model number class
      classes_lawful number class is =
          let found = table_class number class is in
          subst (IsLawfulClass model number) (sym found.2) (class_lawful number found.0 found.1)

      -- ---- predicates

      module _ (trees : List PlainTree) (ruled_are : model.preds ≡ modelled_preds lexicon trees 0 table.preds)
          (pred_shapes_are : lexicon.preds ≡ pred_shapes world) (shaped : AllZip (IsShaped model) table.preds (pred_shapes world))
          (preds_lawful : (number : ℕ) (pred : Pred) → slice_get table.preds number ≡ Some pred → IsLawfulPred table number pred) where
        pub model_pred : (number : ℕ) (pred : Pred) → slice_get table.preds number ≡ Some pred → slice_get model.preds number ≡ Some (ruled lexicon trees number pred)
        model_pred number pred at =
            ap (λ some. slice_get some number) ruled_are ∙ (pred_at lexicon trees number table.preds ∙ ap (option_map (ruled lexicon trees number)) at)

        pub table_pred : (number : ℕ) (pred : Pred) → slice_get model.preds number ≡ Some pred
            → (found : Pred) × (slice_get table.preds number ≡ Some found) × (pred ≡ ruled lexicon trees number found)
        table_pred number pred is =
            by (slice_get table.preds number) refl (sym (ap (λ some. slice_get some number) ruled_are ∙ pred_at lexicon trees number table.preds) ∙ is)
          where
            by : (o : Option Pred) → slice_get table.preds number ≡ o → option_map (ruled lexicon trees number) o ≡ Some pred
                → (found : Pred) × (slice_get table.preds number ≡ Some found) × (pred ≡ ruled lexicon trees number found)
            by None at found = absurd (none-some pred found)
            by (Some one) at found = (one, at, sym (same_Some (ruled lexicon trees number one) pred found))

        params_are : (number : ℕ) (shape : PredShape) → slice_get (pred_shapes world) number ≡ Some shape → pred_params lexicon number ≡ shape.params
        params_are number shape at =
            ap (λ (o : Option PredShape). option_map_or (λ (found : PredShape). found.params) o []) (ap (λ some. slice_get some number) pred_shapes_are ∙ at)

        pred_lawful : (number : ℕ) (pred : Pred) → slice_get table.preds number ≡ Some pred
            → PredHasLawfulRules model number (ruled lexicon trees number pred) → IsLawfulPred model number (ruled lexicon trees number pred)
        pred_lawful number pred at rules =
            let is = preds_lawful number pred at in
            let found = zip_at (IsShaped model) table.preds (pred_shapes world) number pred shaped at in
            let params = sym (params_are number found.0 found.1) in
            let likes : AllZip (IsLike model) pred.params (pred_params lexicon number) =
            subst (AllZip (IsLike model) pred.params) params found.2.params in
            let names = like_names model pred.params (pred_params lexicon number) likes in
            let fields = fields_like pred.class is.class is.is_class in
            let field_names = like_names model is.class.fields (shape_fields lexicon pred.class) fields in
            let long : length (attribute_variables (pred_params lexicon number)) ≡ length pred.params =
            like_long model pred.params (pred_params lexicon number) likes in
            record {
              name = is.name;
              class = modelled_class lexicon pred.class is.class;
              is_class = model_class pred.class is.class is.is_class;
              no_field = λ has. is.no_field (subst (λ (some : List (List ℕ)). Contains some pred.name) (sym field_names) has);
              params = like_rights model pred.params (pred_params lexicon number) likes;
              few_params = (let few : length pred.params ≤ 32 = is.few_params in omega arith);
              names = subst (All IsParameterName) names is.names;
              distinct = subst (AllPairs ◌≢◌) names is.distinct;
              quantity = subst (λ (some : List Attribute). HasQuantity pred.kind (attribute_variables some)) params found.2.quantity;
              rules = rules.rules;
              are_rules = rules.are_rules;
              few = rules.few;
              lawful = rules.lawful;
            }

        pub all_preds_lawful : ((number : ℕ) (pred : Pred) → slice_get model.preds number ≡ Some pred → PredHasLawfulRules model number pred)
            → (number : ℕ) (pred : Pred) → slice_get model.preds number ≡ Some pred → IsLawfulPred model number pred
        all_preds_lawful rules number pred is =
            let found = table_pred number pred is in
            let own = rules number (ruled lexicon trees number found.0) (model_pred number found.0 found.1) in
            subst (IsLawfulPred model number) (sym found.2) (pred_lawful number found.0 found.1 own)
