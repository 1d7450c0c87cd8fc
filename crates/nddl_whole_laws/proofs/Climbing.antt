-- The objects of a class of the files are of this class in their model.
use Rattle.std.proofs.Common.{◌≡◌, ℕ, zero, suc, ◌<◌, ◌≤◌, Bool, true, false, ◌||◌, inl, inr, List, [], ◌∷◌, length, get_or, ℤ, refl, sym, ◌∙◌, ap, subst, arith}
use Rattle.std.specs.Prelude.{Option, Some, None, Contains, slice_get, codes}
use Rattle.std.specs.Option.{option_map, option_map_or}
use Rattle.std.proofs.lemmas.List.{length-map}
use Rattle.std.proofs.lemmas.List.Elements.{All-cons, All-nil, Contains-get_or}
use Rattle.std.proofs.lemmas.Option.{same_Some, none-some, slice_get-map, slice_get_within}
use Rattle.eu_forest.specs.Ancestors.{ancestry}
use Rattle.model_core.specs.declared.class.Class.{Class}
use Rattle.model_core.specs.declared.class.Object.{Object}
use Rattle.model_core.specs.declared.model.Model.{Model}
use Rattle.model_core.specs.Kinds.{AreObjectsOf, IsObjectOf, IsParentClass, IsUnder}
use Rattle.model_core.proofs.Items.{item_all}
use Rattle.model_rules.specs.Rules.{IsBaseOfClass}
use Rattle.nddl_ast.specs.declared.declaration.FileDecls.{FileDecls}
use Rattle.nddl_symbols.specs.declared.scope.Meaning.{Meaning}
use Rattle.nddl_symbols.specs.declared.scope.Meaning.TheVariants as meanings
use Rattle.nddl_hierarchy.specs.Ancestors.{above, is_every, is_extended, is_same_meaning, means}
use Rattle.nddl_hierarchy.specs.Facts.{Facts}
use Rattle.nddl_declarations.specs.Domains.{numbers_base}
use Rattle.nddl_declarations.proofs.Placing.{ascending_has}
use Rattle.nddl_types.specs.declared.table.TypeTable.{TypeTable}
use Rattle.nddl_types.specs.Classes.{builtin_class, class_entries, class_number, compiled_class, enums_of, parent_number}
use Rattle.nddl_types.specs.Table.{IsTable}
use Rattle.nddl_constructors.specs.Creations.{is_of_class}
use Rattle.nddl_construction.specs.declared.made.MadeObject.{MadeObject}
use Rattle.nddl_objects.specs.Modelled.{modelled_object}
use Rattle.nddl_terms.specs.PlainTree.{PlainTree}
use Rattle.nddl_terms.specs.declared.lexicon.Lexicon.{Lexicon}
use Rattle.nddl_terms.specs.Lexicon.{class_objects}
use Rattle.nddl_lower.specs.Slots.{class_base}
use Rattle.nddl_env.specs.Listing.{entry_population}
use Rattle.nddl_rules.specs.Told.{AreFileTrees}
use Rattle.nddl_instance.specs.Modelled.{modelled_class}
use Rattle.nddl_problem.specs.Compiled.{compiled_model, problem_fault}
use Rattle.nddl_problem.specs.Known.{Known, known_by, lexicon_known, progress_known}
use Rattle.nddl_laws.specs.Given.{AreGiven}
use Rattle.nddl_laws.proofs.Standing.{IsClassEntry, class_stands, no_parent, under_builtin, under_class}
use Rattle.nddl_rule_laws.proofs.Classes as classes
use Rattle.nddl_rule_laws.proofs.Classes.{IsKnown, IsPlaced, entry_number}
use Rattle.nddl_rule_laws.proofs.TypeKinds.{IsThere, entry_there}
use Rattle.nddl_model_laws.specs.Faultless.{IsFaultless}
use Rattle.nddl_model_laws.proofs.Fielded.{or_cases}
use Rattle.nddl_model_laws.proofs.Grounds.{known_are, known_decls, known_fine, table_classes}
use Rattle.nddl_model_laws.proofs.Lined.{Lined, stands_over, stands_top, stands_under}
use Rattle.nddl_model_laws.proofs.Making.{IsNamedObject, made_right}
use Rattle.nddl_model_laws.proofs.Numbered.{IsNumberBelow, class_few, numbers_right}
use Rattle.nddl_model_laws.proofs.Tables.{known_class}
use Rattle.nddl_model_laws.proofs.Typing.{HasLine}
use Rattle.nddl_whole_laws.proofs.Belonging.{IsMadeOf, class_listed, line_of, meant_there, object_at}
use Rattle.nddl_whole_laws.proofs.Fronts.{same_meanings}
use Rattle.nddl_whole_laws.proofs.Known.{sound}

module _ (files : List FileDecls) (table : TypeTable) (trees : List PlainTree) (given : AreGiven files) (is : IsTable files table)
    (are_trees : AreFileTrees table files trees) (fine : problem_fault (known_by files is.facts table trees) ≡ None) where
  abbrev known : Known
  known = known_by files is.facts table trees

  abbrev faultless : IsFaultless known
  faultless = record { given = given; is_table = is; are_trees = are_trees; are = is.are; fine = fine }

  abbrev facts : Facts
  facts = is.facts

  abbrev model : Model
  model = compiled_model known

  abbrev lexicon : Lexicon
  lexicon = lexicon_known known

  abbrev made : List MadeObject
  made = (progress_known known).so_far.objects

  abbrev number_of : Meaning → ℕ
  number_of class = class_number facts.names class

  -- ---- what extends what

  -- a class extends the one that it extends in the table
  parent_is : (place parent : ℕ) (class : Class) → slice_get known.table.classes place ≡ Some class → class.parent ≡ Some parent
      → IsParentClass model place parent
  parent_is place parent class at extends = (modelled_class lexicon place class, known_class known faultless place class at, extends)

  -- all built-in classes but one extend that of objects
  builtin_under : (number : ℕ) → number < 4 → IsUnder model number 0
  builtin_under zero few = ([], refl)
  builtin_under (suc zero) few =
      (0 ∷ [], (parent_is 1 0 (builtin_class (codes "Timeline") (Some 0) 1) (ap (λ (some : List Class). slice_get some 1) (table_classes known faultless)) refl, refl))
  builtin_under (suc (suc zero)) few =
      (0 ∷ [], (parent_is 2 0 (builtin_class (codes "Reusable") (Some 0) 2) (ap (λ (some : List Class). slice_get some 2) (table_classes known faultless)) refl, refl))
  builtin_under (suc (suc (suc zero))) few =
      (0 ∷ [], (parent_is 3 0 (builtin_class (codes "Reservoir") (Some 0) 3) (ap (λ (some : List Class). slice_get some 3) (table_classes known faultless)) refl, refl))
  builtin_under (suc (suc (suc (suc number)))) few = absurd (omega arith)

  -- and one of the files the one that is named
  entry_extends : (entry parent : ℕ) → IsThere files table given is (meanings.Entry entry)
      → parent_number facts.names (above facts.names facts.program entry) ≡ parent → IsParentClass model (number_of (meanings.Entry entry)) parent
  entry_extends entry parent there named =
      let placed : IsPlaced files table given is (meanings.Entry entry) = subst (IsPlaced files table given is) there.1 there.0.placed in
      parent_is (number_of (meanings.Entry entry)) parent (compiled_class facts (enums_of facts.program) entry)
      (ap (slice_get table.classes) (entry_number files table given is placed.0 entry placed.1)
      ∙ classes.entry_there files table given is placed.0 entry placed.1)
      (ap (λ (n : ℕ). Some n) named)

  -- what is extended is there
  above_there : (entry other : ℕ) → IsClassEntry facts.names entry → above facts.names facts.program entry ≡ Some (meanings.Entry other)
      → IsThere files table given is (meanings.Entry other)
  above_there entry other one up = elim (class_stands facts (known_are known faultless) (known_fine known faultless) entry one) [
    | no_parent none at ↦ absurd (none-some (meanings.Entry other) (sym none ∙ up))
    | under_builtin number few to at ↦
        absurd (let e : meanings.BuiltIn number ≡ meanings.Entry other = same_Some (meanings.BuiltIn number) (meanings.Entry other) (sym to ∙ up) in cc)
    | under_class found to under class first decl declared there body ↦
        (let e : meanings.Entry found ≡ meanings.Entry other = same_Some (meanings.Entry found) (meanings.Entry other) (sym to ∙ up) in
        subst (IsThere files table given is) e
        (entry_there files table given is found class.declared class.there (first class.declared class.there)))
  ]

  -- ---- what is under what

  up_to : (class parent ancestor : ℕ) → IsParentClass model class parent → IsUnder model parent ancestor → IsUnder model class ancestor
  up_to class parent ancestor step rest = (parent ∷ rest.0, (step, rest.1))

  -- each class is under that of objects
  every : (levels entry : ℕ) → Lined facts levels entry → IsThere files table given is (meanings.Entry entry) → IsUnder model (number_of (meanings.Entry entry)) 0
  every zero entry line there = absurd line
  every (suc levels) entry (stands_top one up line items) there =
      up_to (number_of (meanings.Entry entry)) 0 0 (entry_extends entry 0 there (ap (parent_number facts.names) up)) ([], refl)
  every (suc levels) entry (stands_over number few one up line items apart) there =
      up_to (number_of (meanings.Entry entry)) number 0 (entry_extends entry number there (ap (parent_number facts.names) up)) (builtin_under number few)
  every (suc levels) entry (stands_under other one over up line items apart above_it) there =
      let parent = number_of (meanings.Entry other) in
      up_to (number_of (meanings.Entry entry)) parent 0 (entry_extends entry parent there (ap (parent_number facts.names) up))
      (every levels other above_it (above_there entry other one up))

  -- and under each that is extended along its line
  along : (levels entry : ℕ) → Lined facts levels entry → IsThere files table given is (meanings.Entry entry) → (class : Meaning)
      → is_extended facts.names facts.program class (ancestry facts.parents entry) ≡ true → IsUnder model (number_of (meanings.Entry entry)) (number_of class)
  along zero entry line there class extended = absurd line
  along (suc levels) entry (stands_top one up line items) there class extended =
      let never : false ≡ true = sym (ap (is_extended facts.names facts.program class) line ∙ ap (λ (m : Option Meaning). means class m || false) up) ∙ extended in
      absurd (cc)
  along (suc levels) entry (stands_over number few one up line items apart) there class extended =
      let first : (is_same_meaning class (meanings.BuiltIn number) || false) ≡ true =
      sym (ap (is_extended facts.names facts.program class) line ∙ ap (λ (m : Option Meaning). means class m || false) up) ∙ extended in
      let same = same_meanings class (meanings.BuiltIn number) (by (is_same_meaning class (meanings.BuiltIn number)) first) in
      up_to (number_of (meanings.Entry entry)) number (number_of class) (entry_extends entry number there (ap (parent_number facts.names) up))
      ([], ap number_of same)
    where
      by : (b : Bool) → (b || false) ≡ true → b ≡ true
      by true so = refl
      by false so = so
  along (suc levels) entry (stands_under other one over up line items apart above_it) there class extended =
      let parent = number_of (meanings.Entry other) in
      let first : (is_same_meaning class (meanings.Entry other) || is_extended facts.names facts.program class (ancestry facts.parents other)) ≡ true =
      sym (ap (is_extended facts.names facts.program class) line
      ∙ ap (λ (m : Option Meaning). means class m || is_extended facts.names facts.program class (ancestry facts.parents other)) up) ∙ extended in
      up_to (number_of (meanings.Entry entry)) parent (number_of class) (entry_extends entry parent there (ap (parent_number facts.names) up))
      (elim (or_cases (is_same_meaning class (meanings.Entry other)) (is_extended facts.names facts.program class (ancestry facts.parents other)) first) [
        | inl same ↦ ([], ap number_of (same_meanings class (meanings.Entry other) same))
        | inr further ↦ along levels other above_it (above_there entry other one up) class further
      ])

  -- so is what is of the class
  climbs : (class own : Meaning) → IsThere files table given is own → HasLine facts own → is_of_class facts class own ≡ true
      → IsUnder model (number_of own) (number_of class)
  climbs class (meanings.BuiltIn number) there line under =
      elim (or_cases (is_every class) (is_same_meaning class (meanings.BuiltIn number)) under) [
        | inl every_one ↦
            subst (IsUnder model number) (sym (ap number_of (same_meanings class (meanings.BuiltIn 0) every_one)))
            (builtin_under number (subst (IsKnown facts) there.1 there.0.known))
        | inr same ↦ ([], ap number_of (same_meanings class (meanings.BuiltIn number) same))
      ]
  climbs class (meanings.Entry entry) there line under =
      let found = line entry refl in
      let extended = is_extended facts.names facts.program class (ancestry facts.parents entry) in
      elim (or_cases (is_every class) (is_same_meaning class (meanings.Entry entry) || extended) under) [
        | inl every_one ↦
            subst (IsUnder model (number_of (meanings.Entry entry))) (sym (ap number_of (same_meanings class (meanings.BuiltIn 0) every_one)))
            (every found.0 entry found.1 there)
        | inr other ↦
            (elim (or_cases (is_same_meaning class (meanings.Entry entry)) extended other) [
              | inl same ↦ ([], ap number_of (same_meanings class (meanings.Entry entry) same))
              | inr further ↦ along found.0 entry found.1 there class further
            ])
      ]

  -- ---- objects

  pub of_class : (class : ℕ) (value : ℤ) → Contains (class_objects lexicon class) value → IsObjectOf model class value
  of_class class value has =
      let M : MadeObject → Object = modelled_object facts table.classes in
      let one = class_listed files table trees given is are_trees fine class value has in
      let at : IsMadeOf facts one.0.class made value = object_at facts one.0.class made value one.1 in
      let own = at.object.class in
      let meant = (item_all (IsNamedObject facts) made at.number at.object (sound known faultless).named at.there).class in
      let under = climbs one.0.class own (meant_there files table trees given is are_trees fine own meant)
      (line_of files table trees given is are_trees fine own meant) at.of in (
        M at.object,
        (at.number, at.value_is, slice_get-map M made at.number ∙ ap (option_map M) at.there),
        subst (IsUnder model (number_of own)) one.0.number_is under,
      )

  made_few : length made ≤ 4096
  made_few = (made_right facts (known_decls known faultless) (known_are known faultless).is_names).few

  few_so : (values : List ℤ) → length values ≤ length made → length values ≤ 4096
  few_so values most = omega (arith, most, made_few)

  class_objects_few : (class : ℕ) → length (class_objects lexicon class) ≤ 4096
  class_objects_few zero = few_so (class_objects lexicon 0) (class_few facts (meanings.BuiltIn 0) made)
  class_objects_few (suc zero) = few_so (class_objects lexicon 1) (class_few facts (meanings.BuiltIn 1) made)
  class_objects_few (suc (suc zero)) = few_so (class_objects lexicon 2) (class_few facts (meanings.BuiltIn 2) made)
  class_objects_few (suc (suc (suc zero))) = few_so (class_objects lexicon 3) (class_few facts (meanings.BuiltIn 3) made)
  class_objects_few (suc (suc (suc (suc place)))) =
      subst (λ (list : List ℤ). length list ≤ 4096)
      (sym (ap (λ (o : Option (List ℤ)). option_map_or (λ (list : List ℤ). list) o [])
      (slice_get-map (entry_population facts made) (class_entries facts.names 0 facts.names) place)))
      (by (slice_get (class_entries facts.names 0 facts.names) place))
    where
      by : (o : Option ℕ) → length (option_map_or (λ (list : List ℤ). list) (option_map (entry_population facts made) o) []) ≤ 4096
      by None = omega arith
      by (Some entry) = few_so (entry_population facts made entry) (class_few facts (meanings.Entry entry) made)

  below_count : (class : ℕ) (value : ℤ) → Contains (class_objects lexicon class) value → IsNumberBelow (length made) value
  below_count class value has =
      let one = class_listed files table trees given is are_trees fine class value has in
      let at : IsMadeOf facts one.0.class made value = object_at facts one.0.class made value one.1 in
      (at.number, at.value_is, slice_get_within made at.number at.object at.there)

  objects_in : (class : ℕ) (values : List ℤ) → ((value : ℤ) → Contains values value → IsObjectOf model class value)
      → AreObjectsOf model class (numbers_base values)
  objects_in class [] each = tt
  objects_in class (value ∷ more) each = λ one has. each one ((ascending_has (value ∷ more) one).0 has)

  -- what may be any object of a class is a lawful base of this class
  pub class_base_right : (class : ℕ) → IsBaseOfClass model class (class_base lexicon class)
  class_base_right class =
      let values = class_objects lexicon class in
      let right = numbers_right model (length made) (length-map made (modelled_object facts table.classes)) made_few values
      (λ k d within. below_count class (get_or values k d) (Contains-get_or values k d within)) (class_objects_few class) in
      record {
        base_is = right.0;
        inside = right.1;
        objects = objects_in class values (λ value has. of_class class value has);
      }

  -- so is that of one object of it
  pub listed_base_right : (class : ℕ) (value : ℤ) → Contains (class_objects lexicon class) value → IsBaseOfClass model class (numbers_base (value ∷ []))
  listed_base_right class value has =
      let right = numbers_right model (length made) (length-map made (modelled_object facts table.classes)) made_few (value ∷ [])
      (All-cons (IsNumberBelow (length made)) value [] (below_count class value has) (All-nil (IsNumberBelow (length made)))) (omega arith) in
      record {
        base_is = right.0;
        inside = right.1;
        objects = objects_in class (value ∷ []) (λ one there. subst (IsObjectOf model class) (only value one there) (of_class class value has));
      }
    where
      only : (value one : ℤ) → Contains (value ∷ []) one → value ≡ one
      only value one there = by there.0 there.1 there.2
        where
          by : (k : ℕ) → k < 1 → get_or (value ∷ []) k one ≡ one → value ≡ one
          by zero less same = same
          by (suc k) less same = absurd (omega arith)
