-- A model with a table and nothing beside it is lawful.
use Rattle.std.proofs.Common.{◌≡◌, ◌≢◌, ℕ, ◌<◌, ◌≤◌, ◌^◌, List, [], ◌∷◌, ◌++◌, length, map, Bool, true, false, refl, sym, ◌∙◌, ap, subst, arith}
use Rattle.std.specs.Prelude.{Option, Some, None, All, AllPairs, Contains, slice_get, codes, count_by}
use Rattle.std.specs.List.{AllByRecursion, filter_map, flat_map, cons_option}
use Rattle.std.proofs.lemmas.List.Elements.{All-nil, All-contains, All-from_recursion}
use Rattle.std.proofs.lemmas.Option.{none-some}
use Rattle.model_core.specs.declared.class.Class.{Class}
use Rattle.model_core.specs.declared.class.Enum.{Enum}
use Rattle.model_core.specs.declared.class.Object.{Object}
use Rattle.model_core.specs.declared.model.Model.{Model}
use Rattle.model_core.specs.declared.model.Placed.{Placed}
use Rattle.model_core.specs.declared.model.Root.{Root}
use Rattle.model_core.specs.Kinds.{OfProblem}
use Rattle.model_core.specs.Lawful.{IsHorizon, IsLawful, IsLawfulDecision, IsLawfulItem, IsLawfulObject, IsLawfulRoot, IsLawfulVariable, is_fact}
use Rattle.model_core.specs.Naming.{builtin_names, declared_names, file_names, names_of}
use Rattle.model_core.proofs.Words.{differing}
use Rattle.nddl_ast.specs.declared.declaration.FileDecls.{FileDecls}
use Rattle.nddl_symbols.specs.Joined.{decl_in, joined_decls, joined_sites}
use Rattle.nddl_symbols.specs.declared.declared.Sort.{Sort}
use Rattle.nddl_symbols.specs.declared.declared.Sort.TheVariants as sorts
use Rattle.nddl_symbols.specs.Names.{is_class_sort, scope_names}
use Rattle.nddl_hierarchy.specs.Facts.{Facts}
use Rattle.nddl_declarations.specs.Faults.{all_faults}
use Rattle.nddl_types.specs.Classes.{class_entries, compiled_class, enum_of, enums_of, name_of_entry}
use Rattle.nddl_laws.proofs.Few.{joins_few}
use Rattle.nddl_types.specs.declared.table.TypeTable.{TypeTable}
use Rattle.nddl_laws.specs.Tables.{HasTable, HasNothingElse}
use Rattle.nddl_laws.proofs.Apart.{AreOnce, all_append, all_both, all_weaker, once_append, once_pairs, pairs_once}
use Rattle.nddl_laws.proofs.Classed.{lawful_classes}
use Rattle.nddl_laws.proofs.Declared.{lawful_enums}
use Rattle.nddl_laws.proofs.Listed.{differing_preds, lawful_preds}
use Rattle.nddl_laws.proofs.Named.{IsOwnClass, all_classes, class_texts, classes_once, cross_so, entries, enum_texts, enums_named, is_enum_sort, is_member_sort, member_texts, members_named, name_is, named_so, no_class_so, not_builtin, once_so, so_not_builtin, whole}

kept_few : {X Y : Type 0} (f : X → Option Y) (xs : List X) → length (filter_map f xs) ≤ length xs
kept_few f [] = omega arith
kept_few {X} {Y} f (x ∷ xs) = by (f x) (kept_few f xs)
  where
    by : (o : Option Y) → length (filter_map f xs) ≤ length xs → length (cons_option o (filter_map f xs)) ≤ length (x ∷ xs)
    by None rest = omega arith
    by (Some y) rest = omega arith

enum_no_class : (sort : Sort) → is_enum_sort sort ≡ true → is_class_sort sort ≡ false
enum_no_class (sorts.Enum number) is = refl
enum_no_class sort is = absurd (cc)

member_no_class : (sort : Sort) → is_member_sort sort ≡ true → is_class_sort sort ≡ false
member_no_class (sorts.Member of place) is = refl
member_no_class sort is = absurd (cc)

no_both : (sort : Sort) → is_enum_sort sort ≡ true → is_member_sort sort ≡ true → ⊥
no_both (sorts.Enum number) is also = cc
no_both sort is also = cc

-- the names of the built-in classes
abbrev builtin_texts : List (List ℕ)
builtin_texts = codes "Object" ∷ codes "Timeline" ∷ codes "Reusable" ∷ codes "Reservoir" ∷ []

of_builtin : (name : List ℕ) → AllByRecursion (λ word. name ≢ word) builtin_names → AllByRecursion (λ word. name ≢ word) builtin_texts
of_builtin name all = (all.0, (all.1.0, (all.1.1.0, (all.1.1.1.0, tt))))

module _ (facts : Facts) (fine : all_faults facts ≡ []) where
  abbrev others : List (List ℕ)
  others = builtin_texts ++ class_texts facts fine (entries facts fine)

  classes_differ : AreOnce others
  classes_differ =
      once_append builtin_texts (class_texts facts fine (entries facts fine)) (pairs_once builtin_texts (differing builtin_texts refl))
      (classes_once facts fine 0 facts.names (whole facts fine)) (
        each (codes "Object") (λ entry is all. all.0),
        (
          each (codes "Timeline") (λ entry is all. all.1.0),
          (each (codes "Reusable") (λ entry is all. all.1.1.0), (each (codes "Reservoir") (λ entry is all. all.1.1.1.0), tt)),
        ),
      )
    where
      each : (word : List ℕ)
          → ((entry : ℕ) (is : IsOwnClass facts fine entry) → AllByRecursion (λ other. is.declared.name ≢ other) builtin_names → is.declared.name ≢ word)
          → AllByRecursion (λ name. word ≢ name) (class_texts facts fine (entries facts fine))
      each word differs =
          all_classes facts fine (λ name. word ≢ name) 0 facts.names (whole facts fine)
          (λ entry less is same. differs entry is (not_builtin facts fine entry is.declared is.there) (sym (same ∙ name_is facts fine entry is)))

  -- names of one sort differ from those of classes
  sort_differs : (test : Sort → Bool) → ((sort : Sort) → test sort ≡ true → is_class_sort sort ≡ false)
      → AllByRecursion (λ a. AllByRecursion (λ b. a ≢ b) others) (filter_map (named_so test) facts.names)
  sort_differs test first =
      let some = filter_map (named_so test) facts.names in
      let classes = class_texts facts fine (entries facts fine) in
      all_weaker (λ a. AllByRecursion (λ b. a ≢ b) builtin_names × AllByRecursion (λ b. a ≢ b) classes) (λ a. AllByRecursion (λ b. a ≢ b) others) some
      (λ a both. all_append (λ b. a ≢ b) builtin_texts classes (of_builtin a both.0) both.1)
      (all_both (λ a. AllByRecursion (λ b. a ≢ b) builtin_names) (λ a. AllByRecursion (λ b. a ≢ b) classes) some
      (so_not_builtin facts fine test 0 facts.names (whole facts fine)) (no_class_so facts fine test first 0 facts.names (whole facts fine)))

  all_once : AreOnce ((enum_texts facts.names ++ member_texts facts.names) ++ others)
  all_once =
      once_append (enum_texts facts.names ++ member_texts facts.names) others
      (once_append (enum_texts facts.names) (member_texts facts.names)
      (once_so facts fine is_enum_sort enum_no_class 0 facts.names (whole facts fine))
      (once_so facts fine is_member_sort member_no_class 0 facts.names (whole facts fine))
      (cross_so facts fine is_enum_sort is_member_sort enum_no_class member_no_class no_both 0 facts.names (whole facts fine)))
      classes_differ
      (all_append (λ a. AllByRecursion (λ b. a ≢ b) others) (enum_texts facts.names) (member_texts facts.names)
      (sort_differs is_enum_sort enum_no_class) (sort_differs is_member_sort member_no_class))

  none_builtin : AllByRecursion (λ a. AllByRecursion (λ word. a ≢ word) builtin_names) (enum_texts facts.names ++ member_texts facts.names)
  none_builtin =
      all_append (λ a. AllByRecursion (λ word. a ≢ word) builtin_names) (enum_texts facts.names) (member_texts facts.names)
      (so_not_builtin facts fine is_enum_sort 0 facts.names (whole facts fine)) (so_not_builtin facts fine is_member_sort 0 facts.names (whole facts fine))

own_names : (facts : Facts) (enums : List Enum) (some : List ℕ)
    → map (λ (class : Class). class.name) (map (compiled_class facts enums) some) ≡ map (name_of_entry facts.names) some
own_names facts enums [] = refl
own_names facts enums (entry ∷ more) = ap (λ rest. name_of_entry facts.names entry ∷ rest) (own_names facts enums more)

module _ (files : List FileDecls) (table : TypeTable) (model : Model) (has : HasTable files table model) (bare : HasNothingElse model) where
  abbrev known : Facts
  known = has.is_table.facts

  names_are : known.names ≡ scope_names known.program
  names_are = has.is_table.are.is_names ∙ ap scope_names (sym has.is_table.are.is_program)

  enums_are : model.enums ≡ enums_of known.program
  enums_are = has.enums ∙ has.is_table.entries.enums_are

  declared_are : declared_names model ≡ enum_texts known.names ++ member_texts known.names
  declared_are =
      (λ i. names_of (bare.globals i) ++ (map (λ (root : Root). root.label) (bare.roots i) ++ (map (λ (object : Object). object.name) (bare.objects i)
      ++ (map (λ (one : Enum). one.name) (enums_are i) ++ flat_map (λ (one : Enum). one.members) (enums_are i)))))
      ∙ (λ i. (sym (enums_named 0 0 known.program) ∙ ap enum_texts (sym names_are)) i ++ (sym (members_named 0 0 known.program) ∙ ap member_texts (sym names_are)) i)

  classes_are : map (λ (class : Class). class.name) model.classes ≡ others known has.is_table.fine
  classes_are =
      ap (map (λ (class : Class). class.name)) (has.classes ∙ has.is_table.entries.others.classes_are)
      ∙ ap (λ rest. builtin_texts ++ rest) (own_names known table.enums (class_entries known.names 0 known.names))

  distinct : AllPairs ◌≢◌ (file_names model)
  distinct =
      subst (AllPairs ◌≢◌) (sym (λ i. declared_are i ++ classes_are i))
      (once_pairs ((enum_texts known.names ++ member_texts known.names) ++ others known has.is_table.fine) (all_once known has.is_table.fine))

  not_own : All (λ name. Contains builtin_names name → ⊥) (declared_names model)
  not_own =
      subst (All (λ name. Contains builtin_names name → ⊥)) (sym declared_are)
      (All-from_recursion (λ name. Contains builtin_names name → ⊥) (enum_texts known.names ++ member_texts known.names)
      (all_weaker (λ a. AllByRecursion (λ word. a ≢ word) builtin_names) (λ name. Contains builtin_names name → ⊥) (enum_texts known.names ++ member_texts known.names)
      (λ name all there. All-contains (λ word. name ≢ word) builtin_names name (All-from_recursion (λ word. name ≢ word) builtin_names all) there refl)
      (none_builtin known has.is_table.fine)))

  few_enums : length model.enums < 2 ^ 32
  few_enums =
      let joined : length (joined_sites files) ≤ 67108864 = joins_few files has.given in
      let decls : length (joined_decls files) ≤ length (joined_sites files) = kept_few (decl_in files) (joined_sites files) in
      let enums : length (enums_of known.program) ≤ length known.program = kept_few enum_of known.program in
      let same = ap length enums_are in
      let program = ap length has.is_table.are.is_program in
      omega arith

  pub bare_table : IsHorizon model.problem → IsLawful model
  bare_table horizon = record {
    horizon = horizon;
    few_enums = few_enums;
    few_classes = (let same = ap length has.classes in let few = has.is_table.entries.others.few_classes in omega arith);
    few_preds = (let same = ap length has.preds in let few = has.is_table.entries.others.few_preds in omega arith);
    few_rules = (let same = ap length bare.rules in omega arith);
    few_objects = (let same = ap length bare.objects in omega arith);
    few_roots = (let same = ap length bare.roots in omega arith);
    few_facts = (let P : List Root → Type 0 = λ roots. count_by (λ (root : Root). is_fact root.kind) roots ≤ 512 in subst P (sym bare.roots) (omega arith));
    few_globals = (let same = ap length bare.globals in omega arith);
    few_items = (let same = ap length bare.items in omega arith);
    enums = lawful_enums files table model has;
    classes = lawful_classes files table model has;
    objects = subst (All (IsLawfulObject model)) (sym bare.objects) (All-nil (IsLawfulObject model));
    preds = lawful_preds files table model has;
    pred_names = differing_preds files table model has;
    roots = subst (All (IsLawfulRoot model)) (sym bare.roots) (All-nil (IsLawfulRoot model));
    globals = subst (All (IsLawfulVariable model)) (sym bare.globals) (All-nil (IsLawfulVariable model));
    items = subst (All (IsLawfulItem model OfProblem)) (sym bare.items) (All-nil (IsLawfulItem model OfProblem));
    decisions = subst (All (λ (placed : Placed). IsLawfulDecision model placed.decision)) (sym bare.decisions)
        (All-nil (λ (placed : Placed). IsLawfulDecision model placed.decision));
    names = λ number variable is.
        let none : slice_get model.problem.globals number ≡ None = ap (λ some. slice_get some number) bare.globals in
        absurd (none-some variable (sym none ∙ is));
    not_builtin = not_own;
    distinct = distinct;
  }

-- a table is lawful as far as it goes
pub bare_lawful : (files : List FileDecls) (table : TypeTable) (model : Model) → HasTable files table model → HasNothingElse model → IsHorizon model.problem → IsLawful model
bare_lawful files table model has bare horizon = bare_table files table model has bare horizon
