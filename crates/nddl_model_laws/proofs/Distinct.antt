-- The names of a compiled model differ, if those of its objects do.
use Rattle.std.proofs.Common.{◌≡◌, ◌≢◌, ℕ, suc, ◌+◌, ◌<◌, ◌≤◌, inl, inr, true, false, List, [], ◌∷◌, ◌++◌, length, map, refl, sym, ◌∙◌, ap, subst, append_assoc, length-append, arith}
use Rattle.std.specs.Prelude.{All, AllPairs, Contains, codes, decimal}
use Rattle.std.specs.List.{AllByRecursion, flat_map}
use Rattle.std.proofs.lemmas.Bool.Decides.{Decides-eqb}
use Rattle.std.proofs.lemmas.Fmt.{decimal_injective}
use Rattle.std.proofs.lemmas.List.{map-append}
use Rattle.std.proofs.lemmas.List.Elements.{All-append, All-contains, All-contains_itself, All-from_recursion, All-weaker, recursion_from_All}
use Rattle.eu_name.specs.Word.{IsName}
use Rattle.model_core.specs.declared.class.Class.{Class}
use Rattle.model_core.specs.declared.class.Enum.{Enum}
use Rattle.model_core.specs.declared.class.Object.{Object}
use Rattle.model_core.specs.declared.model.Root.{Root}
use Rattle.model_core.specs.declared.variable.VarDecl.{VarDecl}
use Rattle.model_core.specs.Naming.{builtin_names, file_names}
use Rattle.nddl_symbols.specs.declared.declared.Sort.{Sort}
use Rattle.nddl_symbols.specs.declared.declared.Sort.TheVariants as sorts
use Rattle.nddl_symbols.specs.Names.{is_class_sort}
use Rattle.nddl_hierarchy.specs.Facts.{Facts}
use Rattle.nddl_types.specs.Classes.{class_entries, compiled_class, enums_of, name_of_entry}
use Rattle.nddl_terms.specs.declared.lexicon.Lexicon.{Lexicon}
use Rattle.nddl_instance.specs.Modelled.{modelled_classes}
use Rattle.nddl_instance.specs.Posed.{outside_rules}
use Rattle.nddl_instance.specs.Renumbered.{field_globals}
use Rattle.nddl_instance.specs.Roots.{posted_roots}
use Rattle.nddl_laws.proofs.Apart.{AreOnce, once_append, once_pairs, pairs_once}
use Rattle.nddl_laws.proofs.Named.{all_classes, class_texts, entries, enum_texts, enums_named, is_enum_sort, is_member_sort, member_texts, members_named, name_is, no_class_so, whole}
use Rattle.nddl_problem.specs.Compiled.{compiled_model, posing_known}
use Rattle.nddl_problem.specs.Known.{Known, lexicon_known, world_known}
use Rattle.nddl_model_laws.specs.Faultless.{IsFaultless}
use Rattle.nddl_model_laws.proofs.Emptied.{emptied, emptied_lawful}
use Rattle.nddl_model_laws.proofs.Foreign.{fields_marked, globals, locals, object_names}
use Rattle.nddl_model_laws.proofs.Grounds.{known_are, known_decls, known_fine, table_classes, table_enums}
use Rattle.nddl_model_laws.proofs.Origins.{IsOfObject, codes_apart, globals_within, labels_within, no_class, no_other, not_own, of_code, once_scope, scope_name, scope_plain, texts_of, within_scope}
use Rattle.nddl_model_laws.proofs.Spelled.{has_point, is_marked, name_pointless, name_unmarked}

-- ---- lists of which nothing is in both

cross : (P Q : List ℕ → Type 0) (xs ys : List (List ℕ)) → ((name : List ℕ) → P name → Q name → ⊥) → All P xs → All Q ys
    → AllByRecursion (λ x. AllByRecursion (λ y. x ≢ y) ys) xs
cross P Q xs ys never all others =
    recursion_from_All (λ x. AllByRecursion (λ y. x ≢ y) ys) xs
    (All-weaker P (λ x. AllByRecursion (λ y. x ≢ y) ys)
    (λ x one. recursion_from_All (λ y. x ≢ y) ys (All-weaker Q (λ y. x ≢ y) (λ y other same. never x one (subst Q (sym same) other)) ys others)) xs all)

-- two lists of which one has only what the other hasn't
either_once : (P : List ℕ → Type 0) (xs ys : List (List ℕ)) → AreOnce xs → AreOnce ys → All P xs → All (λ name. P name → ⊥) ys → AreOnce (xs ++ ys)
either_once P xs ys one other all none = once_append xs ys one other (cross P (λ name. P name → ⊥) xs ys (λ name is never. never is) all none)

-- ---- globals for fields

abbrev behind_mark : List ℕ → List ℕ
behind_mark [] = []
behind_mark (byte ∷ bytes) = bytes

later_marks : (first number : ℕ) (locals : List VarDecl) → first < number → number + length (field_globals number locals) ≤ 4096
    → AllByRecursion (λ name. (codes "!" ++ decimal first) ≢ name) (map (λ (variable : VarDecl). variable.name) (field_globals number locals))
later_marks first number [] less few = tt
later_marks first number (local ∷ more) less few =
    let many : number + suc (length (field_globals (number + 1) more)) ≤ 4096 = few in (
      (λ same.
          let alike : decimal first ≡ decimal number = ap behind_mark same in
          let equal : first ≡ number = decimal_injective first number (omega arith) (omega arith) alike in
          omega arith),
      later_marks first (number + 1) more (omega arith) (omega arith),
    )

marks_once : (number : ℕ) (locals : List VarDecl) → number + length (field_globals number locals) ≤ 4096
    → AreOnce (map (λ (variable : VarDecl). variable.name) (field_globals number locals))
marks_once number [] few = tt
marks_once number (local ∷ more) few =
    let many : number + suc (length (field_globals (number + 1) more)) ≤ 4096 = few in
    (later_marks number (number + 1) more (omega arith) (omega arith), marks_once (number + 1) more (omega arith))

-- ---- names of the table

enum_no_class : (sort : Sort) → is_enum_sort sort ≡ true → is_class_sort sort ≡ false
enum_no_class (sorts.Enum number) is = refl
enum_no_class sort is = absurd (cc)

member_no_class : (sort : Sort) → is_member_sort sort ≡ true → is_class_sort sort ≡ false
member_no_class (sorts.Member of place) is = refl
member_no_class sort is = absurd (cc)

enum_apart : (code : ℕ) → code < 3 → (sort : Sort) → of_code code sort ≡ true → is_enum_sort sort ≡ true → ⊥
enum_apart code less (sorts.Enum number) is also = (let same : 3 ≡ code = (Decides-eqb 3 code).0 is in omega arith)
enum_apart code less sort is also = cc

member_apart : (code : ℕ) → code < 3 → (sort : Sort) → of_code code sort ≡ true → is_member_sort sort ≡ true → ⊥
member_apart code less (sorts.Member of place) is also = (let same : 3 ≡ code = (Decides-eqb 3 code).0 is in omega arith)
member_apart code less sort is also = cc

-- a name of the table: it is none of a global, a root or an object, and has neither a point nor a mark
pub record IsOfTable (facts : Facts) (name : List ℕ) : Type 0 where
  pub apart : (code : ℕ) → code < 3 → Contains (texts_of facts code) name → ⊥
  pub plain : (has_point name ≡ false) × (is_marked name ≡ false)

-- classes keep their names
classes_named : (lexicon : Lexicon) (number : ℕ) (some : List Class)
    → map (λ (class : Class). class.name) (modelled_classes lexicon number some) ≡ map (λ (class : Class). class.name) some
classes_named lexicon number [] = refl
classes_named lexicon number (class ∷ more) = ap (λ (rest : List (List ℕ)). class.name ∷ rest) (classes_named lexicon (number + 1) more)

own_names : (facts : Facts) (enums : List Enum) (some : List ℕ)
    → map (λ (class : Class). class.name) (map (compiled_class facts enums) some) ≡ map (name_of_entry facts.names) some
own_names facts enums [] = refl
own_names facts enums (entry ∷ more) = ap (λ (rest : List (List ℕ)). name_of_entry facts.names entry ∷ rest) (own_names facts enums more)

-- the names of the built-in classes
abbrev builtin_texts : List (List ℕ)
builtin_texts = codes "Object" ∷ codes "Timeline" ∷ codes "Reusable" ∷ codes "Reservoir" ∷ []

module _ (known : Known) (is : IsFaultless known) where
  enums_so : All (IsOfTable known.facts) (map (λ (one : Enum). one.name) (enums_of known.facts.program))
  enums_so =
      subst (All (IsOfTable known.facts)) (ap enum_texts (known_are known is).is_names ∙ enums_named 0 0 known.facts.program)
      (All-weaker (Contains (enum_texts known.facts.names)) (IsOfTable known.facts) (λ name there. record {
        apart = λ code less here. no_other known.facts (known_are known is).is_names (known_decls known is) (known_fine known is) (of_code code) is_enum_sort
            (no_class code less) enum_no_class (enum_apart code less) name here there;
        plain = scope_plain known.facts (known_are known is).is_names (known_decls known is) (known_fine known is) is_enum_sort name there;
      }) (enum_texts known.facts.names) (All-contains_itself (enum_texts known.facts.names)))

  members_so : All (IsOfTable known.facts) (flat_map (λ (one : Enum). one.members) (enums_of known.facts.program))
  members_so =
      subst (All (IsOfTable known.facts)) (ap member_texts (known_are known is).is_names ∙ members_named 0 0 known.facts.program)
      (All-weaker (Contains (member_texts known.facts.names)) (IsOfTable known.facts) (λ name there. record {
        apart = λ code less here. no_other known.facts (known_are known is).is_names (known_decls known is) (known_fine known is) (of_code code) is_member_sort
            (no_class code less) member_no_class (member_apart code less) name here there;
        plain = scope_plain known.facts (known_are known is).is_names (known_decls known is) (known_fine known is) is_member_sort name there;
      }) (member_texts known.facts.names) (All-contains_itself (member_texts known.facts.names)))

  abbrev own_classes : List (List ℕ)
  own_classes = class_texts known.facts (known_fine known is) (entries known.facts (known_fine known is))

  class_apart : (code : ℕ) → code < 3 → (name : List ℕ) → Contains own_classes name → Contains (texts_of known.facts code) name → ⊥
  class_apart code less name there here =
      let P : List ℕ → Type 0 = λ each. AllByRecursion (λ other. each ≢ other) own_classes in
      let own : P name = All-contains P (texts_of known.facts code) name
      (All-from_recursion P (texts_of known.facts code)
      (no_class_so known.facts (known_fine known is) (of_code code) (no_class code less) 0 known.facts.names (whole known.facts (known_fine known is)))) here in
      All-contains (λ other. name ≢ other) own_classes name (All-from_recursion (λ other. name ≢ other) own_classes own) there refl

  class_names : All IsName own_classes
  class_names =
      All-from_recursion IsName own_classes
      (all_classes known.facts (known_fine known is) IsName 0 known.facts.names (whole known.facts (known_fine known is)) (λ entry less own.
      subst IsName (sym (name_is known.facts (known_fine known is) entry own))
      (scope_name known.facts (known_are known is).is_names (known_decls known is) (known_fine known is) entry own.declared own.there)))

  own_classes_so : All (IsOfTable known.facts) own_classes
  own_classes_so =
      All-weaker (Contains own_classes) (IsOfTable known.facts) (λ name there.
      let named = All-contains IsName own_classes name class_names there in
      record {
        apart = λ code less here. class_apart code less name there here;
        plain = (name_pointless name named, name_unmarked name named);
      }) own_classes (All-contains_itself own_classes)

  word_so : (word : List ℕ) → Contains builtin_names word → (has_point word ≡ false) × (is_marked word ≡ false) → IsOfTable known.facts word
  word_so word there plain = record {
    apart = λ code less here. not_own known.facts (known_are known is).is_names (known_decls known is) (known_fine known is) (of_code code) word here there;
    plain = plain;
  }

  builtins_so : All (IsOfTable known.facts) builtin_texts
  builtins_so =
      All-from_recursion (IsOfTable known.facts) builtin_texts (
        word_so (codes "Object") (0, omega arith, refl) (refl, refl),
        (
          word_so (codes "Timeline") (1, omega arith, refl) (refl, refl),
          (word_so (codes "Reusable") (2, omega arith, refl) (refl, refl), (word_so (codes "Reservoir") (3, omega arith, refl) (refl, refl), tt)),
        ),
      )

  abbrev class_list : List (List ℕ)
  class_list = map (λ (class : Class). class.name) (compiled_model known).classes

  abbrev enum_list : List (List ℕ)
  enum_list = map (λ (one : Enum). one.name) (compiled_model known).enums ++ flat_map (λ (one : Enum). one.members) (compiled_model known).enums

  classes_are : class_list ≡ builtin_texts ++ own_classes
  classes_are =
      classes_named (lexicon_known known) 0 known.table.classes
      ∙ (ap (map (λ (class : Class). class.name)) (table_classes known is)
      ∙ ap (λ (rest : List (List ℕ)). builtin_texts ++ rest)
      (own_names known.facts (enums_of known.facts.program) (class_entries known.facts.names 0 known.facts.names)))

  table_so : All (IsOfTable known.facts) (enum_list ++ class_list)
  table_so =
      All-append (IsOfTable known.facts) enum_list class_list
      (All-append (IsOfTable known.facts) (map (λ (one : Enum). one.name) (compiled_model known).enums)
      (flat_map (λ (one : Enum). one.members) (compiled_model known).enums) enums_so members_so)
      (subst (All (IsOfTable known.facts)) (sym classes_are) (All-append (IsOfTable known.facts) builtin_texts own_classes builtins_so own_classes_so))

  -- they differ, as those of the table do
  table_once : AreOnce (enum_list ++ class_list)
  table_once =
      let P : List Enum → Type 0 = λ enums.
      AreOnce ((map (λ (one : Enum). one.name) enums ++ flat_map (λ (one : Enum). one.members) enums) ++ class_list) in
      let Z : List (List ℕ) → Type 0 = λ names.
      AreOnce ((map (λ (one : Enum). one.name) known.table.enums ++ flat_map (λ (one : Enum). one.members) known.table.enums) ++ names) in
      subst P (table_enums known is)
      (subst Z (sym (classes_named (lexicon_known known) 0 known.table.classes)) (pairs_once (file_names (emptied known)) (emptied_lawful known is).distinct))

  -- ---- all together

  abbrev own_globals : List (List ℕ)
  own_globals = map (λ (variable : VarDecl). variable.name) (globals known is)

  abbrev field_names : List (List ℕ)
  field_names = map (λ (variable : VarDecl). variable.name) (field_globals (length (globals known is)) (locals known is))

  abbrev label_list : List (List ℕ)
  label_list = map (λ (root : Root). root.label) (posted_roots (outside_rules (posing_known known)) known.facts.program)

  abbrev object_list : List (List ℕ)
  object_list = map (λ (object : Object). object.name) (compiled_model known).objects

  objects_so : All (IsOfObject known.facts) object_list
  objects_so = object_names known is (IsOfObject known.facts) (λ name called. called)

  globals_so : All (Contains (texts_of known.facts 0)) own_globals
  globals_so =
      within_scope known.facts (known_are known is).is_names (known_decls known is) (known_fine known is) 0 own_globals
      (globals_within known.facts (known_are known is).is_names (known_decls known is) (known_fine known is) (world_known known))

  labels_so : All (Contains (texts_of known.facts 1)) label_list
  labels_so =
      within_scope known.facts (known_are known is).is_names (known_decls known is) (known_fine known is) 1 label_list
      (labels_within known.facts (known_are known is).is_names (known_decls known is) (known_fine known is) (outside_rules (posing_known known)))

  scope_so : (one other : ℕ) → one < 3 → other < 3 → (one ≡ other → ⊥) → (name : List ℕ) → Contains (texts_of known.facts one) name
      → Contains (texts_of known.facts other) name → ⊥
  scope_so = codes_apart known.facts (known_are known is).is_names (known_decls known is) (known_fine known is)

  -- an object is called otherwise than a global or a root
  object_apart : (code : ℕ) → code < 2 → (name : List ℕ) → IsOfObject known.facts name → Contains (texts_of known.facts code) name → ⊥
  object_apart code less name called there = elim called.own [
    | inl here ↦ scope_so code 2 (omega arith) (omega arith) (λ same. omega arith) name there here
    | inr pointed ↦
        let plain = scope_plain known.facts (known_are known is).is_names (known_decls known is) (known_fine known is) (of_code code) name there in
        (let never : true ≡ false = sym pointed ∙ plain.0 in cc)
  ]

  object_table : (name : List ℕ) → IsOfObject known.facts name → IsOfTable known.facts name → ⊥
  object_table name called table = elim called.own [
    | inl here ↦ table.apart 2 (omega arith) here
    | inr pointed ↦ (let never : true ≡ false = sym pointed ∙ table.plain.0 in cc)
  ]

  mark_apart : (name : List ℕ) → is_marked name ≡ false → is_marked name ≡ true → ⊥
  mark_apart name plain marked = (let never : true ≡ false = sym marked ∙ plain in cc)

  scope_unmarked : (code : ℕ) (some : List (List ℕ)) → All (Contains (texts_of known.facts code)) some → All (λ name. is_marked name ≡ true → ⊥) some
  scope_unmarked code some all =
      All-weaker (Contains (texts_of known.facts code)) (λ name. is_marked name ≡ true → ⊥)
      (λ name there. mark_apart name (scope_plain known.facts (known_are known is).is_names (known_decls known is) (known_fine known is) (of_code code) name there).1)
      some all

  module _ (few : length (globals known is ++ field_globals (length (globals known is)) (locals known is)) ≤ 4096) (differ : AllPairs ◌≢◌ object_list) where
    objects_once : AreOnce (object_list ++ (enum_list ++ class_list))
    objects_once =
        once_append object_list (enum_list ++ class_list) (pairs_once object_list differ) table_once
        (cross (IsOfObject known.facts) (IsOfTable known.facts) object_list (enum_list ++ class_list) object_table objects_so table_so)

    labels_once : AreOnce (label_list ++ (object_list ++ (enum_list ++ class_list)))
    labels_once =
        let less : 1 < 3 = omega arith in
        either_once (Contains (texts_of known.facts 1)) label_list (object_list ++ (enum_list ++ class_list))
        (once_scope known.facts (known_are known is).is_names (known_decls known is) (known_fine known is) 1 less label_list
        (labels_within known.facts (known_are known is).is_names (known_decls known is) (known_fine known is) (outside_rules (posing_known known))))
        objects_once labels_so
        (All-append (λ name. Contains (texts_of known.facts 1) name → ⊥) object_list (enum_list ++ class_list)
        (All-weaker (IsOfObject known.facts) (λ name. Contains (texts_of known.facts 1) name → ⊥) (λ name called. object_apart 1 (omega arith) name called) object_list objects_so)
        (All-weaker (IsOfTable known.facts) (λ name. Contains (texts_of known.facts 1) name → ⊥) (λ name table. table.apart 1 less) (enum_list ++ class_list) table_so))

    fields_once : AreOnce (field_names ++ (label_list ++ (object_list ++ (enum_list ++ class_list))))
    fields_once =
        let long : length (globals known is ++ field_globals (length (globals known is)) (locals known is))
        ≡ length (globals known is) + length (field_globals (length (globals known is)) (locals known is)) =
        length-append (globals known is) (field_globals (length (globals known is)) (locals known is)) in
        either_once (λ name. is_marked name ≡ true) field_names (label_list ++ (object_list ++ (enum_list ++ class_list)))
        (marks_once (length (globals known is)) (locals known is) (omega (arith, few, long))) labels_once
        (fields_marked (length (globals known is)) (locals known is))
        (All-append (λ name. is_marked name ≡ true → ⊥) label_list (object_list ++ (enum_list ++ class_list)) (scope_unmarked 1 label_list labels_so)
        (All-append (λ name. is_marked name ≡ true → ⊥) object_list (enum_list ++ class_list)
        (All-weaker (IsOfObject known.facts) (λ name. is_marked name ≡ true → ⊥) (λ name called. mark_apart name called.unmarked) object_list objects_so)
        (All-weaker (IsOfTable known.facts) (λ name. is_marked name ≡ true → ⊥) (λ name table. mark_apart name table.plain.1) (enum_list ++ class_list) table_so)))

    field_global_apart : (name : List ℕ) → is_marked name ≡ true → Contains (texts_of known.facts 0) name → ⊥
    field_global_apart name marked there =
        mark_apart name (scope_plain known.facts (known_are known is).is_names (known_decls known is) (known_fine known is) (of_code 0) name there).1 marked

    globals_once : AreOnce (own_globals ++ (field_names ++ (label_list ++ (object_list ++ (enum_list ++ class_list)))))
    globals_once =
        let less : 0 < 3 = omega arith in
        either_once (Contains (texts_of known.facts 0)) own_globals (field_names ++ (label_list ++ (object_list ++ (enum_list ++ class_list))))
        (once_scope known.facts (known_are known is).is_names (known_decls known is) (known_fine known is) 0 less own_globals
        (globals_within known.facts (known_are known is).is_names (known_decls known is) (known_fine known is) (world_known known)))
        fields_once globals_so
        (All-append (λ name. Contains (texts_of known.facts 0) name → ⊥) field_names (label_list ++ (object_list ++ (enum_list ++ class_list)))
        (All-weaker (λ name. is_marked name ≡ true) (λ name. Contains (texts_of known.facts 0) name → ⊥) field_global_apart field_names
        (fields_marked (length (globals known is)) (locals known is)))
        (All-append (λ name. Contains (texts_of known.facts 0) name → ⊥) label_list (object_list ++ (enum_list ++ class_list))
        (All-weaker (Contains (texts_of known.facts 1)) (λ name. Contains (texts_of known.facts 0) name → ⊥)
        (λ name there here. scope_so 0 1 less (omega arith) (λ same. omega arith) name here there) label_list labels_so)
        (All-append (λ name. Contains (texts_of known.facts 0) name → ⊥) object_list (enum_list ++ class_list)
        (All-weaker (IsOfObject known.facts) (λ name. Contains (texts_of known.facts 0) name → ⊥) (λ name called. object_apart 0 (omega arith) name called) object_list objects_so)
        (All-weaker (IsOfTable known.facts) (λ name. Contains (texts_of known.facts 0) name → ⊥) (λ name table. table.apart 0 less) (enum_list ++ class_list) table_so))))

    names_are : file_names (compiled_model known) ≡ own_globals ++ (field_names ++ (label_list ++ (object_list ++ (enum_list ++ class_list))))
    names_are =
        ap (λ (front : List (List ℕ)). (front ++ (label_list ++ (object_list ++ enum_list))) ++ class_list)
        (map-append (λ (variable : VarDecl). variable.name) (globals known is) (field_globals (length (globals known is)) (locals known is)))
        ∙ (append_assoc (own_globals ++ field_names) (label_list ++ (object_list ++ enum_list)) class_list
        ∙ (append_assoc own_globals field_names ((label_list ++ (object_list ++ enum_list)) ++ class_list)
        ∙ ap (λ (rest : List (List ℕ)). own_globals ++ (field_names ++ rest))
        (append_assoc label_list (object_list ++ enum_list) class_list
        ∙ ap (λ (rest : List (List ℕ)). label_list ++ rest) (append_assoc object_list enum_list class_list))))

    pub names_differ : AllPairs ◌≢◌ (file_names (compiled_model known))
    names_differ =
        subst (AllPairs ◌≢◌) (sym names_are)
        (once_pairs (own_globals ++ (field_names ++ (label_list ++ (object_list ++ (enum_list ++ class_list))))) globals_once)
