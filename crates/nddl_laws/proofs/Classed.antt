-- The classes of a table are lawful.
use Rattle.std.proofs.Common.{◌≡◌, ◌≢◌, ℕ, zero, suc, ◌+◌, ◌<◌, ◌==◌, Bool, true, false, List, [], ◌∷◌, ◌++◌, get_or, refl, sym, ◌∙◌, ap, subst, arith}
use Rattle.std.specs.Prelude.{Option, Some, None, All, AllPairs, slice_get, codes, if◌then◌else◌}
use Rattle.std.specs.List.{AllByRecursion, filter_map, flat_map}
use Rattle.std.specs.Option.{option_map, option_map_or}
use Rattle.std.proofs.lemmas.List.{append-nil, get_or-map, length-map}
use Rattle.std.proofs.lemmas.List.Concat.{flat_map-append}
use Rattle.std.proofs.lemmas.List.Elements.{All-nil, All-append, All-map, All-weaker, All-from_recursion}
use Rattle.std.proofs.lemmas.Option.{same_Some, none-some, slice_get-map}
use Rattle.eu_name.specs.Word.{IsName}
use Rattle.eu_forest.specs.Lines.{StandsUnder}
use Rattle.model_core.specs.declared.class.Class.{Class}
use Rattle.model_core.specs.declared.class.Enum.{Enum}
use Rattle.model_core.specs.declared.model.Model.{Model}
use Rattle.model_core.specs.declared.variable.VarDecl.{VarDecl}
use Rattle.model_core.specs.Kinds.{IsParentClass, IsUnder}
use Rattle.model_core.specs.Lawful.{ExtendsFields, IsLawfulClass, IsLawfulEnum}
use Rattle.model_core.specs.Naming.{names_of}
use Rattle.model_core.proofs.Items.{item_all}
use Rattle.model_core.proofs.Words.{differing, is_plain, plain_name}
use Rattle.nddl_ast.specs.declared.declaration.Decl.{Decl}
use Rattle.nddl_ast.specs.declared.declaration.FileDecls.{FileDecls}
use Rattle.nddl_ast.specs.declared.declaration.Typed.{Typed}
use Rattle.nddl_symbols.specs.declared.declared.Declared.{Declared}
use Rattle.nddl_symbols.specs.declared.scope.Meaning.{Meaning}
use Rattle.nddl_symbols.specs.declared.scope.Meaning.TheVariants as meanings
use Rattle.nddl_symbols.specs.Names.{scope_names}
use Rattle.nddl_typeexpr.specs.declared.kind.TypeMeaning.{TypeMeaning}
use Rattle.nddl_hierarchy.specs.Ancestors.{above}
use Rattle.nddl_hierarchy.specs.Facts.{Facts}
use Rattle.nddl_hierarchy.specs.Members.{member_field}
use Rattle.nddl_hierarchy.specs.Lines.{parents_of}
use Rattle.nddl_declarations.specs.Known.{AreFacts, fine_meaning}
use Rattle.nddl_hierarchy.specs.Decls.{members_of}
use Rattle.nddl_declarations.specs.Declares.{declared_variable, variable_with, variables_of}
use Rattle.nddl_declarations.specs.Faults.{all_faults}
use Rattle.nddl_types.specs.Classes.{builtin_class, builtin_fields, class_entries, class_fields, class_number, class_numbers, classes_of, compiled_class, declared_fields, enums_of, fields_at, given_fields, line_down, name_of_entry, parent_number, whole_field}
use Rattle.nddl_laws.specs.Fine.{IsFineDecl, IsFineTyped}
use Rattle.nddl_types.specs.declared.table.TypeTable.{TypeTable}
use Rattle.nddl_laws.specs.Tables.{HasTable}
use Rattle.nddl_laws.proofs.Apart.{field_name, fields_once, once_pairs}
use Rattle.nddl_laws.proofs.Declared.{IsRightDecl, enums_right, right_decls}
use Rattle.nddl_laws.proofs.Down.{line_alone, line_below}
use Rattle.nddl_laws.proofs.Items.{class_items, items_apart, rooted_of}
use Rattle.nddl_laws.proofs.Lists.{all_flat, all_kept}
use Rattle.nddl_laws.proofs.Members.{fields_names}
use Rattle.nddl_laws.proofs.Places.{declared_in}
use Rattle.nddl_laws.proofs.Standing.{IsClassEntry, class_stands, no_parent, under_builtin, under_class}
use Rattle.nddl_laws.proofs.Variables.{builtin_right, fields_right, fine_fields, fine_members}
use Rattle.nddl_laws.proofs.Circles.{class_is, no_circles, number_is}
use Rattle.nddl_laws.proofs.Numbered.{numbered}

-- ---- names of fields

word_names : (some : List VarDecl) → AllByRecursion (λ (variable : VarDecl). is_plain variable.name ≡ true) some → All IsName (names_of some)
word_names some plain =
    All-map IsName (λ (variable : VarDecl). variable.name) some
    (All-weaker (λ (variable : VarDecl). is_plain variable.name ≡ true) (λ (variable : VarDecl). IsName variable.name)
    (λ variable is. plain_name variable.name is) some (All-from_recursion (λ (variable : VarDecl). is_plain variable.name ≡ true) some plain))

pub builtin_words : (number : ℕ) → All IsName (names_of (builtin_fields number))
builtin_words number = by (number == 2) (number == 3)
  where
    by : (two three : Bool)
        → All IsName (names_of (if two then whole_field (codes "capacity") ∷ []
        else (if three then whole_field (codes "initial") ∷ whole_field (codes "low") ∷ whole_field (codes "high") ∷ [] else [])))
    by true three = word_names (whole_field (codes "capacity") ∷ []) (refl, tt)
    by false true = word_names (whole_field (codes "initial") ∷ whole_field (codes "low") ∷ whole_field (codes "high") ∷ []) (refl, (refl, (refl, tt)))
    by false false = word_names [] tt

builtin_distinct : (number : ℕ) → AllPairs ◌≢◌ (names_of (builtin_fields number))
builtin_distinct number = by (number == 2) (number == 3)
  where
    by : (two three : Bool)
        → AllPairs ◌≢◌ (names_of (if two then whole_field (codes "capacity") ∷ []
        else (if three then whole_field (codes "initial") ∷ whole_field (codes "low") ∷ whole_field (codes "high") ∷ [] else [])))
    by true three = differing (codes "capacity" ∷ []) refl
    by false true = differing (codes "initial" ∷ codes "low" ∷ codes "high" ∷ []) refl
    by false false = differing [] refl

given_words : (o : Option Meaning) → All IsName (names_of (given_fields o))
given_words None = All-nil IsName
given_words (Some (meanings.BuiltIn number)) = builtin_words number
given_words (Some (meanings.Entry entry)) = All-nil IsName

-- what is declared keeps its name
typed_name : (facts : Facts) (enums : List Enum) (typed : Typed) (variable : VarDecl) → declared_variable facts enums typed ≡ Some variable → variable.name ≡ typed.name.text
typed_name facts enums typed variable is = by (fine_meaning facts typed.declared) is
  where
    by : (o : Option TypeMeaning) → option_map (variable_with facts enums typed) o ≡ Some variable → variable.name ≡ typed.name.text
    by None is = absurd (none-some variable is)
    by (Some meaning) is = ap (λ (v : VarDecl). v.name) (sym (same_Some (variable_with facts enums typed meaning) variable is))

pub variables_words : (facts : Facts) (enums : List Enum) (some : List Typed) → All IsFineTyped some → All IsName (names_of (variables_of facts enums some))
variables_words facts enums some fine =
    All-map IsName (λ (variable : VarDecl). variable.name) (variables_of facts enums some)
    (all_kept (λ (variable : VarDecl). IsName variable.name) (declared_variable facts enums) some
    (All-weaker IsFineTyped (λ typed. (variable : VarDecl) → declared_variable facts enums typed ≡ Some variable → IsName variable.name)
    (λ typed one variable is. subst IsName (sym (typed_name facts enums typed variable is)) one.1) some fine))

module _ (facts : Facts) (fine : All IsFineDecl facts.program) (enums : List Enum) where
  words_at : (entry : ℕ) → All (λ (variable : VarDecl). IsName variable.name) (fields_at facts enums entry)
  words_at entry =
      let some = filter_map member_field (members_of facts.names facts.program entry) in
      All-append (λ (variable : VarDecl). IsName variable.name) (given_fields (above facts.names facts.program entry))
      (declared_fields facts enums (members_of facts.names facts.program entry))
      (unmapped (given_fields (above facts.names facts.program entry)) (given_words (above facts.names facts.program entry)))
      (unmapped (variables_of facts enums some)
      (variables_words facts enums some (fine_fields (members_of facts.names facts.program entry) (fine_members facts fine entry))))
    where
      unmapped : (some : List VarDecl) → All IsName (names_of some) → All (λ (variable : VarDecl). IsName variable.name) some
      unmapped some all = λ k d within.
          subst IsName (get_or-map (λ (variable : VarDecl). variable.name) some k d (d.name) within) (all k d.name (let long = length-map some (λ (variable : VarDecl). variable.name) in omega arith))

  pub fields_words : (entry : ℕ) → All IsName (names_of (class_fields facts enums entry))
  fields_words entry =
      All-map IsName (λ (variable : VarDecl). variable.name) (class_fields facts enums entry)
      (all_flat (λ (variable : VarDecl). IsName variable.name) (fields_at facts enums) (line_down facts entry)
      (λ k d within. words_at (get_or (line_down facts entry) k d)))

-- ---- classes

module _ (facts : Facts) (are : AreFacts (scope_names facts.program) facts.program facts) (fine : all_faults facts ≡ [])
    (right : All (IsRightDecl facts) facts.program) (model : Model) (same_enums : model.enums ≡ enums_of facts.program)
    (same : model.classes ≡ classes_of facts (enums_of facts.program))
    (no_return : (number parent : ℕ) → IsParentClass model number parent → IsUnder model parent number → ⊥) where
  abbrev entries : List ℕ
  entries = class_entries facts.names 0 facts.names

  parents_are : facts.parents ≡ parents_of facts.names facts.program
  parents_are = are.is_parents ∙ ap (λ names. parents_of names facts.program) (sym are.is_names)

  pub entry_class : (place entry : ℕ) → slice_get entries place ≡ Some entry → IsClassEntry facts.names entry
  entry_class place entry at =
      let it = class_is facts (enums_of facts.program) model parents_are are.order are.lineage fine same entry place at in
      record { declared = it.0; there = it.1; sort = it.2 }

  all_fine : All IsFineDecl facts.program
  all_fine = All-weaker (IsRightDecl facts) IsFineDecl (λ decl is. is.fine) facts.program right

  lawful : All IsLawfulEnum (enums_of facts.program)
  lawful = enums_right facts facts.program right

  -- the class of this place
  pub own_there : (place entry : ℕ) → slice_get entries place ≡ Some entry
      → slice_get model.classes (4 + place) ≡ Some (compiled_class facts (enums_of facts.program) entry)
  own_there place entry at =
      let e : suc (suc (suc (suc place))) ≡ 4 + place = omega arith in
      let P : ℕ → Type 0 = λ n. slice_get (classes_of facts (enums_of facts.program)) n ≡ Some (compiled_class facts (enums_of facts.program) entry) in
      ap (λ some. slice_get some (4 + place)) same
      ∙ subst P e (slice_get-map (compiled_class facts (enums_of facts.program)) entries place ∙ ap (option_map (compiled_class facts (enums_of facts.program))) at)

  -- a built-in class has its fields
  record HasBuiltin (number : ℕ) : Type 0 where
    class : Class
    there : slice_get model.classes number ≡ Some class
    fields : class.fields ≡ builtin_fields number

  builtin_there : (number : ℕ) → number < 4 → HasBuiltin number
  builtin_there zero few = record { class = builtin_class (codes "Object") None 0; there = ap (λ some. slice_get some 0) same; fields = refl }
  builtin_there (suc zero) few = record { class = builtin_class (codes "Timeline") (Some 0) 1; there = ap (λ some. slice_get some 1) same; fields = refl }
  builtin_there (suc (suc zero)) few = record { class = builtin_class (codes "Reusable") (Some 0) 2; there = ap (λ some. slice_get some 2) same; fields = refl }
  builtin_there (suc (suc (suc zero))) few = record { class = builtin_class (codes "Reservoir") (Some 0) 3; there = ap (λ some. slice_get some 3) same; fields = refl }
  builtin_there (suc (suc (suc (suc number)))) few = absurd (omega arith)

  -- the number of a class
  pub number_of : (place entry : ℕ) → slice_get entries place ≡ Some entry → class_number facts.names (meanings.Entry entry) ≡ 4 + place
  number_of place entry at =
      let found = numbered facts.names 4 0 facts.names place entry at in
      let e : entry ≡ found.offset = (let sum : entry ≡ 0 + found.offset = found.is_entry in omega arith) in
      ap (λ o. option_map_or (λ (number : ℕ). number) o 0) (ap (slice_get (class_numbers facts.names 4 0 facts.names)) e ∙ found.has_number)

  abbrev own_fields : ℕ → List VarDecl
  own_fields entry = declared_fields facts (enums_of facts.program) (members_of facts.names facts.program entry)

  alone : (entry : ℕ) → slice_get facts.parents entry ≡ Some None
      → class_fields facts (enums_of facts.program) entry ≡ given_fields (above facts.names facts.program entry) ++ own_fields entry
  alone entry none =
      ap (flat_map (fields_at facts (enums_of facts.program))) (line_alone facts.parents entry none) ∙ append-nil (fields_at facts (enums_of facts.program) entry)

  below : (entry other : ℕ) → IsClassEntry facts.names entry → above facts.names facts.program entry ≡ Some (meanings.Entry other) → StandsUnder facts.parents entry other
      → class_fields facts (enums_of facts.program) entry ≡ class_fields facts (enums_of facts.program) other ++ own_fields entry
  below entry other is up under =
      let own : fields_at facts (enums_of facts.program) entry ≡ own_fields entry = ap (λ m. given_fields m ++ own_fields entry) up in
      ap (flat_map (fields_at facts (enums_of facts.program))) (line_below facts.parents entry other under (rooted_of facts are fine right entry is under))
      ∙ (flat_map-append (fields_at facts (enums_of facts.program)) (line_down facts other) (entry ∷ [])
      ∙ ap (λ rest. class_fields facts (enums_of facts.program) other ++ rest) (append-nil (fields_at facts (enums_of facts.program) entry) ∙ own))

  -- a class has the fields of the one that it extends, and then its own
  extends : (entry parent : ℕ) → IsClassEntry facts.names entry → parent_number facts.names (above facts.names facts.program entry) ≡ parent
      → ExtendsFields model (compiled_class facts (enums_of facts.program) entry) parent
  extends entry parent is number = elim (class_stands facts are fine entry is) [
    | no_parent up none ↦
        (let e : 0 ≡ parent = sym (ap (parent_number facts.names) up) ∙ number in
        let builtin = builtin_there 0 (omega arith) in
        subst (ExtendsFields model (compiled_class facts (enums_of facts.program) entry)) e (record {
          above = builtin.class;
          own = own_fields entry;
          is_above = builtin.there;
          fields = alone entry none ∙ ((λ i. given_fields (up i) ++ own_fields entry) ∙ ap (λ some. some ++ own_fields entry) (sym builtin.fields));
        }))
    | under_builtin built few up none ↦
        (let e : built ≡ parent = sym (ap (parent_number facts.names) up) ∙ number in
        let builtin = builtin_there built few in
        subst (ExtendsFields model (compiled_class facts (enums_of facts.program) entry)) e (record {
          above = builtin.class;
          own = own_fields entry;
          is_above = builtin.there;
          fields = alone entry none ∙ ((λ i. given_fields (up i) ++ own_fields entry) ∙ ap (λ some. some ++ own_fields entry) (sym builtin.fields));
        }))
    | under_class other up under class first decl declared there body ↦
        (let found = number_is facts (enums_of facts.program) model parents_are are.order are.lineage fine same other class.declared class.there
        (first class.declared class.there) in
        let e : 4 + found.0 ≡ parent = sym found.2 ∙ (sym (ap (parent_number facts.names) up) ∙ number) in
        subst (ExtendsFields model (compiled_class facts (enums_of facts.program) entry)) e (record {
          above = compiled_class facts (enums_of facts.program) other;
          own = own_fields entry;
          is_above = own_there found.0 other found.1;
          fields = below entry other is up under;
        }))
  ]

  named : (entry : ℕ) → IsClassEntry facts.names entry → IsName (name_of_entry facts.names entry)
  named entry is =
      let at = sym (ap (λ names. slice_get names entry) are.is_names) ∙ is.there in
      let stands = declared_in facts.program entry is.declared at in
      let decl = item_all IsFineDecl facts.program is.declared.place.decl stands.decl all_fine stands.there in
      subst IsName (sym (ap (λ o. option_map_or (λ (declared : Declared). declared.name) o []) is.there)) (stands.fine decl)

  own_lawful : (place entry : ℕ) → slice_get entries place ≡ Some entry → IsLawfulClass model (4 + place) (compiled_class facts (enums_of facts.program) entry)
  own_lawful place entry at =
      let is = entry_class place entry at in
      let names = fields_names facts are fine right (enums_of facts.program) entry in
      record {
        name = named entry is;
        extends = λ parent told. extends entry parent is (same_Some (parent_number facts.names (above facts.names facts.program entry)) parent told);
        no_circle = λ parent told back. no_return (4 + place) parent (compiled_class facts (enums_of facts.program) entry, own_there place entry at, told) back;
        fields = fields_right facts are all_fine lawful model same_enums entry;
        names = fields_words facts all_fine (enums_of facts.program) entry;
        distinct = subst (AllPairs ◌≢◌) (sym names) (once_pairs (filter_map field_name (class_items facts entry)) (fields_once (class_items facts entry) (items_apart facts are fine right entry is)));
      }

  builtin_lawful : (number : ℕ) (name : List ℕ) (o : Option ℕ) → IsName name → slice_get model.classes number ≡ Some (builtin_class name o number)
      → ((parent : ℕ) → o ≡ Some parent → parent ≡ 0) → IsLawfulClass model number (builtin_class name o number)
  builtin_lawful number name o named there objects = record {
    name = named;
    extends = λ parent told.
        let builtin = builtin_there 0 (omega arith) in
        subst (ExtendsFields model (builtin_class name o number)) (sym (objects parent told)) (record {
          above = builtin.class;
          own = builtin_fields number;
          is_above = builtin.there;
          fields = ap (λ some. some ++ builtin_fields number) (sym builtin.fields);
        });
    no_circle = λ parent told back. no_return number parent (builtin_class name o number, there, told) back;
    fields = builtin_right model number;
    names = builtin_words number;
    distinct = builtin_distinct number;
  }

  pub lawful_class : (number : ℕ) (class : Class) → slice_get model.classes number ≡ Some class → IsLawfulClass model number class
  lawful_class number class is = by number (sym (ap (λ some. slice_get some number) same) ∙ is)
    where
      objects : (parent : ℕ) → Some 0 ≡ Some parent → parent ≡ 0
      objects parent told = sym (same_Some 0 parent told)

      own : (place : ℕ) (o : Option ℕ) → slice_get entries place ≡ o → option_map (compiled_class facts (enums_of facts.program)) o ≡ Some class
          → IsLawfulClass model (4 + place) class
      own place None at found = absurd (none-some class found)
      own place (Some entry) at found =
          subst (IsLawfulClass model (4 + place)) (same_Some (compiled_class facts (enums_of facts.program) entry) class found) (own_lawful place entry at)

      by : (number : ℕ) → slice_get (classes_of facts (enums_of facts.program)) number ≡ Some class → IsLawfulClass model number class
      by zero found =
          subst (IsLawfulClass model 0) (same_Some (builtin_class (codes "Object") None 0) class found)
          (builtin_lawful 0 (codes "Object") None (plain_name (codes "Object") refl) (ap (λ some. slice_get some 0) same) (λ parent told. absurd (none-some parent told)))
      by (suc zero) found =
          subst (IsLawfulClass model 1) (same_Some (builtin_class (codes "Timeline") (Some 0) 1) class found)
          (builtin_lawful 1 (codes "Timeline") (Some 0) (plain_name (codes "Timeline") refl) (ap (λ some. slice_get some 1) same) objects)
      by (suc (suc zero)) found =
          subst (IsLawfulClass model 2) (same_Some (builtin_class (codes "Reusable") (Some 0) 2) class found)
          (builtin_lawful 2 (codes "Reusable") (Some 0) (plain_name (codes "Reusable") refl) (ap (λ some. slice_get some 2) same) objects)
      by (suc (suc (suc zero))) found =
          subst (IsLawfulClass model 3) (same_Some (builtin_class (codes "Reservoir") (Some 0) 3) class found)
          (builtin_lawful 3 (codes "Reservoir") (Some 0) (plain_name (codes "Reservoir") refl) (ap (λ some. slice_get some 3) same) objects)
      by (suc (suc (suc (suc place)))) found =
          let e : 4 + place ≡ suc (suc (suc (suc place))) = omega arith in
          let P : ℕ → Type 0 = λ n. IsLawfulClass model n class in
          subst P e (own place (slice_get entries place) refl (sym (slice_get-map (compiled_class facts (enums_of facts.program)) entries place) ∙ found))

-- the classes of a table are lawful
pub lawful_classes : (files : List FileDecls) (table : TypeTable) (model : Model) → HasTable files table model
    → (number : ℕ) (class : Class) → slice_get model.classes number ≡ Some class → IsLawfulClass model number class
lawful_classes files table model has =
    let is = has.is_table in
    let others = is.entries.others in
    let P : List Decl → Type 0 = λ program. AreFacts (scope_names program) program is.facts in
    lawful_class is.facts (subst P (sym is.are.is_program) is.are) is.fine (right_decls files table is has.given) model (has.enums ∙ is.entries.enums_are)
    (has.classes ∙ (others.classes_are ∙ ap (classes_of is.facts) is.entries.enums_are))
    (no_circles files table model is has.classes)
