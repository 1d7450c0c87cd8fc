-- The classes of a table by their names, and which of them stand below which.
use Rattle.std.proofs.Common.{◌≡◌, ◌≢◌, ℕ, zero, suc, ◌+◌, ◌<◌, ◌==◌, Bool, true, false, ◌&&◌, List, [], ◌∷◌, pos, refl, sym, ◌∙◌, ap, subst, arith}
use Rattle.std.specs.Prelude.{⊤, Option, Some, None, All, Contains, slice_get, codes, if◌then◌else◌}
use Rattle.std.specs.List.{AllByRecursion, position_from}
use Rattle.std.specs.Option.{option_map, option_map_or, option_or}
use Rattle.std.specs.Str.{bytes_eq}
use Rattle.std.proofs.lemmas.Bool.Decides.{Decides-eqb}
use Rattle.std.proofs.lemmas.List.Elements.{Contains-append_left, Contains-append_right}
use Rattle.std.proofs.lemmas.Option.{same_Some, none-some}
use Rattle.std.proofs.lemmas.Slice.Eq.{bytes_eq-Decides}
use Rattle.eu_name.specs.Word.{IsName}
use Rattle.model_core.specs.declared.class.Class.{Class}
use Rattle.model_core.specs.declared.model.Model.{Model}
use Rattle.model_core.specs.Kinds.{IsParentClass, IsUnder}
use Rattle.nddl_ast.specs.declared.declaration.Decl.{Decl}
use Rattle.nddl_ast.specs.declared.declaration.FileDecls.{FileDecls}
use Rattle.nddl_symbols.specs.declared.declared.Declared.{Declared}
use Rattle.nddl_symbols.specs.declared.scope.Meaning.{Meaning}
use Rattle.nddl_symbols.specs.declared.scope.Meaning.TheVariants as meanings
use Rattle.nddl_symbols.specs.Names.{is_class_sort, scope_names}
use Rattle.nddl_symbols.specs.Scope.{builtin_number, meaning_of, named_number}
use Rattle.nddl_hierarchy.specs.Ancestors.{above}
use Rattle.nddl_hierarchy.specs.Facts.{Facts}
use Rattle.nddl_declarations.specs.Known.{AreFacts}
use Rattle.nddl_types.specs.declared.table.TypeTable.{TypeTable}
use Rattle.nddl_types.specs.Classes.{class_entries, class_number, classes_of, compiled_class, enums_of, is_first, is_first_class, line_down, name_of_entry}
use Rattle.nddl_types.specs.Predicates.{preds_of}
use Rattle.nddl_types.specs.Table.{IsTable}
use Rattle.nddl_rules.specs.Written.{class_word}
use Rattle.nddl_laws.specs.Given.{AreGiven}
use Rattle.nddl_laws.specs.Tables.{HasTable}
use Rattle.nddl_laws.proofs.Circles.{no_circles}
use Rattle.nddl_laws.proofs.Classed.{entry_class, lawful_classes, number_of, own_there}
use Rattle.nddl_laws.proofs.Declared.{IsRightDecl, right_decls}
use Rattle.nddl_laws.proofs.Down.{line_alone, line_below}
use Rattle.nddl_laws.proofs.Items.{rooted_of}
use Rattle.nddl_laws.proofs.Named.{not_builtin}
use Rattle.nddl_laws.proofs.Numbered.{entry_is, listed}
use Rattle.nddl_laws.proofs.Standing.{IsClassEntry, class_stands, no_parent, under_builtin, under_class}

pub both_so : (one other : Bool) → (one && other) ≡ true → (one ≡ true) × (other ≡ true)
both_so true true is = (refl, refl)
both_so true false is = absurd (cc)
both_so false true is = absurd (cc)
both_so false false is = absurd (cc)

-- ---- what names mean

-- a name that is none of these words has no place among them
no_position : (name : List ℕ) (words : List (List ℕ)) (start : ℕ) → AllByRecursion (λ word. name ≢ word) words
    → position_from (bytes_eq name) start words ≡ None
no_position name [] start all = refl
no_position name (word ∷ more) start all = by (bytes_eq name word) refl (no_position name more (start + 1) all.1)
  where
    by : (b : Bool) → bytes_eq name word ≡ b → position_from (bytes_eq name) (start + 1) more ≡ None
        → (if b then Some start else position_from (bytes_eq name) (start + 1) more) ≡ None
    by true same rest = absurd (all.0 ((bytes_eq-Decides name word).0 same))
    by false differ rest = rest

pub first_number : (o : Option ℕ) (number : ℕ) → option_map_or (λ (first : ℕ). first == number) o false ≡ true → o ≡ Some number
first_number None number is = absurd (cc)
first_number (Some found) number is = ap (λ n. Some n) ((Decides-eqb found number).0 is)

-- ---- what stands below a class

module _ (facts : Facts) where
  -- What holds of the second class holds of the first: all that the one stands under the other does, or the built-in class is
  -- extended on the way.
  abbrev pub IsBelow : Meaning → Meaning → Type 0
  IsBelow (meanings.Entry one) (meanings.Entry other) =
      (entry : ℕ) → Contains (line_down facts other) entry → Contains (line_down facts one) entry
  IsBelow (meanings.Entry one) (meanings.BuiltIn number) =
      (entry : ℕ) × Contains (line_down facts one) entry × (above facts.names facts.program entry ≡ Some (meanings.BuiltIn number))
  IsBelow (meanings.BuiltIn one) (meanings.BuiltIn number) = one ≡ number
  IsBelow (meanings.BuiltIn one) (meanings.Entry other) = ⊥

  pub below_itself : (class : Meaning) → IsBelow class class
  below_itself (meanings.Entry entry) = λ other has. has
  below_itself (meanings.BuiltIn number) = refl

  pub below_both : (one middle other : Meaning) → IsBelow one middle → IsBelow middle other → IsBelow one other
  below_both (meanings.Entry one) (meanings.Entry middle) (meanings.Entry other) first second = λ entry has. first entry (second entry has)
  below_both (meanings.Entry one) (meanings.Entry middle) (meanings.BuiltIn number) first second =
      (second.0, first second.0 second.1, second.2)
  below_both (meanings.Entry one) (meanings.BuiltIn middle) (meanings.BuiltIn number) first second =
      (first.0, first.1, first.2 ∙ ap (λ n. Some (meanings.BuiltIn n)) second)
  below_both (meanings.Entry one) (meanings.BuiltIn middle) (meanings.Entry other) first second = absurd second
  below_both (meanings.BuiltIn one) (meanings.BuiltIn middle) (meanings.BuiltIn number) first second = first ∙ second
  below_both (meanings.BuiltIn one) (meanings.BuiltIn middle) (meanings.Entry other) first second = absurd second
  below_both (meanings.BuiltIn one) (meanings.Entry middle) other first second = absurd first

  -- it is a class that there is
  abbrev pub IsKnown : Meaning → Type 0
  IsKnown (meanings.Entry entry) = IsClassEntry facts.names entry
  IsKnown (meanings.BuiltIn number) = number < 4

-- ---- the classes of a table

-- a model with this table and nothing else
abbrev pub bare : TypeTable → Model
bare table = record {
  enums = table.enums;
  classes = table.classes;
  objects = [];
  preds = table.preds;
  rules = [];
  problem = record { start = pos 0; end = pos 0; steps = 0; roots = []; globals = []; items = []; decisions = [] };
}

module _ (files : List FileDecls) (table : TypeTable) (given : AreGiven files) (is : IsTable files table) where
  pub has_table : HasTable files table (bare table)
  has_table = record { given = given; is_table = is; enums = refl; classes = refl; preds = refl }

  pub are_facts : AreFacts (scope_names is.facts.program) is.facts.program is.facts
  are_facts =
      let P : List Decl → Type 0 = λ program. AreFacts (scope_names program) program is.facts in
      subst P (sym is.are.is_program) is.are

  pub right : All (IsRightDecl is.facts) is.facts.program
  right = right_decls files table is given

  pub classes_same : table.classes ≡ classes_of is.facts (enums_of is.facts.program)
  classes_same = is.entries.others.classes_are ∙ ap (classes_of is.facts) is.entries.enums_are

  pub preds_same : table.preds ≡ preds_of is.facts (enums_of is.facts.program)
  preds_same = is.entries.others.preds_are ∙ ap (preds_of is.facts) is.entries.enums_are

  no_return : (number parent : ℕ) → IsParentClass (bare table) number parent → IsUnder (bare table) parent number → ⊥
  no_return = no_circles files table (bare table) is refl

  abbrev pub entries : List ℕ
  entries = class_entries is.facts.names 0 is.facts.names

  -- ---- one class

  pub entry_known : (place entry : ℕ) → slice_get entries place ≡ Some entry → IsClassEntry is.facts.names entry
  entry_known place entry at =
      entry_class is.facts are_facts is.fine right (bare table) is.entries.enums_are classes_same no_return place entry at

  pub entry_number : (place entry : ℕ) → slice_get entries place ≡ Some entry → class_number is.facts.names (meanings.Entry entry) ≡ 4 + place
  entry_number place entry at =
      number_of is.facts are_facts is.fine right (bare table) is.entries.enums_are classes_same no_return place entry at

  pub entry_there : (place entry : ℕ) → slice_get entries place ≡ Some entry
      → slice_get table.classes (4 + place) ≡ Some (compiled_class is.facts (enums_of is.facts.program) entry)
  entry_there place entry at =
      own_there is.facts are_facts is.fine right (bare table) is.entries.enums_are classes_same no_return place entry at

  -- a name that is declared first means what is declared
  pub first_means : (entry : ℕ) (declared : Declared) → slice_get is.facts.names entry ≡ Some declared → is_first is.facts.names entry declared ≡ true
      → meaning_of is.facts.names declared.name ≡ Some (meanings.Entry entry)
  first_means entry declared there first =
      let none = not_builtin is.facts is.fine entry declared there in
      let builtin : builtin_number declared.name ≡ None =
      no_position declared.name (codes "Object" ∷ codes "Timeline" ∷ codes "Reusable" ∷ codes "Reservoir" ∷ []) 0
      (none.0, (none.1.0, (none.1.1.0, (none.1.1.1.0, tt)))) in
      let named : named_number false is.facts.names declared.name ≡ Some entry =
      first_number (named_number false is.facts.names declared.name) entry first in
      λ i. option_or (option_map meanings.BuiltIn (builtin i)) (option_map meanings.Entry (named i))

  -- so does the name of a class
  pub entry_means : (place entry : ℕ) → slice_get entries place ≡ Some entry
      → meaning_of is.facts.names (name_of_entry is.facts.names entry) ≡ Some (meanings.Entry entry)
  entry_means place entry at =
      let found = entry_is is.facts.names 0 is.facts.names place entry at in
      let e : found.offset ≡ entry = (let sum : entry ≡ 0 + found.offset = found.is_entry in omega arith) in
      let there : slice_get is.facts.names entry ≡ Some found.declared = ap (slice_get is.facts.names) (sym e) ∙ found.there in
      let named : name_of_entry is.facts.names entry ≡ found.declared.name = ap (λ o. option_map_or (λ (d : Declared). d.name) o []) there in
      ap (meaning_of is.facts.names) named
      ∙ first_means entry found.declared there (both_so (is_class_sort found.declared.sort) (is_first is.facts.names entry found.declared) found.first).1

  abbrev pub class_name : ℕ → List ℕ
  class_name number = class_word table.classes number

  pub entry_word : (place entry : ℕ) → slice_get entries place ≡ Some entry → class_name (4 + place) ≡ name_of_entry is.facts.names entry
  entry_word place entry at = ap (λ o. option_map_or (λ (class : Class). class.name) o []) (entry_there place entry at)

  -- the name of a built-in class means it
  pub builtin_means : (number : ℕ) → number < 4 → meaning_of is.facts.names (class_name number) ≡ Some (meanings.BuiltIn number)
  builtin_means zero few = ap (λ classes. meaning_of is.facts.names (class_word classes 0)) classes_same
  builtin_means (suc zero) few = ap (λ classes. meaning_of is.facts.names (class_word classes 1)) classes_same
  builtin_means (suc (suc zero)) few = ap (λ classes. meaning_of is.facts.names (class_word classes 2)) classes_same
  builtin_means (suc (suc (suc zero))) few = ap (λ classes. meaning_of is.facts.names (class_word classes 3)) classes_same
  builtin_means (suc (suc (suc (suc number)))) few = absurd (omega arith)

  -- the names of classes are names
  pub name_is : (number : ℕ) (class : Class) → slice_get table.classes number ≡ Some class → IsName (class_name number)
  name_is number class at =
      let named = (lawful_classes files table (bare table) has_table number class at).name in
      subst IsName (sym (ap (λ o. option_map_or (λ (one : Class). one.name) o []) at)) named

  -- ---- lines

  -- a class stands in its own line
  pub in_line : (entry : ℕ) → IsClassEntry is.facts.names entry → Contains (line_down is.facts entry) entry
  in_line entry known = elim (class_stands is.facts are_facts is.fine entry known) [
    | no_parent up none ↦ subst (λ line. Contains line entry) (sym (line_alone is.facts.parents entry none)) (0, omega arith, refl)
    | under_builtin number few up none ↦ subst (λ line. Contains line entry) (sym (line_alone is.facts.parents entry none)) (0, omega arith, refl)
    | under_class other up under class first decl declared there body ↦
        subst (λ line. Contains line entry)
        (sym (line_below is.facts.parents entry other under (rooted_of is.facts are_facts is.fine right entry known under)))
        (Contains-append_right (line_down is.facts other) (entry ∷ []) entry (0, omega arith, refl))
  ]

  -- and stands below the class that it extends
  pub step_below : (entry : ℕ) (class : Meaning) → IsClassEntry is.facts.names entry → above is.facts.names is.facts.program entry ≡ Some class
      → IsBelow is.facts (meanings.Entry entry) class
  step_below entry (meanings.BuiltIn number) known up = (entry, in_line entry known, up)
  step_below entry (meanings.Entry parent) known up = elim (class_stands is.facts are_facts is.fine entry known) [
    | no_parent none at ↦ absurd (none-some (meanings.Entry parent) (sym none ∙ up))
    | under_builtin number few to at ↦
        absurd (let e : meanings.BuiltIn number ≡ meanings.Entry parent = same_Some (meanings.BuiltIn number) (meanings.Entry parent) (sym to ∙ up) in cc)
    | under_class other to under class first decl declared there body ↦
        (let e : meanings.Entry other ≡ meanings.Entry parent = same_Some (meanings.Entry other) (meanings.Entry parent) (sym to ∙ up) in
        let same : other ≡ parent = cc in
        λ one has. subst (λ line. Contains line one)
        (sym (line_below is.facts.parents entry other under (rooted_of is.facts are_facts is.fine right entry known under)))
        (Contains-append_left (line_down is.facts other) (entry ∷ []) one (subst (λ n. Contains (line_down is.facts n) one) (sym same) has)))
  ]

  -- ---- what a class extends

  -- a class of the files stands among them
  abbrev pub IsPlaced : Meaning → Type 0
  IsPlaced (meanings.Entry entry) = (place : ℕ) × (slice_get entries place ≡ Some entry)
  IsPlaced (meanings.BuiltIn number) = ⊤

  -- a class by its number
  pub record Extended (number : ℕ) : Type 0 where
    pub class : Meaning
    pub known : IsKnown is.facts class
    pub placed : IsPlaced class
    pub number_is : class_number is.facts.names class ≡ number
    pub means : meaning_of is.facts.names (class_name number) ≡ Some class

  -- the place among the classes of one that is extended
  pub entry_place : (entry : ℕ) (found : Declared) → slice_get is.facts.names entry ≡ Some found → is_first_class is.facts.names entry found ≡ true
      → (place : ℕ) × (slice_get entries place ≡ Some entry)
  entry_place entry found there first =
      let e : 0 + entry ≡ entry = omega arith in
      let it = listed is.facts.names 0 is.facts.names entry found there (ap (λ n. is_first_class is.facts.names n found) e ∙ first) in
      (it.place, it.there ∙ ap (λ n. Some n) e)

  abbrev pub builtin_extended : (number : ℕ) → number < 4 → Extended number
  builtin_extended number few = record { class = meanings.BuiltIn number; known = few; placed = tt; number_is = refl; means = builtin_means number few }

  abbrev pub entry_extended : (place entry : ℕ) → slice_get entries place ≡ Some entry → Extended (4 + place)
  entry_extended place entry at = record {
    class = meanings.Entry entry;
    known = entry_known place entry at;
    placed = (place, at);
    number_is = entry_number place entry at;
    means = ap (meaning_of is.facts.names) (entry_word place entry at) ∙ entry_means place entry at;
  }
