-- A table leaves out nothing that is declared.
use Rattle.std.proofs.Common.{◌≡◌, ℕ, suc, ◌+◌, ◌<◌, Bool, true, false, ◌&&◌, List, [], ◌∷◌, ◌++◌, length, get_or, map, refl, sym, ◌∙◌, ap, subst, arith}
use Rattle.std.specs.Prelude.{Option, Some, All, Contains, slice_get, nat_lt}
use Rattle.std.specs.List.{filter_map, flat_map}
use Rattle.std.specs.Option.{option_and_then, option_map, option_map_or}
use Rattle.std.proofs.lemmas.List.Elements.{All-contains, Contains-append_right}
use Rattle.std.proofs.lemmas.Option.{slice_get-map}
use Rattle.model_core.specs.declared.class.Enum.{Enum}
use Rattle.model_core.specs.declared.class.Pred.{Pred}
use Rattle.model_core.specs.declared.class.PredKind.TheVariants as uses
use Rattle.model_core.specs.Naming.{names_of, token_part_words}
use Rattle.model_core.proofs.Items.{item_at}
use Rattle.nddl_ast.specs.declared.declaration.Decl.{Decl}
use Rattle.nddl_ast.specs.declared.declaration.Decl.TheVariants as decls
use Rattle.nddl_ast.specs.declared.declaration.FileDecls.{FileDecls}
use Rattle.nddl_ast.specs.declared.declaration.Member.{Member}
use Rattle.nddl_ast.specs.declared.declaration.Member.TheVariants as members
use Rattle.nddl_ast.specs.declared.declaration.PredicatePart.{PredicatePart}
use Rattle.nddl_ast.specs.declared.declaration.Typed.{Typed}
use Rattle.nddl_ast.specs.declared.kind.TextKind.TheVariants as faults
use Rattle.nddl_ast.specs.declared.name.Name.{Name}
use Rattle.nddl_symbols.specs.Joined.{joined_decls}
use Rattle.nddl_symbols.specs.declared.declared.Declared.{Declared}
use Rattle.nddl_symbols.specs.declared.declared.Sort.TheVariants as sorts
use Rattle.nddl_symbols.specs.declared.scope.Meaning.TheVariants as meanings
use Rattle.nddl_symbols.specs.Finding.{faults_here}
use Rattle.nddl_symbols.specs.Names.{declared_as, is_class_sort, scope_names}
use Rattle.nddl_symbols.specs.Repeats.{repeated_faults}
use Rattle.nddl_symbols.specs.Scope.{fault_if, named_number}
use Rattle.nddl_hierarchy.specs.Ancestors.{above}
use Rattle.nddl_hierarchy.specs.Decls.{decl_members, decl_of_name, declaration_with_body, members_of}
use Rattle.nddl_hierarchy.specs.Facts.{Facts}
use Rattle.nddl_declarations.specs.Known.{AreFacts, all_type_faults}
use Rattle.nddl_hierarchy.specs.Inherited.{words_noted}
use Rattle.nddl_declarations.specs.Members.{parameters_of, typed_faults, typed_names}
use Rattle.nddl_declarations.specs.Declares.{variables_of}
use Rattle.nddl_declarations.specs.Faults.{all_faults}
use Rattle.nddl_types.specs.Classes.{class_entries, class_fields, class_number, class_numbers, classes_of, compiled_class, enum_of, enums_of, is_first, is_first_class, line_down}
use Rattle.nddl_types.specs.Predicates.{builtin_preds, class_preds, given_preds, pred_of, preds_at, preds_of}
use Rattle.nddl_laws.specs.Given.{AreGiven}
use Rattle.nddl_types.specs.declared.table.TypeTable.{TypeTable}
use Rattle.nddl_types.specs.Table.{IsTable}
use Rattle.nddl_laws.specs.Declared.{HasDeclared, HasDeclaredClass, HasDeclaredPred}
use Rattle.nddl_laws.proofs.Apart.{Item, field_name}
use Rattle.nddl_laws.proofs.Contained.{contains_at, contains_flat, contains_kept}
use Rattle.nddl_laws.proofs.Declared.{IsRightDecl, right_decls}
use Rattle.nddl_laws.proofs.Down.{line_alone, line_below}
use Rattle.nddl_laws.proofs.First.{StandsFor, own_body, stands_for, stands_from}
use Rattle.nddl_laws.proofs.Items.{class_items, given_items, items_at, member_item, rooted_of}
use Rattle.nddl_laws.proofs.Lists.{none_flat}
use Rattle.nddl_laws.proofs.Members.{IsRightAt, fields_names, members_right}
use Rattle.nddl_laws.proofs.Standing.{IsClassEntry, class_stands, no_parent, under_builtin, under_class}
use Rattle.nddl_laws.proofs.WholeTypes.{names_kept}
use Rattle.nddl_laws.proofs.Nothing.{none_first}
use Rattle.nddl_laws.proofs.Numbered.{listed, numbered}

module _ (facts : Facts) (are : AreFacts (scope_names facts.program) facts.program facts) (fine : all_faults facts ≡ [])
    (right : All (IsRightDecl facts) facts.program) where
  abbrev enums : List Enum
  enums = enums_of facts.program

  -- a class stands last in its own line
  ends_line : (entry : ℕ) → IsClassEntry facts.names entry → (front : List ℕ) × (line_down facts entry ≡ front ++ entry ∷ [])
  ends_line entry is = elim (class_stands facts are fine entry is) [
    | no_parent up none ↦ ([], line_alone facts.parents entry none)
    | under_builtin number few up none ↦ ([], line_alone facts.parents entry none)
    | under_class other up under class first decl declared there body ↦
        (line_down facts other, line_below facts.parents entry other under (rooted_of facts are fine right entry is under))
  ]

  -- so what it has of its own is among what it has
  own_of_line : {Y : Type 0} (f : ℕ → List Y) (entry : ℕ) (y : Y) → IsClassEntry facts.names entry → Contains (f entry) y → Contains (flat_map f (line_down facts entry)) y
  own_of_line f entry y is has =
      let line = ends_line entry is in
      contains_flat f (line_down facts entry) entry y
      (subst (λ some. Contains some entry) (sym line.1) (Contains-append_right line.0 (entry ∷ []) entry (0, omega arith, refl))) has

  -- a class by its number
  record IsNumberOf (entry number : ℕ) : Type 0 where
    place : ℕ
    is_number : number ≡ 4 + place
    there : slice_get (class_entries facts.names 0 facts.names) place ≡ Some entry
    told : class_number facts.names (meanings.Entry entry) ≡ number

  numbered_class : (entry : ℕ) (found : Declared) → slice_get facts.names entry ≡ Some found → is_first_class facts.names entry found ≡ true
      → (number : ℕ) × IsNumberOf entry number
  numbered_class entry found there first =
      let e : 0 + entry ≡ entry = omega arith in
      let it = listed facts.names 0 facts.names entry found there (ap (λ n. is_first_class facts.names n found) e ∙ first) in
      let at = it.there ∙ ap (λ n. Some n) e in
      let is = numbered facts.names 4 0 facts.names it.place entry at in
      let same : entry ≡ is.offset = (let sum : entry ≡ 0 + is.offset = is.is_entry in omega arith) in (
        4 + it.place,
        record {
          place = it.place;
          is_number = refl;
          there = at;
          told = ap (λ o. option_map_or (λ (number : ℕ). number) o 0)
              (ap (slice_get (class_numbers facts.names 4 0 facts.names)) same ∙ is.has_number);
        },
      )

  -- the class of the number is that of the entry
  class_there : (entry number : ℕ) → IsNumberOf entry number → slice_get (classes_of facts enums) number ≡ Some (compiled_class facts enums entry)
  class_there entry number is =
      let e : suc (suc (suc (suc is.place))) ≡ number = (let n = is.is_number in omega arith) in
      let P : ℕ → Type 0 = λ n. slice_get (classes_of facts enums) n ≡ Some (compiled_class facts enums entry) in
      subst P e (slice_get-map (compiled_class facts enums) (class_entries facts.names 0 facts.names) is.place ∙ ap (option_map (compiled_class facts enums)) is.there)

  -- the predicate that a member declares is there
  pred_there : (table : TypeTable) (preds : table.preds ≡ preds_of facts enums) (entry number at : ℕ) (name : Name) (parts : List PredicatePart)
      → IsClassEntry facts.names entry → IsNumberOf entry number → Contains (members_of facts.names facts.program entry) (members.Predicate at name parts)
      → HasDeclaredPred table number name parts
  pred_there table preds entry number at name parts is counted has =
      let class = class_number facts.names (meanings.Entry entry) in
      let some = members_of facts.names facts.program entry in
      let found : Pred = record { class = class; name = name.text; params = variables_of facts enums (parameters_of parts); kind = uses.Plain; rules = [] } in
      let own = contains_kept (pred_of facts enums class) some (members.Predicate at name parts) found has refl in
      let here = Contains-append_right (given_preds class (above facts.names facts.program entry)) (filter_map (pred_of facts enums class) some) found own in
      let inside = own_of_line (preds_at facts enums class) entry found is here in
      let files = contains_flat (class_preds facts enums) (class_entries facts.names 0 facts.names) entry found
      (contains_at (class_entries facts.names 0 facts.names) counted.place entry counted.there) inside in
      let all = Contains-append_right (builtin_preds 2 2) (builtin_preds 3 3 ++ flat_map (class_preds facts enums) (class_entries facts.names 0 facts.names)) found
      (Contains-append_right (builtin_preds 3 3) (flat_map (class_preds facts enums) (class_entries facts.names 0 facts.names)) found files) in
      let all_right = members_right facts right entry in
      let member = All-contains (IsRightAt facts all_right.number) some (members.Predicate at name parts) all_right.each has in
      let params = parameters_of parts in
      let rest = repeated_faults all_right.number (words_noted [] token_part_words) (typed_names params)
      ++ faults_here all_right.number name.at (fault_if (nat_lt 32 (length params)) faults.LimitParameters) in
      let types = none_flat (λ (typed : Typed). all_type_faults facts all_right.number typed.declared) params (none_first (typed_faults facts all_right.number params) rest member.1) in
      record {
        found = found;
        there = subst (λ list. Contains list found) (sym preds) all;
        class = counted.told;
        called = refl;
        params = names_kept facts are fine right enums all_right.number params types;
      }

  -- the field that a member declares is there
  field_there : (entry : ℕ) (typed : Typed) → IsClassEntry facts.names entry → Contains (members_of facts.names facts.program entry) (members.Field typed)
      → Contains (names_of (class_fields facts enums entry)) typed.name.text
  field_there entry typed is has =
      let some = members_of facts.names facts.program entry in
      let item : Item = (true, typed.name.text) in
      let own = contains_kept member_item some (members.Field typed) item has refl in
      let here = Contains-append_right (given_items (above facts.names facts.program entry)) (filter_map member_item some) item own in
      let inside = own_of_line (items_at facts) entry item is here in
      subst (λ names. Contains names typed.name.text) (sym (fields_names facts are fine right enums entry))
      (contains_kept field_name (class_items facts entry) item typed.name.text inside refl)

  module _ (table : TypeTable) (classes : table.classes ≡ classes_of facts enums) (preds : table.preds ≡ preds_of facts enums) where
    -- a class that is declared, with these members
    class_left : (entry : ℕ) (declared : Declared) (name : Name) (some : List Member) → slice_get facts.names entry ≡ Some declared
        → is_class_sort declared.sort ≡ true → declared.name ≡ name.text
        → ((first : StandsFor facts fine entry declared) (member : Member) → Contains some member → Contains (members_of facts.names facts.program first.first) member)
        → HasDeclaredClass table name some
    class_left entry declared name some at sort called own =
        let first = stands_for facts fine entry declared at sort in
        let is : IsClassEntry facts.names first.first = record { declared = first.found; there = first.there; sort = class_sort (is_class_sort first.found.sort) (is_first facts.names first.first first.found) first.is_first } in
        let number = numbered_class first.first first.found first.there first.is_first in
        record {
          number = number.0;
          class = compiled_class facts enums first.first;
          is_class = ap (λ list. slice_get list number.0) classes ∙ class_there first.first number.0 number.1;
          called = ap (λ o. option_map_or (λ (d : Declared). d.name) o []) first.there ∙ (first.same ∙ called);
          fields = λ typed has. field_there first.first typed is (own first (members.Field typed) has);
          preds = λ place pred parts has. pred_there table preds first.first number.0 place pred parts is number.1 (own first (members.Predicate place pred parts) has);
        }
      where
        class_sort : (one other : Bool) → (one && other) ≡ true → one ≡ true
        class_sort true other is = refl
        class_sort false other is = cc

    -- the members of a declared body
    body_members : (offset at : ℕ) (name : Name) (parent : Option Name) (some : List Member) (entry : ℕ) → slice_get facts.program offset ≡ Some (decls.Class at name parent some)
        → slice_get facts.names entry ≡ Some (declared_as offset name sorts.Body) → (first : StandsFor facts fine entry (declared_as offset name sorts.Body))
        → members_of facts.names facts.program first.first ≡ some
    body_members offset at name parent some entry there stands first =
        let body = own_body facts fine entry (declared_as offset name sorts.Body) stands refl in
        let named : named_number true facts.names first.found.name ≡ Some entry = ap (named_number true facts.names) first.same ∙ body in
        let decl : declaration_with_body facts.names facts.program first.found ≡ Some (decls.Class at name parent some) =
        ap (option_and_then (λ (number : ℕ). option_and_then (decl_of_name facts.program) (slice_get facts.names number))) named
        ∙ (ap (option_and_then (decl_of_name facts.program)) stands ∙ there) in
        ap (λ o. option_map_or decl_members (option_and_then (declaration_with_body facts.names facts.program) o) []) first.there
        ∙ ap (λ o. option_map_or decl_members o []) decl

    decl_left : (enum_same : table.enums ≡ enums) (offset : ℕ) (decl : Decl) → slice_get facts.program offset ≡ Some decl → HasDeclared table decl
    decl_left same offset (decls.Enum at name members_at some) there =
        subst (λ list. Contains list (record { name = name.text; members = map (λ (member : Name). member.text) some })) (sym same)
        (contains_kept enum_of facts.program (decls.Enum at name members_at some) (record { name = name.text; members = map (λ (member : Name). member.text) some })
        (contains_at facts.program offset (decls.Enum at name members_at some) there) refl)
    decl_left same offset (decls.Forward at name) there =
        let stands = stands_from 0 0 facts.program offset (decls.Forward at name) name sorts.Forward there (λ number before. refl) in
        let e : 0 + offset ≡ offset = omega arith in
        let at_entry = ap (λ names. slice_get names stands.0) are.is_names ∙ (stands.1 ∙ ap (λ n. Some (declared_as n name sorts.Forward)) e) in
        class_left stands.0 (declared_as offset name sorts.Forward) name [] at_entry refl refl
        (λ first member has. absurd (let less : has.0 < 0 = has.1 in omega arith))
    decl_left same offset (decls.Class at name parent some) there =
        let stands = stands_from 0 0 facts.program offset (decls.Class at name parent some) name sorts.Body there (λ number before. refl) in
        let e : 0 + offset ≡ offset = omega arith in
        let at_entry = ap (λ names. slice_get names stands.0) are.is_names ∙ (stands.1 ∙ ap (λ n. Some (declared_as n name sorts.Body)) e) in
        class_left stands.0 (declared_as offset name sorts.Body) name some at_entry refl refl
        (λ first member has. subst (λ list. Contains list member) (sym (body_members offset at name parent some stands.0 there at_entry first)) has)
    decl_left same offset (decls.Include at file file_at) there = tt
    decl_left same offset (decls.Typedef at declared name) there = tt
    decl_left same offset (decls.Rule class predicate body) there = tt
    decl_left same offset (decls.Variable variable) there = tt
    decl_left same offset (decls.Call call) there = tt
    decl_left same offset (decls.Ask ask) there = tt

    pub all_left : table.enums ≡ enums → All (HasDeclared table) facts.program
    all_left same = λ k d within. decl_left same k (get_or facts.program k d) (item_at facts.program k d within)

-- a table of files that some shelf gives leaves nothing out
pub leaves_nothing_out : (files : List FileDecls) (table : TypeTable) → AreGiven files → IsTable files table → All (HasDeclared table) (joined_decls files)
leaves_nothing_out files table given is =
    let facts = is.facts in
    let P : List Decl → Type 0 = λ program. AreFacts (scope_names program) program facts in
    let others = is.entries.others in
    let classes = others.classes_are ∙ ap (classes_of facts) is.entries.enums_are in
    let preds = others.preds_are ∙ ap (preds_of facts) is.entries.enums_are in
    subst (All (HasDeclared table)) is.are.is_program
    (all_left facts (subst P (sym is.are.is_program) is.are) is.fine (right_decls files table is given) table classes preds is.entries.enums_are)
