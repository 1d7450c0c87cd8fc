-- The names of the enums, the members and the classes of a table differ, and none is the language's own.
use Rattle.std.proofs.Common.{◌≡◌, ◌≢◌, ℕ, suc, ◌+◌, ◌<◌, ◌≤◌, ◌==◌, ◌&&◌, Bool, true, false, List, [], ◌∷◌, ◌++◌, get_or, map, refl, sym, ◌∙◌, ap, arith}
use Rattle.std.specs.Prelude.{Option, Some, None, not, ◌||◌, slice_get, if◌then◌else◌}
use Rattle.std.specs.List.{AllByRecursion, filter_map, flat_map, cons_option, list_any}
use Rattle.std.specs.Option.{option_map_or}
use Rattle.std.specs.Str.{bytes_eq}
use Rattle.std.proofs.lemmas.Bool.Decides.{Decides-eqb}
use Rattle.std.proofs.lemmas.List.Elements.{filter_map-append, recursion_from_All}
use Rattle.std.proofs.lemmas.Option.{same_Some}
use Rattle.std.proofs.lemmas.Slice.Eq.{bytes_eq-Decides}
use Rattle.model_core.specs.declared.class.Enum.{Enum}
use Rattle.model_core.specs.Naming.{builtin_names}
use Rattle.model_core.proofs.Items.{item_at}
use Rattle.nddl_ast.specs.declared.declaration.Decl.{Decl}
use Rattle.nddl_ast.specs.declared.declaration.Decl.TheVariants as decls
use Rattle.nddl_ast.specs.declared.expression.Init.{Init}
use Rattle.nddl_ast.specs.declared.expression.Init.TheVariants as inits
use Rattle.nddl_ast.specs.declared.expression.Type as types
use Rattle.nddl_ast.specs.declared.name.Name.{Name}
use Rattle.nddl_symbols.specs.declared.declared.Declared.{Declared}
use Rattle.nddl_symbols.specs.declared.declared.Sort.{Sort}
use Rattle.nddl_symbols.specs.declared.declared.Sort.TheVariants as sorts
use Rattle.nddl_symbols.specs.Builtin.{is_builtin_name, is_config_name}
use Rattle.nddl_symbols.specs.Names.{declared_as, declared_members, enums_in_decl, is_class_sort, is_config_type, is_posting_word, names_from, names_in_decl, sort_of_init}
use Rattle.nddl_symbols.specs.Scope.{is_class_at, is_named, is_repeated, is_second_body, is_second_config, named_number}
use Rattle.nddl_hierarchy.specs.Facts.{Facts}
use Rattle.nddl_declarations.specs.Faults.{all_faults}
use Rattle.nddl_types.specs.Classes.{class_entries, enum_of, enums_of, is_first, is_first_class, name_of_entry}
use Rattle.nddl_laws.proofs.Apart.{AreOnce, all_both, all_weaker}
use Rattle.eu_forest.proofs.Fewer.{differs}
use Rattle.nddl_laws.proofs.First.{neither, not_second, some_position}
use Rattle.nddl_laws.proofs.Items.{texts_of}
use Rattle.nddl_laws.proofs.Numbered.{entry_is}

-- ---- names of one sort

abbrev pub is_enum_sort : Sort → Bool
is_enum_sort (sorts.Enum number) = true
is_enum_sort sort = false

abbrev pub is_member_sort : Sort → Bool
is_member_sort (sorts.Member of place) = true
is_member_sort sort = false

-- the name, if its sort passes
abbrev pub named_so : (Sort → Bool) → Declared → Option (List ℕ)
named_so test declared = if test declared.sort then Some declared.name else None

abbrev pub enum_texts : List Declared → List (List ℕ)
enum_texts some = filter_map (named_so is_enum_sort) some

abbrev pub member_texts : List Declared → List (List ℕ)
member_texts some = filter_map (named_so is_member_sort) some

members_no_enum : (number before place : ℕ) (some : List Name) → enum_texts (declared_members number before place some) ≡ []
members_no_enum number before place [] = refl
members_no_enum number before place (name ∷ more) = members_no_enum number before (place + 1) more

members_all : (number before place : ℕ) (some : List Name) → member_texts (declared_members number before place some) ≡ map (λ (name : Name). name.text) some
members_all number before place [] = refl
members_all number before place (name ∷ more) = ap (λ rest. name.text ∷ rest) (members_all number before (place + 1) more)

init_neither : (name : List ℕ) (type : types.Type) (init : Option Init)
    → (is_enum_sort (sort_of_init type init) ≡ false) × (is_member_sort (sort_of_init type init) ≡ false)
init_neither name type None = (refl, refl)
init_neither name type (Some (inits.Expr expr)) = (refl, refl)
init_neither name type (Some (inits.New creation)) = by (is_config_name creation.class.text && is_config_type type.base type.bounds)
  where
    by : (b : Bool) → (is_enum_sort (if b then sorts.Config else sorts.Object) ≡ false) × (is_member_sort (if b then sorts.Config else sorts.Object) ≡ false)
    by true = (refl, refl)
    by false = (refl, refl)

-- what a declaration gives of them
decl_enums : (number before : ℕ) (decl : Decl) (more : List Enum)
    → enum_texts (names_in_decl number before decl) ++ map (λ (one : Enum). one.name) more ≡ map (λ (one : Enum). one.name) (cons_option (enum_of decl) more)
decl_enums number before (decls.Enum at name members_at some) more =
    ap (λ rest. (name.text ∷ rest) ++ map (λ (one : Enum). one.name) more) (members_no_enum number before 0 some)
decl_enums number before (decls.Typedef at declared name) more = refl
decl_enums number before (decls.Forward at name) more = refl
decl_enums number before (decls.Class at name parent some) more = refl
decl_enums number before (decls.Variable variable) more =
    ap (λ b. cons_option (if b then Some variable.name.text else None) [] ++ map (λ (one : Enum). one.name) more)
    (init_neither variable.name.text variable.declared variable.init).0
decl_enums number before (decls.Ask ask) more = by (is_posting_word ask.word.text)
  where
    by : (b : Bool) → enum_texts (if b then declared_as number ask.label sorts.Root ∷ [] else []) ++ map (λ (one : Enum). one.name) more ≡ map (λ (one : Enum). one.name) more
    by true = refl
    by false = refl
decl_enums number before (decls.Include at file file_at) more = refl
decl_enums number before (decls.Rule class predicate body) more = refl
decl_enums number before (decls.Call call) more = refl

decl_members : (number before : ℕ) (decl : Decl) (more : List Enum)
    → member_texts (names_in_decl number before decl) ++ flat_map (λ (one : Enum). one.members) more ≡ flat_map (λ (one : Enum). one.members) (cons_option (enum_of decl) more)
decl_members number before (decls.Enum at name members_at some) more =
    ap (λ texts. texts ++ flat_map (λ (one : Enum). one.members) more) (members_all number before 0 some)
decl_members number before (decls.Typedef at declared name) more = refl
decl_members number before (decls.Forward at name) more = refl
decl_members number before (decls.Class at name parent some) more = refl
decl_members number before (decls.Variable variable) more =
    ap (λ b. cons_option (if b then Some variable.name.text else None) [] ++ flat_map (λ (one : Enum). one.members) more)
    (init_neither variable.name.text variable.declared variable.init).1
decl_members number before (decls.Ask ask) more = by (is_posting_word ask.word.text)
  where
    by : (b : Bool)
        → member_texts (if b then declared_as number ask.label sorts.Root ∷ [] else []) ++ flat_map (λ (one : Enum). one.members) more ≡ flat_map (λ (one : Enum). one.members) more
    by true = refl
    by false = refl
decl_members number before (decls.Include at file file_at) more = refl
decl_members number before (decls.Rule class predicate body) more = refl
decl_members number before (decls.Call call) more = refl

pub enums_named : (number before : ℕ) (program : List Decl) → enum_texts (names_from number before program) ≡ map (λ (one : Enum). one.name) (enums_of program)
enums_named number before [] = refl
enums_named number before (decl ∷ more) =
    filter_map-append (named_so is_enum_sort) (names_in_decl number before decl) (names_from (number + 1) (before + enums_in_decl decl) more)
    ∙ (ap (λ rest. enum_texts (names_in_decl number before decl) ++ rest) (enums_named (number + 1) (before + enums_in_decl decl) more)
    ∙ decl_enums number before decl (enums_of more))

pub members_named : (number before : ℕ) (program : List Decl) → member_texts (names_from number before program) ≡ flat_map (λ (one : Enum). one.members) (enums_of program)
members_named number before [] = refl
members_named number before (decl ∷ more) =
    filter_map-append (named_so is_member_sort) (names_in_decl number before decl) (names_from (number + 1) (before + enums_in_decl decl) more)
    ∙ (ap (λ rest. member_texts (names_in_decl number before decl) ++ rest) (members_named (number + 1) (before + enums_in_decl decl) more)
    ∙ decl_members number before decl (enums_of more))

-- ---- two names of one spelling

-- the name stands at this place or at a later one
abbrev StandAt : List Declared → ℕ → List Declared → Type 0
StandAt names from some = (offset : ℕ) (declared : Declared) → slice_get some offset ≡ Some declared → slice_get names (from + offset) ≡ Some declared

module _ (facts : Facts) (fine : all_faults facts ≡ []) where
  -- names of one spelling at two places are both classes
  once_at : (one other : ℕ) (here there : Declared) → (one ≡ other → ⊥) → slice_get facts.names one ≡ Some here → slice_get facts.names other ≡ Some there
      → here.name ≡ there.name → is_class_sort here.sort ≡ true
  once_at one other here there differ at at_other same =
      let position = some_position (is_named false here.name) facts.names 0 one here at ((bytes_eq-Decides here.name here.name).1 refl) in
      let named_other : named_number false facts.names there.name ≡ Some position.0 = ap (named_number false facts.names) (sym same) ∙ position.1 in
      by position.0 position.1 named_other (position.0 == one) refl
    where
      repeated : (entry : ℕ) (declared : Declared) → slice_get facts.names entry ≡ Some declared → is_repeated facts.names entry declared ≡ false
      repeated entry declared at =
          (neither (is_repeated facts.names entry declared) (is_second_body facts.names entry declared || is_second_config facts.names entry declared)
          (neither (is_builtin_name declared.name) (is_repeated facts.names entry declared
          || (is_second_body facts.names entry declared || is_second_config facts.names entry declared)) (not_second facts fine entry declared at)).1).0

      test : (first entry : ℕ) (declared : Declared) → slice_get facts.names entry ≡ Some declared → named_number false facts.names declared.name ≡ Some first
          → (not (first == entry) && not (is_class_sort declared.sort && is_class_at facts.names first)) ≡ false
      test first entry declared at named =
          sym (ap (λ o. option_map_or (λ (n : ℕ). not (n == entry) && not (is_class_sort declared.sort && is_class_at facts.names n)) o false) named) ∙ repeated entry declared at

      both : (one other : Bool) → (not false && not (one && other)) ≡ false → (one ≡ true) × (other ≡ true)
      both true true is = (refl, refl)
      both true false is = cc
      both false other is = cc

      by : (first : ℕ) → named_number false facts.names here.name ≡ Some first → named_number false facts.names there.name ≡ Some first
          → (b : Bool) → (first == one) ≡ b → is_class_sort here.sort ≡ true
      by first named named_there false is =
          (both (is_class_sort here.sort) (is_class_at facts.names first)
          (sym (ap (λ b. not b && not (is_class_sort here.sort && is_class_at facts.names first)) is) ∙ test first one here at named)).0
      by first named named_there true is =
          let own : first ≡ one = (Decides-eqb first one).0 is in
          let another : (first == other) ≡ false = differs first other (λ same. differ (sym own ∙ same)) in
          let class = (both (is_class_sort there.sort) (is_class_at facts.names first)
          (sym (ap (λ b. not b && not (is_class_sort there.sort && is_class_at facts.names first)) another) ∙ test first other there at_other named_there)).1 in
          sym (ap (λ o. option_map_or (λ (d : Declared). is_class_sort d.sort) o false) (ap (slice_get facts.names) own ∙ at)) ∙ class

  -- a name of another sort differs from those behind it of a sort that isn't a class
  module _ (one two : Sort → Bool) (first : (sort : Sort) → one sort ≡ true → is_class_sort sort ≡ false) where
    behind : (place from : ℕ) (here : Declared) (some : List Declared) → slice_get facts.names place ≡ Some here → place < from → one here.sort ≡ true
        → StandAt facts.names from some → AllByRecursion (λ name. here.name ≢ name) (filter_map (named_so two) some)
    behind place from here [] at less passes stand = tt
    behind place from here (there ∷ more) at less passes stand =
        by (two there.sort) (behind place (from + 1) here more at (omega arith) passes (λ offset declared is.
        let e : from + suc offset ≡ from + 1 + offset = omega arith in sym (ap (slice_get facts.names) e) ∙ stand (suc offset) declared is))
      where
        apart : here.name ≢ there.name
        apart same =
            let e : from + 0 ≡ from = omega arith in
            let class = once_at place from here there (λ equal. omega arith) at (sym (ap (slice_get facts.names) e) ∙ stand 0 there refl) same in
            let never : true ≡ false = sym class ∙ first here.sort passes in cc

        by : (b : Bool) → AllByRecursion (λ name. here.name ≢ name) (filter_map (named_so two) more)
            → AllByRecursion (λ name. here.name ≢ name) (cons_option (if b then Some there.name else None) (filter_map (named_so two) more))
        by true rest = (apart, rest)
        by false rest = rest

  stand_later : (from : ℕ) (here : Declared) (more : List Declared) → StandAt facts.names from (here ∷ more) → StandAt facts.names (from + 1) more
  stand_later from here more stand = λ offset declared is.
      let e : from + suc offset ≡ from + 1 + offset = omega arith in sym (ap (slice_get facts.names) e) ∙ stand (suc offset) declared is

  stand_here : (from : ℕ) (here : Declared) (more : List Declared) → StandAt facts.names from (here ∷ more) → slice_get facts.names from ≡ Some here
  stand_here from here more stand = let e : from + 0 ≡ from = omega arith in sym (ap (slice_get facts.names) e) ∙ stand 0 here refl

  -- names of one sort that isn't a class
  pub once_so : (test : Sort → Bool) → ((sort : Sort) → test sort ≡ true → is_class_sort sort ≡ false) → (from : ℕ) (some : List Declared)
      → StandAt facts.names from some → AreOnce (filter_map (named_so test) some)
  once_so test first from [] stand = tt
  once_so test first from (here ∷ more) stand =
      by (test here.sort) refl (once_so test first (from + 1) more (stand_later from here more stand))
    where
      by : (b : Bool) → test here.sort ≡ b → AreOnce (filter_map (named_so test) more)
          → AreOnce (cons_option (if b then Some here.name else None) (filter_map (named_so test) more))
      by true passes rest = (behind test test first from (from + 1) here more (stand_here from here more stand) (omega arith) passes (stand_later from here more stand), rest)
      by false fails rest = rest

  -- names of two such sorts
  module _ (one two : Sort → Bool) (first : (sort : Sort) → one sort ≡ true → is_class_sort sort ≡ false)
      (second : (sort : Sort) → two sort ≡ true → is_class_sort sort ≡ false) (apart : (sort : Sort) → one sort ≡ true → two sort ≡ true → ⊥) where
    pub cross_so : (from : ℕ) (some : List Declared) → StandAt facts.names from some
        → AllByRecursion (λ a. AllByRecursion (λ b. a ≢ b) (filter_map (named_so two) some)) (filter_map (named_so one) some)
    cross_so from [] stand = tt
    cross_so from (here ∷ more) stand =
        by (one here.sort) (two here.sort) refl refl (cross_so (from + 1) more (stand_later from here more stand))
      where
        at : slice_get facts.names from ≡ Some here
        at = stand_here from here more stand

        by : (b c : Bool) → one here.sort ≡ b → two here.sort ≡ c
            → AllByRecursion (λ a. AllByRecursion (λ b. a ≢ b) (filter_map (named_so two) more)) (filter_map (named_so one) more)
            → AllByRecursion (λ a. AllByRecursion (λ b. a ≢ b) (cons_option (if c then Some here.name else None) (filter_map (named_so two) more)))
            (cons_option (if b then Some here.name else None) (filter_map (named_so one) more))
        by true true is also rest = absurd (apart here.sort is also)
        by true false is also rest = (behind one two first from (from + 1) here more at (omega arith) is (stand_later from here more stand), rest)
        by false true is also rest =
            all_both (λ a. a ≢ here.name) (λ a. AllByRecursion (λ b. a ≢ b) (filter_map (named_so two) more)) (filter_map (named_so one) more)
            (all_weaker (λ a. here.name ≢ a) (λ a. a ≢ here.name) (filter_map (named_so one) more) (λ a differ same. differ (sym same))
            (behind two one second from (from + 1) here more at (omega arith) also (stand_later from here more stand))) rest
        by false false is also rest = rest

  -- ---- classes

  abbrev pub entries : List ℕ
  entries = class_entries facts.names 0 facts.names

  abbrev pub class_texts : List ℕ → List (List ℕ)
  class_texts some = map (name_of_entry facts.names) some

  and_one : (one other : Bool) → (one && other) ≡ true → one ≡ true
  and_one true other is = refl
  and_one false other is = cc

  and_other : (one other : Bool) → (one && other) ≡ true → other ≡ true
  and_other true other is = is
  and_other false other is = cc

  -- a class among the entries
  pub record IsOwnClass (entry : ℕ) : Type 0 where
    pub declared : Declared
    pub there : slice_get facts.names entry ≡ Some declared
    pub sort : is_class_sort declared.sort ≡ true
    pub own : named_number false facts.names declared.name ≡ Some entry

  first_own : (entry : ℕ) (declared : Declared) → is_first facts.names entry declared ≡ true → named_number false facts.names declared.name ≡ Some entry
  first_own entry declared is = by (named_number false facts.names declared.name) refl is
    where
      by : (o : Option ℕ) → named_number false facts.names declared.name ≡ o → option_map_or (λ (first : ℕ). first == entry) o false ≡ true
          → named_number false facts.names declared.name ≡ Some entry
      by None named is = absurd (let e : false ≡ true = is in cc)
      by (Some found) named is = named ∙ ap (λ n. Some n) ((Decides-eqb found entry).0 is)

  own_class : (number : ℕ) (some : List Declared) → StandAt facts.names number some → (place entry : ℕ) → slice_get (class_entries facts.names number some) place ≡ Some entry
      → (number ≤ entry) × IsOwnClass entry
  own_class number some stand place entry at =
      let it = entry_is facts.names number some place entry at in
      let e : entry ≡ number + it.offset = it.is_entry in (
        omega arith,
        record {
          declared = it.declared;
          there = ap (slice_get facts.names) e ∙ stand it.offset it.declared it.there;
          sort = and_one (is_class_sort it.declared.sort) (is_first facts.names entry it.declared) it.first;
          own = first_own entry it.declared (and_other (is_class_sort it.declared.sort) (is_first facts.names entry it.declared) it.first);
        },
      )

  pub name_is : (entry : ℕ) (is : IsOwnClass entry) → name_of_entry facts.names entry ≡ is.declared.name
  name_is entry is = ap (λ o. option_map_or (λ (d : Declared). d.name) o []) is.there

  -- what is so of each class is so of the names of all
  pub all_classes : (P : List ℕ → Type 0) (number : ℕ) (some : List Declared) → StandAt facts.names number some
      → ((entry : ℕ) → number ≤ entry → IsOwnClass entry → P (name_of_entry facts.names entry)) → AllByRecursion P (class_texts (class_entries facts.names number some))
  all_classes P number some stand each =
      texts_of P (name_of_entry facts.names) (class_entries facts.names number some)
      (recursion_from_All (λ entry. P (name_of_entry facts.names entry)) (class_entries facts.names number some) (λ k d within.
      let is = own_class number some stand k (get_or (class_entries facts.names number some) k d) (item_at (class_entries facts.names number some) k d within) in
      each (get_or (class_entries facts.names number some) k d) is.0 is.1))

  pub classes_once : (number : ℕ) (some : List Declared) → StandAt facts.names number some → AreOnce (class_texts (class_entries facts.names number some))
  classes_once number [] stand = tt
  classes_once number (here ∷ more) stand =
      by (is_first_class facts.names number here) refl (classes_once (number + 1) more (stand_later number here more stand))
    where
      by : (b : Bool) → is_first_class facts.names number here ≡ b → AreOnce (class_texts (class_entries facts.names (number + 1) more))
          → AreOnce (class_texts ((if b then number ∷ [] else []) ++ class_entries facts.names (number + 1) more))
      by false is rest = rest
      by true is rest = (
        all_classes (λ name. name_of_entry facts.names number ≢ name) (number + 1) more (stand_later number here more stand) (λ entry less other same.
            let own = first_own number here (and_other (is_class_sort here.sort) (is_first facts.names number here) is) in
            let called : name_of_entry facts.names number ≡ here.name = ap (λ o. option_map_or (λ (d : Declared). d.name) o []) (stand_here number here more stand) in
            let alike : here.name ≡ other.declared.name = sym called ∙ (same ∙ name_is entry other) in
            let e : number ≡ entry = same_Some number entry (sym own ∙ (ap (named_number false facts.names) alike ∙ other.own)) in
            omega arith),
        rest,
      )

  pub whole : StandAt facts.names 0 facts.names
  whole = λ offset declared is. let e : offset ≡ 0 + offset = omega arith in sym (ap (slice_get facts.names) e) ∙ is

  -- names of another sort are no names of classes
  pub no_class_so : (test : Sort → Bool) → ((sort : Sort) → test sort ≡ true → is_class_sort sort ≡ false) → (from : ℕ) (some : List Declared)
      → StandAt facts.names from some → AllByRecursion (λ a. AllByRecursion (λ b. a ≢ b) (class_texts entries)) (filter_map (named_so test) some)
  no_class_so test first from [] stand = tt
  no_class_so test first from (here ∷ more) stand =
      by (test here.sort) refl (no_class_so test first (from + 1) more (stand_later from here more stand))
    where
      differ : (entry : ℕ) → IsOwnClass entry → test here.sort ≡ true → here.name ≢ name_of_entry facts.names entry
      differ entry is passes same =
          let at = stand_here from here more stand in
          let class = once_at from entry here is.declared
          (λ equal.
          let one : here ≡ is.declared = same_Some here is.declared (sym at ∙ (ap (slice_get facts.names) equal ∙ is.there)) in
          let never : true ≡ false = sym (ap (λ (d : Declared). is_class_sort d.sort) one ∙ is.sort) ∙ first here.sort passes in cc)
          at is.there (same ∙ name_is entry is) in
          let never : true ≡ false = sym class ∙ first here.sort passes in cc

      by : (b : Bool) → test here.sort ≡ b → AllByRecursion (λ a. AllByRecursion (λ b. a ≢ b) (class_texts entries)) (filter_map (named_so test) more)
          → AllByRecursion (λ a. AllByRecursion (λ b. a ≢ b) (class_texts entries)) (cons_option (if b then Some here.name else None) (filter_map (named_so test) more))
      by true passes rest = (all_classes (λ b. here.name ≢ b) 0 facts.names whole (λ entry less is. differ entry is passes), rest)
      by false fails rest = rest

  -- ---- the language's own

  none_of : (words : List (List ℕ)) (name : List ℕ) → list_any (λ word. bytes_eq name word) words ≡ false → AllByRecursion (λ word. name ≢ word) words
  none_of [] name is = tt
  none_of (word ∷ more) name is =
      let parts = neither (bytes_eq name word) (list_any (λ other. bytes_eq name other) more) is in (
        (λ same. let told = (bytes_eq-Decides name word).1 same in let never : true ≡ false = sym told ∙ parts.0 in cc),
        none_of more name parts.1,
      )

  pub not_builtin : (entry : ℕ) (declared : Declared) → slice_get facts.names entry ≡ Some declared → AllByRecursion (λ word. declared.name ≢ word) builtin_names
  not_builtin entry declared at =
      none_of builtin_names declared.name
      (neither (is_builtin_name declared.name) (is_repeated facts.names entry declared
      || (is_second_body facts.names entry declared || is_second_config facts.names entry declared)) (not_second facts fine entry declared at)).0

  pub so_not_builtin : (test : Sort → Bool) (from : ℕ) (some : List Declared) → StandAt facts.names from some
      → AllByRecursion (λ a. AllByRecursion (λ word. a ≢ word) builtin_names) (filter_map (named_so test) some)
  so_not_builtin test from [] stand = tt
  so_not_builtin test from (here ∷ more) stand =
      by (test here.sort) (so_not_builtin test (from + 1) more (stand_later from here more stand))
    where
      by : (b : Bool) → AllByRecursion (λ a. AllByRecursion (λ word. a ≢ word) builtin_names) (filter_map (named_so test) more)
          → AllByRecursion (λ a. AllByRecursion (λ word. a ≢ word) builtin_names) (cons_option (if b then Some here.name else None) (filter_map (named_so test) more))
      by true rest = (not_builtin from here (stand_here from here more stand), rest)
      by false rest = rest
