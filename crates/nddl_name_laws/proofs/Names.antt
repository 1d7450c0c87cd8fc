-- Each name of an object stands for one, of its declared class.
use Rattle.std.proofs.Common.{◌≡◌, ℕ, zero, suc, ◌+◌, ◌<◌, ◌==◌, ◌&&◌, ◌||◌, Bool, true, false, List, [], ◌∷◌, ◌++◌, length, map, ℤ, pos, refl, sym, ◌∙◌, ap, subst, arith}
use Rattle.std.specs.Prelude.{Option, Some, None, All, Contains, not, is_none, slice_get, if◌then◌else◌}
use Rattle.std.specs.Option.{option_and_then, option_map, option_map_or, option_or}
use Rattle.std.proofs.lemmas.Bool.Decides.{Decides-eqb}
use Rattle.std.proofs.lemmas.List.{length-map}
use Rattle.std.proofs.lemmas.List.Elements.{All-append, All-cons, All-nil, Contains-append_right}
use Rattle.std.proofs.lemmas.Option.{same_Some, none-some, slice_get-map, slice_get_within}
use Rattle.std.proofs.lemmas.Slice.Eq.{bytes_eq-Decides}
use Rattle.eu_forest.specs.Members.{list_at}
use Rattle.model_core.proofs.Items.{item_all, item_at}
use Rattle.nddl_ast.specs.declared.declaration.Decl.{Decl}
use Rattle.nddl_ast.specs.declared.declaration.Decl.TheVariants as decls
use Rattle.nddl_ast.specs.declared.declaration.FileDecls.{FileDecls}
use Rattle.nddl_ast.specs.declared.expression.Creation.{Creation}
use Rattle.nddl_ast.specs.declared.expression.Init.{Init}
use Rattle.nddl_ast.specs.declared.expression.Init.TheVariants as inits
use Rattle.nddl_ast.specs.declared.expression.Type as types
use Rattle.nddl_ast.specs.declared.kind.TextKind.{TextKind}
use Rattle.nddl_ast.specs.declared.kind.TextKind.TheVariants as faults
use Rattle.nddl_ast.specs.declared.name.Name.{Name}
use Rattle.nddl_ast.specs.declared.statement.Ask.{Ask}
use Rattle.nddl_ast.specs.declared.statement.Variable.{Variable}
use Rattle.nddl_symbols.specs.declared.declared.Declared.{Declared}
use Rattle.nddl_symbols.specs.declared.declared.Sort.TheVariants as sorts
use Rattle.nddl_symbols.specs.declared.fault.Fault.{Fault}
use Rattle.nddl_symbols.specs.declared.scope.Meaning.{Meaning}
use Rattle.nddl_symbols.specs.declared.scope.Meaning.TheVariants as meanings
use Rattle.nddl_symbols.specs.Builtin.{is_builtin_name, is_config_name}
use Rattle.nddl_symbols.specs.Finding.{earlier_fault, faults_here}
use Rattle.nddl_symbols.specs.Names.{declared_as, declared_members, enums_in_decl, is_class_sort, is_config_sort, is_config_type, is_posting_word, names_from, names_in_decl, scope_names, sort_of_init, sort_of_variable}
use Rattle.nddl_symbols.specs.Scope.{fault_if, is_class_at, is_named, is_repeated, is_second_body, is_second_config, meaning_of, named_number}
use Rattle.nddl_typeexpr.specs.declared.kind.TypeKind.{TypeKind}
use Rattle.nddl_typeexpr.specs.declared.kind.TypeKind.TheVariants as kinds
use Rattle.nddl_typeexpr.specs.Bases.{base_kind}
use Rattle.nddl_hierarchy.specs.Facts.{Facts}
use Rattle.nddl_declarations.specs.Classes.{class_meaning_fault}
use Rattle.nddl_declarations.specs.Faults.{all_faults}
use Rattle.nddl_declarations.specs.Known.{all_type_faults}
use Rattle.nddl_types.specs.declared.table.TypeTable.{TypeTable}
use Rattle.nddl_types.specs.Classes.{class_entries, class_number}
use Rattle.nddl_types.specs.Table.{IsTable}
use Rattle.nddl_resolve.specs.declared.denoted.Denoted.TheVariants as denoted
use Rattle.nddl_resolve.specs.Fields.{type_value}
use Rattle.nddl_resolve.specs.Files.{variable_type}
use Rattle.nddl_constructors.specs.Constants.{constants_faults}
use Rattle.nddl_constructors.specs.Creations.{class_alone, creation_faults, is_no_object, is_of_class, is_wrong_count, made_fault, meaning_wants}
use Rattle.nddl_constructors.specs.Formals.{around_formals}
use Rattle.nddl_constructors.specs.Objects.{creation_of_faults, first_close, foreign_fault, is_closed, is_foreign_class, new_faults, object_faults, settings_faults, variable_faults_by, writing_faults, writing_faults_from, written_faults}
use Rattle.nddl_constructors.specs.Wants.{class_wants}
use Rattle.nddl_construction.specs.declared.made.MadeObject.{MadeObject}
use Rattle.nddl_construction.specs.declared.made.NamedObject.TheVariants as made_names
use Rattle.nddl_construction.specs.Classes.{class_taking, made_class}
use Rattle.nddl_resolve.specs.Paths.{Surroundings}
use Rattle.nddl_objects.specs.Objects.{Progress, all_declared, first_progress, last_progress, progress_fault}
use Rattle.nddl_env.specs.Listing.{class_population, entry_population, populations}
use Rattle.nddl_env.specs.Objects.{made_object, objects_of}
use Rattle.nddl_laws.specs.Given.{AreGiven}
use Rattle.nddl_laws.proofs.Contained.{contains_at}
use Rattle.nddl_laws.proofs.Declared.{IsRightDecl}
use Rattle.nddl_laws.proofs.First.{neither, not_second, some_position, stands_from}
use Rattle.nddl_laws.proofs.Nothing.{none_first, none_second}
use Rattle.nddl_laws.proofs.Values.{no_fault, not_so}
use Rattle.nddl_rule_laws.specs.Meanings.{IsNamedClass, StandsForObject}
use Rattle.nddl_rule_laws.proofs.Classes.{IsKnown, IsPlaced, are_facts, class_name, entry_number, right}
use Rattle.nddl_rule_laws.proofs.Shapes.{type_known}
use Rattle.nddl_rule_laws.proofs.TypeKinds.{IsThere, KindThere}
use Rattle.nddl_name_laws.specs.Named.{NamesStandForObjects, made_world}
use Rattle.nddl_name_laws.proofs.Making.{IsFullTold, earlier_some, earliest_none}
use Rattle.nddl_name_laws.proofs.Progress.{IsMade, NamesOther, made_from, steps_all}

-- ---- names and their declarations

-- the name is that of an object or of a posted token, of this declaration
pub record IsFrom (program : List Decl) (declared : Declared) : Type 0 where
  pub object : declared.sort ≡ sorts.Object → (variable : Variable) × (slice_get program declared.place.decl ≡ Some (decls.Variable variable))
      × ((sort_of_variable variable ≡ sorts.Object) × (variable.name.text ≡ declared.name))
  pub root : declared.sort ≡ sorts.Root → (ask : Ask) × (slice_get program declared.place.decl ≡ Some (decls.Ask ask))
      × (is_posting_word ask.word.text ≡ true)

init_no_root : (type : types.Type) (init : Option Init) → sort_of_init type init ≡ sorts.Root → ⊥
init_no_root type None is = (let e : sorts.Global ≡ sorts.Root = is in cc)
init_no_root type (Some (inits.Expr expr)) is = (let e : sorts.Global ≡ sorts.Root = is in cc)
init_no_root type (Some (inits.New creation)) is = by (is_config_name creation.class.text && is_config_type type.base type.bounds) is
  where
    by : (b : Bool) → (if b then sorts.Config else sorts.Object) ≡ sorts.Root → ⊥
    by true is = (let e : sorts.Config ≡ sorts.Root = is in cc)
    by false is = (let e : sorts.Object ≡ sorts.Root = is in cc)

init_plain : (type : types.Type) (init : Option Init) → is_class_sort (sort_of_init type init) ≡ false
init_plain type None = refl
init_plain type (Some (inits.Expr expr)) = refl
init_plain type (Some (inits.New creation)) = by (is_config_name creation.class.text && is_config_type type.base type.bounds)
  where
    by : (b : Bool) → is_class_sort (if b then sorts.Config else sorts.Object) ≡ false
    by true = refl
    by false = refl

object_init : (type : types.Type) (init : Option Init) → sort_of_init type init ≡ sorts.Object → (creation : Creation) × (init ≡ Some (inits.New creation))
object_init type None is = absurd (let e : sorts.Global ≡ sorts.Object = is in cc)
object_init type (Some (inits.Expr expr)) is = absurd (let e : sorts.Global ≡ sorts.Object = is in cc)
object_init type (Some (inits.New creation)) is = (creation, refl)

module _ (program : List Decl) where
  members_from : (number of place : ℕ) (some : List Name) → All (IsFrom program) (declared_members number of place some)
  members_from number of place [] = All-nil (IsFrom program)
  members_from number of place (name ∷ more) =
      All-cons (IsFrom program) (declared_as number name (sorts.Member of place)) (declared_members number of (place + 1) more)
      (record {
        object = λ sort. absurd (let e : sorts.Member of place ≡ sorts.Object = sort in cc);
        root = λ sort. absurd (let e : sorts.Member of place ≡ sorts.Root = sort in cc);
      })
      (members_from number of (place + 1) more)

  one_from : (declared : Declared) → IsFrom program declared → All (IsFrom program) (declared ∷ [])
  one_from declared one = All-cons (IsFrom program) declared [] one (All-nil (IsFrom program))

  decl_from : (number enums : ℕ) (decl : Decl) → slice_get program number ≡ Some decl → All (IsFrom program) (names_in_decl number enums decl)
  decl_from number enums (decls.Enum at name members_at some) there =
      All-cons (IsFrom program) (declared_as number name (sorts.Enum enums)) (declared_members number enums 0 some)
      (record {
        object = λ sort. absurd (let e : sorts.Enum enums ≡ sorts.Object = sort in cc);
        root = λ sort. absurd (let e : sorts.Enum enums ≡ sorts.Root = sort in cc);
      })
      (members_from number enums 0 some)
  decl_from number enums (decls.Typedef at declared name) there =
      one_from (declared_as number name sorts.Typedef) (record {
        object = λ sort. absurd (let e : sorts.Typedef ≡ sorts.Object = sort in cc);
        root = λ sort. absurd (let e : sorts.Typedef ≡ sorts.Root = sort in cc);
      })
  decl_from number enums (decls.Forward at name) there =
      one_from (declared_as number name sorts.Forward) (record {
        object = λ sort. absurd (let e : sorts.Forward ≡ sorts.Object = sort in cc);
        root = λ sort. absurd (let e : sorts.Forward ≡ sorts.Root = sort in cc);
      })
  decl_from number enums (decls.Class at name parent some) there =
      one_from (declared_as number name sorts.Body) (record {
        object = λ sort. absurd (let e : sorts.Body ≡ sorts.Object = sort in cc);
        root = λ sort. absurd (let e : sorts.Body ≡ sorts.Root = sort in cc);
      })
  decl_from number enums (decls.Variable variable) there =
      one_from (declared_as number variable.name (sort_of_variable variable)) (record {
        object = λ sort. (variable, there, (sort, refl));
        root = λ sort. absurd (init_no_root variable.declared variable.init sort);
      })
  decl_from number enums (decls.Ask ask) there = by (is_posting_word ask.word.text) refl
    where
      by : (b : Bool) → is_posting_word ask.word.text ≡ b → All (IsFrom program) (if b then declared_as number ask.label sorts.Root ∷ [] else [])
      by true is = one_from (declared_as number ask.label sorts.Root) (record {
        object = λ sort. absurd (let e : sorts.Root ≡ sorts.Object = sort in cc);
        root = λ sort. (ask, there, is);
      })
      by false is = All-nil (IsFrom program)
  decl_from number enums (decls.Include at file file_at) there = All-nil (IsFrom program)
  decl_from number enums (decls.Rule class predicate body) there = All-nil (IsFrom program)
  decl_from number enums (decls.Call call) there = All-nil (IsFrom program)

  all_from : (number enums : ℕ) (left : List Decl)
      → ((offset : ℕ) (decl : Decl) → slice_get left offset ≡ Some decl → slice_get program (number + offset) ≡ Some decl)
      → All (IsFrom program) (names_from number enums left)
  all_from number enums [] stand = All-nil (IsFrom program)
  all_from number enums (decl ∷ left) stand =
      let e : number + 0 ≡ number = omega arith in
      All-append (IsFrom program) (names_in_decl number enums decl) (names_from (number + 1) (enums + enums_in_decl decl) left)
      (decl_from number enums decl (sym (ap (slice_get program) e) ∙ stand 0 decl refl))
      (all_from (number + 1) (enums + enums_in_decl decl) left (λ offset other here.
      let sum : number + suc offset ≡ number + 1 + offset = omega arith in
      sym (ap (slice_get program) sum) ∙ stand (suc offset) other here))

  pub from_program : (entry : ℕ) (declared : Declared) → slice_get (scope_names program) entry ≡ Some declared → IsFrom program declared
  from_program entry declared at =
      item_all (IsFrom program) (scope_names program) entry declared
      (all_from 0 0 program (λ offset decl here. let e : offset ≡ 0 + offset = omega arith in sym (ap (slice_get program) e) ∙ here)) at

-- a name of anything but a class is the first of its spelling
pub own_first : (facts : Facts) → all_faults facts ≡ [] → (entry : ℕ) (declared : Declared) → slice_get facts.names entry ≡ Some declared
    → is_class_sort declared.sort ≡ false → named_number false facts.names declared.name ≡ Some entry
own_first facts fine entry declared at plain =
    let position = some_position (is_named false declared.name) facts.names 0 entry declared at ((bytes_eq-Decides declared.name declared.name).1 refl) in
    let first = position.0 in
    let named : named_number false facts.names declared.name ≡ Some first = position.1 in
    let repeated : is_repeated facts.names entry declared ≡ false =
    (neither (is_repeated facts.names entry declared)
    (is_second_body facts.names entry declared || is_second_config facts.names entry declared)
    (neither (is_builtin_name declared.name) (is_repeated facts.names entry declared
    || (is_second_body facts.names entry declared || is_second_config facts.names entry declared)) (not_second facts fine entry declared at)).1).0 in
    let told : (not (first == entry) && not (is_class_sort declared.sort && is_class_at facts.names first)) ≡ false =
    sym (ap (λ o. option_map_or (λ (n : ℕ). not (n == entry) && not (is_class_sort declared.sort && is_class_at facts.names n)) o false) named) ∙ repeated in
    let so : (not (first == entry) && true) ≡ false =
    sym (ap (λ b. not (first == entry) && not (b && is_class_at facts.names first)) plain) ∙ told in
    named ∙ ap (λ n. Some n) (by first (first == entry) refl so)
  where
    by : (first : ℕ) (b : Bool) → (first == entry) ≡ b → (not b && true) ≡ false → first ≡ entry
    by first true is so = (Decides-eqb first entry).0 is
    by first false is so = absurd (cc)

-- ---- what is written behind `new`

writing_fine : (facts : Facts) (closed : Option ℕ) (number : ℕ) (program : List Decl) (place : ℕ) (decl : Decl)
    → writing_faults_from facts closed number program ≡ [] → slice_get program place ≡ Some decl → writing_faults facts closed (number + place) decl ≡ []
writing_fine facts closed number [] place decl none at = absurd (none-some decl at)
writing_fine facts closed number (here ∷ program) zero decl none at =
    let first = none_first (writing_faults facts closed number here) (writing_faults_from facts closed (number + 1) program) none in
    let same : here ≡ decl = same_Some here decl at in
    let e : number ≡ number + 0 = omega arith in
    sym (λ i. writing_faults facts closed (e i) (same i)) ∙ first
writing_fine facts closed number (here ∷ program) (suc place) decl none at =
    let rest = none_second (writing_faults facts closed number here) (writing_faults_from facts closed (number + 1) program) none in
    let e : number + 1 + place ≡ number + suc place = omega arith in
    sym (ap (λ n. writing_faults facts closed n decl) e) ∙ writing_fine facts closed (number + 1) program place decl rest at

creation_fine : (facts : Facts) (around : Surroundings) (decl : ℕ) (creation : Creation) → creation_faults facts around decl creation ≡ []
    → made_fault facts.names (meaning_of facts.names creation.class.text)
    (meaning_wants facts (class_alone facts.names (meaning_of facts.names creation.class.text))) (length creation.arguments) ≡ None
unfolding creation_faults
creation_fine facts around decl creation none =
    let meaning = meaning_of facts.names creation.class.text in
    let wants = meaning_wants facts (class_alone facts.names meaning) in
    no_fault decl creation.class.at (made_fault facts.names meaning wants (length creation.arguments))
    (none_first (faults_here decl creation.class.at (made_fault facts.names meaning wants (length creation.arguments)))
    (constants_faults facts around decl wants 0 creation.arguments) none)

-- the class of which an object is made
record HasClass (facts : Facts) (creation : Creation) : Type 0 where
  class : Meaning
  made : made_class facts creation ≡ Some class
  alone : class_alone facts.names (meaning_of facts.names creation.class.text) ≡ Some class

has_class : (facts : Facts) (creation : Creation) (o : Option Meaning) → meaning_of facts.names creation.class.text ≡ o
    → made_fault facts.names o (meaning_wants facts (class_alone facts.names o)) (length creation.arguments) ≡ None → HasClass facts creation
has_class facts creation None means none = absurd (none-some faults.Unknown (sym none))
has_class facts creation (Some class) means none = by (class_meaning_fault facts.names (Some class)) refl none
  where
    by : (fault : Option TextKind) → class_meaning_fault facts.names (Some class) ≡ fault
        → option_or fault (fault_if (is_wrong_count (meaning_wants facts (if is_none fault then Some class else None)) (length creation.arguments)) faults.WrongCount) ≡ None
        → HasClass facts creation
    by (Some kind) fine none = absurd (none-some kind (sym none))
    by None fine none =
        let count = not_so (is_wrong_count (class_wants facts class) (length creation.arguments)) faults.WrongCount none in
        let alone : class_alone facts.names (meaning_of facts.names creation.class.text) ≡ Some class =
        ap (class_alone facts.names) means ∙ ap (λ (fault : Option TextKind). if is_none fault then Some class else None) fine in
        record {
          class = class;
          made = ap (option_and_then (class_taking facts (length creation.arguments))) alone ∙ ap (λ b. if b then None else Some class) count;
          alone = alone;
        }

record IsFineNew (facts : Facts) (creation : Creation) (kind : Option TypeKind) : Type 0 where
  class : Meaning
  made : made_class facts creation ≡ Some class
  is_object : is_no_object kind ≡ false
  of : (declared : Meaning) → kind ≡ Some (kinds.Object declared) → is_of_class facts declared class ≡ true

fine_new : (facts : Facts) (decl : ℕ) (kind : Option TypeKind) (creation : Creation) → object_faults facts decl kind creation ≡ [] → IsFineNew facts creation kind
fine_new facts decl kind creation none =
    let a = faults_here decl creation.at (fault_if (is_no_object kind) faults.WrongType) in
    let b = creation_faults facts (around_formals []) decl creation in
    let c = faults_here decl creation.class.at (foreign_fault facts kind creation) in
    let first : a ++ b ≡ [] = none_first (a ++ b) c none in
    let own = not_so (is_no_object kind) faults.WrongType (no_fault decl creation.at (fault_if (is_no_object kind) faults.WrongType) (none_first a b first)) in
    let it = has_class facts creation (meaning_of facts.names creation.class.text) refl
    (creation_fine facts (around_formals []) decl creation (none_second a b first)) in
    let foreign : is_foreign_class facts kind (class_alone facts.names (meaning_of facts.names creation.class.text)) ≡ false =
    not_so (is_foreign_class facts kind (class_alone facts.names (meaning_of facts.names creation.class.text))) faults.NotInDomain
    (no_fault decl creation.class.at (foreign_fault facts kind creation) (none_second (a ++ b) c none)) in
    record {
      class = it.class;
      made = it.made;
      is_object = own;
      of = λ declared same. is_so (is_of_class facts declared it.class) (sym (λ i. is_foreign_class facts (same i) (it.alone i)) ∙ foreign);
    }
  where
    is_so : (b : Bool) → not b ≡ false → b ≡ true
    is_so true is = refl
    is_so false is = absurd (cc)

object_kind : (kind : TypeKind) → is_no_object (Some kind) ≡ false → (class : Meaning) × (kind ≡ kinds.Object class)
object_kind (kinds.Object class) is = (class, refl)
object_kind kinds.Int is = absurd (cc)
object_kind kinds.Float is = absurd (cc)
object_kind kinds.Bool is = absurd (cc)
object_kind (kinds.Enum of) is = absurd (cc)

-- ---- objects by their classes

pub map_contains : {X Y : Type 0} (f : X → Y) (xs : List X) (x : X) → Contains xs x → Contains (map f xs) (f x)
map_contains f xs x has =
    contains_at (map f xs) has.0 (f x)
    (slice_get-map f xs has.0 ∙ ap (option_map f) (item_at xs has.0 x has.1 ∙ ap (λ y. Some y) has.2))

pub listed : (facts : Facts) (class : Meaning) (start number : ℕ) (objects : List MadeObject) (object : MadeObject) → slice_get objects number ≡ Some object
    → is_of_class facts class object.class ≡ true → Contains (objects_of facts class start objects) (start + number)
listed facts class start number [] object at is = absurd (none-some object at)
listed facts class start zero (here ∷ more) object at is =
    let same : here ≡ object = same_Some here object at in
    let own : is_of_class facts class here.class ≡ true = ap (λ (o : MadeObject). is_of_class facts class o.class) same ∙ is in
    let e : start ≡ start + 0 = omega arith in
    let rest = objects_of facts class (start + 1) more in
    subst (λ b. Contains ((if b then start ∷ [] else []) ++ rest) (start + 0)) (sym own)
    (subst (λ n. Contains (start ∷ rest) n) e (0, omega arith, refl))
listed facts class start (suc number) (here ∷ more) object at is =
    let e : start + 1 + number ≡ start + suc number = omega arith in
    subst (λ n. Contains (objects_of facts class start (here ∷ more)) n) e
    (Contains-append_right (if is_of_class facts class here.class then start ∷ [] else []) (objects_of facts class (start + 1) more) (start + 1 + number)
    (listed facts class (start + 1) number more object at is))

module _ (files : List FileDecls) (table : TypeTable) (given : AreGiven files) (is : IsTable files table) where
  -- a class that there is has a name
  pub there_named : (class : Meaning) → IsThere files table given is class → IsNamedClass is.facts class
  there_named class there = record {
    name = class_name files table given is (class_number is.facts.names class);
    means = there.0.means ∙ ap (λ c. Some c) there.1;
    right = by class (subst (IsKnown is.facts) there.1 there.0.known);
  }
    where
      by : (one : Meaning) → IsKnown is.facts one → class_meaning_fault is.facts.names (Some one) ≡ None
      by (meanings.BuiltIn number) known = refl
      by (meanings.Entry entry) known =
          let class_at : is_class_at is.facts.names entry ≡ true = ap (λ o. option_map_or (λ (d : Declared). is_class_sort d.sort) o false) known.there ∙ known.sort in
          ap (λ b. if b then None else Some faults.WrongType) class_at

  -- the objects of a class are listed under its number
  pub population_is : (objects : List MadeObject) (class : Meaning) → IsThere files table given is class
      → list_at (populations is.facts objects) (class_number is.facts.names class) ≡ class_population is.facts objects class
  population_is objects class there = by class (subst (IsKnown is.facts) there.1 there.0.known) (subst (IsPlaced files table given is) there.1 there.0.placed)
    where
      by : (one : Meaning) → IsKnown is.facts one → IsPlaced files table given is one
          → list_at (populations is.facts objects) (class_number is.facts.names one) ≡ class_population is.facts objects one
      by (meanings.BuiltIn zero) known placed = refl
      by (meanings.BuiltIn (suc zero)) known placed = refl
      by (meanings.BuiltIn (suc (suc zero))) known placed = refl
      by (meanings.BuiltIn (suc (suc (suc zero)))) known placed = refl
      by (meanings.BuiltIn (suc (suc (suc (suc number))))) known placed = absurd (omega (arith, known))
      by (meanings.Entry entry) known placed =
          let all = class_entries is.facts.names 0 is.facts.names in
          let e : 4 + placed.0 ≡ suc (suc (suc (suc placed.0))) = omega arith in
          ap (list_at (populations is.facts objects)) (entry_number files table given is placed.0 entry placed.1 ∙ e)
          ∙ ap (λ o. option_map_or (λ (list : List ℤ). list) o [])
          (slice_get-map (entry_population is.facts objects) all placed.0 ∙ ap (option_map (entry_population is.facts objects)) placed.1)

-- ---- names of objects

last_is : (facts : Facts) → last_progress facts ≡ all_declared facts 0 facts.program (first_progress facts)
unfolding last_progress
last_is facts = refl

progress_none : (progress : Progress) → progress_fault progress ≡ None → (progress.first ≡ None) × (progress.so_far.first ≡ None)
progress_none progress is = by progress.so_far.first refl is
  where
    by : (o : Option Fault) → progress.so_far.first ≡ o
        → option_map_or (λ fault. earlier_fault progress.first fault) o progress.first ≡ None
        → (progress.first ≡ None) × (progress.so_far.first ≡ None)
    by None at is = (is, at)
    by (Some fault) at is = absurd (earlier_some progress.first fault is)

module _ (files : List FileDecls) (table : TypeTable) (given : AreGiven files) (is : IsTable files table)
    (fine : progress_fault (last_progress is.facts) ≡ None) where
  abbrev facts : Facts
  facts = is.facts

  abbrev start : Progress
  start = first_progress facts

  abbrev end : Progress
  end = all_declared facts 0 facts.program start

  end_none : (end.first ≡ None) × (end.so_far.first ≡ None)
  end_none = subst (λ (p : Progress). (p.first ≡ None) × (p.so_far.first ≡ None)) (last_is facts) (progress_none (last_progress facts) fine)

  written_fine : written_faults facts ≡ []
  written_fine = (earliest_none None (written_faults facts) ((steps_all facts 0 facts.program start).told end_none.0)).1

  names_are : facts.names ≡ scope_names facts.program
  names_are = (are_facts files table given is).is_names

  pub from : (entry : ℕ) (declared : Declared) → slice_get facts.names entry ≡ Some declared → IsFrom facts.program declared
  from entry declared at = from_program facts.program entry declared (sym (ap (λ names. slice_get names entry) names_are) ∙ at)

  -- no other declaration is of the name
  other_decl : (entry : ℕ) (declared : Declared) → slice_get facts.names entry ≡ Some declared → (place : ℕ) (decl : Decl) → declared.place.decl < place
      → slice_get facts.program place ≡ Some decl → NamesOther facts entry decl
  other_decl entry declared at place decl less there variable same named =
      let stands = stands_from 0 0 facts.program place (decls.Variable variable) variable.name (sort_of_variable variable)
      (there ∙ ap (λ d. Some d) same) (λ number before. refl) in
      let found : slice_get facts.names stands.0 ≡ Some (declared_as (0 + place) variable.name (sort_of_variable variable)) =
      ap (λ names. slice_get names stands.0) names_are ∙ stands.1 in
      let own = own_first facts is.fine stands.0 (declared_as (0 + place) variable.name (sort_of_variable variable)) found
      (init_plain variable.declared variable.init) in
      let entry_is : stands.0 ≡ entry = same_Some stands.0 entry (sym own ∙ named) in
      let one : declared_as (0 + place) variable.name (sort_of_variable variable) ≡ declared =
      same_Some (declared_as (0 + place) variable.name (sort_of_variable variable)) declared (sym found ∙ (ap (slice_get facts.names) entry_is ∙ at)) in
      let e : 0 + place ≡ declared.place.decl = ap (λ (d : Declared). d.place.decl) one in
      omega (arith, e, less)

  -- the name stands for an object of a class that there is
  pub record HasObject (entry : ℕ) (declared : Declared) : Type 0 where
    pub stands : StandsForObject (made_world facts table) entry declared
    pub there : IsThere files table given is stands.class

  pub object_found : (entry : ℕ) (declared : Declared) → slice_get facts.names entry ≡ Some declared → declared.sort ≡ sorts.Object
      → HasObject entry declared
  object_found entry declared at sort =
      let it = (from entry declared at).object sort in
      let variable : Variable = it.0 in
      let decl = declared.place.decl in
      let init = object_init variable.declared variable.init it.2.0 in
      let creation : Creation = init.0 in
      let config : is_config_sort (sort_of_variable variable) ≡ false = ap is_config_sort it.2.0 in
      let closed = first_close facts.program in
      let kind = base_kind facts.names facts.known variable.declared.base in
      let wrote = writing_fine facts closed 0 facts.program decl (decls.Variable variable) written_fine it.1 in
      let new_none : new_faults facts closed (0 + decl) variable creation ≡ [] = sym (ap (variable_faults_by facts closed (0 + decl) variable) init.1) ∙ wrote in
      let creation_none : creation_of_faults facts (0 + decl) variable creation ≡ [] =
      none_second (faults_here (0 + decl) creation.at (fault_if (is_closed closed (0 + decl)) faults.Closed)) (creation_of_faults facts (0 + decl) variable creation) new_none in
      let object_none : object_faults facts (0 + decl) kind creation ≡ [] =
      sym (ap (λ b. if b then settings_faults facts (0 + decl) creation else object_faults facts (0 + decl) kind creation) config) ∙ creation_none in
      let new = fine_new facts (0 + decl) kind creation object_none in
      let right_decl = item_all (IsRightDecl facts) facts.program decl (decls.Variable variable) (right files table given is) it.1 in
      let type_none : all_type_faults facts right_decl.number variable.declared ≡ [] =
      sym (ap (λ b. if b then [] else all_type_faults facts right_decl.number variable.declared) config) ∙ right_decl.none in
      let world = made_world facts table in
      let type = type_known files table given is world.named_objects world.objects right_decl.number variable.declared type_none in
      let object = object_kind type.0 (sym (ap is_no_object type.1) ∙ new.is_object) in
      let class : Meaning = object.0 in
      let there : IsThere files table given is class = subst (KindThere files table given is) object.1 type.2 in
      let base : kind ≡ Some (kinds.Object class) = type.1 ∙ ap (λ k. Some k) object.1 in
      let plain : is_class_sort declared.sort ≡ false = ap is_class_sort sort in
      let number_is : named_number false facts.names variable.name.text ≡ Some entry =
      ap (named_number false facts.names) it.2.1 ∙ own_first facts is.fine entry declared at plain in
      let inside = slice_get_within facts.names entry declared at in
      let long : length start.named_objects ≡ length facts.names = length-map facts.names (λ (d : Declared). made_names.Unmade) in
      let none_full : IsFullTold start.so_far = λ full told. (let e : false ≡ true = full in cc) in
      let made = made_from facts 0 entry new.class variable creation facts.program decl start it.1 init.1 config number_is new.made (omega (arith, inside, long)) none_full
      (λ place other less here. other_decl entry declared at place other less here) end_none.1 in
      let last : IsMade facts (last_progress facts) entry new.class = subst (λ p. IsMade facts p entry new.class) (sym (last_is facts)) made in
      let of : is_of_class facts class last.there.0.class ≡ true = ap (is_of_class facts class) last.there.2 ∙ new.of class base in
      let has = listed facts class 0 last.number world.objects last.there.0 last.there.1 of in
      let e : 0 + last.number ≡ last.number = omega arith in
      let own : Contains (class_population facts world.objects class) (pos last.number) =
      map_contains pos (objects_of facts class 0 world.objects) last.number (subst (Contains (objects_of facts class 0 world.objects)) e has) in
      record {
        stands = record {
          class = class;
          is_class = there_named files table given is class there;
          denotes = ap (λ o. option_map_or (type_value facts.names facts.known true) (option_and_then variable_type o) denoted.Faulty) it.1
              ∙ ap (λ o. option_map_or (λ k. denoted.Value k true) o denoted.Faulty) base;
          value = pos last.number;
          made = ap made_object last.is_named;
          inside = subst (λ list. Contains list (pos last.number)) (sym (population_is files table given is world.objects class there)) own;
        };
        there = there;
      }

pub names_stand : NamesStandForObjects
names_stand files table given is fine entry declared at sort = (object_found files table given is fine entry declared at sort).stands
