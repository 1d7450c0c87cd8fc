-- What the names of the files stand for, and what they are as types, name for name.
use Rattle.std.proofs.Common.{◌≡◌, ℕ, zero, suc, ◌+◌, Bool, true, false, List, [], ◌∷◌, ◌++◌, length, refl, sym, ◌∙◌, ap, arith}
use Rattle.std.specs.Prelude.{Option, Some, All, slice_get, if◌then◌else◌}
use Rattle.std.specs.Option.{option_and_then, option_map_or}
use Rattle.std.proofs.lemmas.List.Elements.{All-append, All-cons, All-nil}
use Rattle.std.proofs.lemmas.Option.{same_Some, none-some, slice_get_within}
use Rattle.model_core.proofs.Items.{item_all}
use Rattle.nddl_ast.specs.declared.declaration.Decl.{Decl}
use Rattle.nddl_ast.specs.declared.declaration.Decl.TheVariants as decls
use Rattle.nddl_ast.specs.declared.declaration.FileDecls.{FileDecls}
use Rattle.nddl_ast.specs.declared.expression.Type as types
use Rattle.nddl_ast.specs.declared.name.Name.{Name}
use Rattle.nddl_ast.specs.declared.statement.Variable.{Variable}
use Rattle.nddl_symbols.specs.declared.declared.Declared.{Declared}
use Rattle.nddl_symbols.specs.declared.declared.Sort.TheVariants as sorts
use Rattle.nddl_symbols.specs.declared.site.Site.{Site}
use Rattle.nddl_symbols.specs.Joined.{joined_sites}
use Rattle.nddl_symbols.specs.Names.{declared_as, declared_members, enums_in_decl, is_config_sort, is_global_sort, is_posting_word, is_root_sort, names_from, names_in_decl, scope_names, sort_of_variable}
use Rattle.nddl_symbols.specs.Place.{file_of_place}
use Rattle.nddl_hierarchy.specs.Facts.{Facts}
use Rattle.nddl_declarations.specs.Faults.{decl_faults}
use Rattle.nddl_declarations.specs.Known.{all_type_faults}
use Rattle.nddl_types.specs.declared.table.Named.{Named}
use Rattle.nddl_types.specs.declared.table.TypeTable.{TypeTable}
use Rattle.nddl_types.specs.Classes.{is_first}
use Rattle.nddl_types.specs.Scoped.{named_from, named_in}
use Rattle.nddl_types.specs.Table.{IsTable}
use Rattle.nddl_resolve.specs.declared.denoted.Denoted.TheVariants as denoted
use Rattle.nddl_resolve.specs.Fields.{type_value}
use Rattle.nddl_resolve.specs.Files.{declared_value, variable_type}
use Rattle.nddl_construction.specs.declared.made.MadeObject.{MadeObject}
use Rattle.nddl_construction.specs.declared.made.NamedObject.{NamedObject}
use Rattle.nddl_terms.specs.declared.lexicon.Shape.{Shape}
use Rattle.nddl_terms.specs.declared.stands.Stand.{Stand}
use Rattle.nddl_env.specs.Lexicons.{name_stand, scope_stands, scope_types, sort_shape}
use Rattle.nddl_env.specs.Shapes.{World}
use Rattle.nddl_laws.specs.Given.{AreGiven}
use Rattle.nddl_laws.proofs.Declared.{IsRightDecl}
use Rattle.nddl_laws.proofs.Placed.{place_has_file}
use Rattle.nddl_laws.proofs.Places.{declared_in}
use Rattle.nddl_rule_laws.proofs.Classes.{are_facts, right}
use Rattle.nddl_rule_laws.proofs.Shapes.{world}

-- ---- places go together

-- a name of the table, what it stands for, and what it is as a type
pub record IsAligned (world : World) (number : ℕ) (some : List Declared) (stands : List Stand) (shapes : List (Option Shape)) (place : ℕ) (named : Named) : Type 0 where
  pub entry : ℕ
  pub offset : ℕ
  pub is_entry : entry ≡ number + offset
  pub declared : Declared
  pub there : slice_get some offset ≡ Some declared
  pub first : is_first world.facts.names entry declared ≡ true
  pub name_is : named.name ≡ declared.name
  pub globals : ℕ
  pub roots : ℕ
  pub stand : slice_get stands place ≡ Some (name_stand world entry globals roots declared)
  pub shape : slice_get shapes place ≡ Some (sort_shape world entry declared.sort)

module _ (files : List FileDecls) (sites : List Site) (world : World) where
  aligned : (number globals roots : ℕ) (some : List Declared)
      → ((offset : ℕ) (declared : Declared) → slice_get some offset ≡ Some declared
      → (file : FileDecls) × (file_of_place files sites declared.place ≡ Some file))
      → (place : ℕ) (named : Named) → slice_get (named_from files sites world.facts.names number some) place ≡ Some named
      → IsAligned world number some (scope_stands world number globals roots some) (scope_types world number some) place named
  aligned number globals roots [] filed place named at = absurd (none-some named at)
  aligned number globals roots (declared ∷ more) filed place named at =
      by (is_first world.facts.names number declared) refl place at
      (λ further other. aligned (number + 1) (if is_global_sort declared.sort then globals + 1 else globals) (if is_root_sort declared.sort then roots + 1 else roots) more
      (λ offset one here. filed (suc offset) one here) further named other)
    where
      deeper : (stands : List Stand) (shapes : List (Option Shape)) (front_stands : List Stand) (front_shapes : List (Option Shape)) (further place : ℕ)
          → slice_get (front_stands ++ stands) place ≡ slice_get stands further → slice_get (front_shapes ++ shapes) place ≡ slice_get shapes further
          → IsAligned world (number + 1) more stands shapes further named
          → IsAligned world number (declared ∷ more) (front_stands ++ stands) (front_shapes ++ shapes) place named
      deeper stands shapes front_stands front_shapes further place one other it = record {
        entry = it.entry;
        offset = suc it.offset;
        is_entry = (let e : it.entry ≡ number + 1 + it.offset = it.is_entry in omega arith);
        declared = it.declared;
        there = it.there;
        first = it.first;
        name_is = it.name_is;
        globals = it.globals;
        roots = it.roots;
        stand = one ∙ it.stand;
        shape = other ∙ it.shape;
      }

      by : (b : Bool) → is_first world.facts.names number declared ≡ b → (place : ℕ)
          → slice_get ((if b then option_map_or (λ file. named_in declared file ∷ []) (file_of_place files sites declared.place) [] else [])
          ++ named_from files sites world.facts.names (number + 1) more) place ≡ Some named
          → ((further : ℕ) → slice_get (named_from files sites world.facts.names (number + 1) more) further ≡ Some named
          → IsAligned world (number + 1) more
          (scope_stands world (number + 1) (if is_global_sort declared.sort then globals + 1 else globals) (if is_root_sort declared.sort then roots + 1 else roots) more)
          (scope_types world (number + 1) more) further named)
          → IsAligned world number (declared ∷ more)
          ((if b then name_stand world number globals roots declared ∷ [] else [])
          ++ scope_stands world (number + 1) (if is_global_sort declared.sort then globals + 1 else globals) (if is_root_sort declared.sort then roots + 1 else roots) more)
          ((if b then sort_shape world number declared.sort ∷ [] else []) ++ scope_types world (number + 1) more) place named
      by false first place at rest =
          deeper
          (scope_stands world (number + 1) (if is_global_sort declared.sort then globals + 1 else globals) (if is_root_sort declared.sort then roots + 1 else roots) more)
          (scope_types world (number + 1) more) [] [] place place refl refl (rest place at)
      by true first place at rest = filed_here place at
        where
          whole : (place : ℕ) → slice_get (named_in declared (filed 0 declared refl).0 ∷ named_from files sites world.facts.names (number + 1) more) place ≡ Some named
              → IsAligned world number (declared ∷ more)
              (name_stand world number globals roots declared
              ∷ scope_stands world (number + 1) (if is_global_sort declared.sort then globals + 1 else globals) (if is_root_sort declared.sort then roots + 1 else roots) more)
              (sort_shape world number declared.sort ∷ scope_types world (number + 1) more) place named
          whole zero at = record {
            entry = number;
            offset = 0;
            is_entry = omega arith;
            declared = declared;
            there = refl;
            first = first;
            name_is = sym (ap (λ (n : Named). n.name) (same_Some (named_in declared (filed 0 declared refl).0) named at));
            globals = globals;
            roots = roots;
            stand = refl;
            shape = refl;
          }
          whole (suc further) at =
              deeper
              (scope_stands world (number + 1) (if is_global_sort declared.sort then globals + 1 else globals) (if is_root_sort declared.sort then roots + 1 else roots) more)
              (scope_types world (number + 1) more) (name_stand world number globals roots declared ∷ []) (sort_shape world number declared.sort ∷ []) further (suc further)
              refl refl (rest further at)

          filed_here : (place : ℕ)
              → slice_get (option_map_or (λ file. named_in declared file ∷ []) (file_of_place files sites declared.place) []
              ++ named_from files sites world.facts.names (number + 1) more) place ≡ Some named
              → IsAligned world number (declared ∷ more)
              (name_stand world number globals roots declared
              ∷ scope_stands world (number + 1) (if is_global_sort declared.sort then globals + 1 else globals) (if is_root_sort declared.sort then roots + 1 else roots) more)
              (sort_shape world number declared.sort ∷ scope_types world (number + 1) more) place named
          filed_here place at =
              whole place
              (sym (ap (λ o. slice_get (option_map_or (λ file. named_in declared file ∷ []) o [] ++ named_from files sites world.facts.names (number + 1) more) place)
              (filed 0 declared refl).1) ∙ at)

-- ---- global variables

-- the name is that of a global variable of this declaration
IsGlobalIn : List Decl → Declared → Type 0
IsGlobalIn program declared =
    declared.sort ≡ sorts.Global → (variable : Variable) × (slice_get program declared.place.decl ≡ Some (decls.Variable variable)) × (sort_of_variable variable ≡ sorts.Global)

module _ (program : List Decl) where
  members_no_global : (number of place : ℕ) (some : List Name) → All (IsGlobalIn program) (declared_members number of place some)
  unfolding IsGlobalIn
  members_no_global number of place [] = All-nil (IsGlobalIn program)
  members_no_global number of place (name ∷ more) =
      All-cons (IsGlobalIn program) (declared_as number name (sorts.Member of place)) (declared_members number of (place + 1) more)
      (λ sort. absurd (let e : sorts.Member of place ≡ sorts.Global = sort in cc)) (members_no_global number of (place + 1) more)

  one_global : (declared : Declared) → IsGlobalIn program declared → All (IsGlobalIn program) (declared ∷ [])
  one_global declared one = All-cons (IsGlobalIn program) declared [] one (All-nil (IsGlobalIn program))

  decl_globals : (number enums : ℕ) (decl : Decl) → slice_get program number ≡ Some decl → All (IsGlobalIn program) (names_in_decl number enums decl)
  unfolding IsGlobalIn
  decl_globals number enums (decls.Enum at name members_at some) there =
      All-cons (IsGlobalIn program) (declared_as number name (sorts.Enum enums)) (declared_members number enums 0 some)
      (λ sort. absurd (let e : sorts.Enum enums ≡ sorts.Global = sort in cc)) (members_no_global number enums 0 some)
  decl_globals number enums (decls.Typedef at declared name) there =
      one_global (declared_as number name sorts.Typedef) (λ sort. absurd (let e : sorts.Typedef ≡ sorts.Global = sort in cc))
  decl_globals number enums (decls.Forward at name) there =
      one_global (declared_as number name sorts.Forward) (λ sort. absurd (let e : sorts.Forward ≡ sorts.Global = sort in cc))
  decl_globals number enums (decls.Class at name parent some) there =
      one_global (declared_as number name sorts.Body) (λ sort. absurd (let e : sorts.Body ≡ sorts.Global = sort in cc))
  decl_globals number enums (decls.Variable variable) there =
      one_global (declared_as number variable.name (sort_of_variable variable)) (λ sort. (variable, there, sort))
  decl_globals number enums (decls.Ask ask) there = by (is_posting_word ask.word.text)
    where
      by : (b : Bool) → All (IsGlobalIn program) (if b then declared_as number ask.label sorts.Root ∷ [] else [])
      by true = one_global (declared_as number ask.label sorts.Root) (λ sort. absurd (let e : sorts.Root ≡ sorts.Global = sort in cc))
      by false = All-nil (IsGlobalIn program)
  decl_globals number enums (decls.Include at file file_at) there = All-nil (IsGlobalIn program)
  decl_globals number enums (decls.Rule class predicate body) there = All-nil (IsGlobalIn program)
  decl_globals number enums (decls.Call call) there = All-nil (IsGlobalIn program)

  all_globals : (number enums : ℕ) (left : List Decl)
      → ((offset : ℕ) (decl : Decl) → slice_get left offset ≡ Some decl → slice_get program (number + offset) ≡ Some decl)
      → All (IsGlobalIn program) (names_from number enums left)
  all_globals number enums [] stand = All-nil (IsGlobalIn program)
  all_globals number enums (decl ∷ left) stand =
      let e : number + 0 ≡ number = omega arith in
      All-append (IsGlobalIn program) (names_in_decl number enums decl) (names_from (number + 1) (enums + enums_in_decl decl) left)
      (decl_globals number enums decl (sym (ap (slice_get program) e) ∙ stand 0 decl refl))
      (all_globals (number + 1) (enums + enums_in_decl decl) left (λ offset other here.
      let sum : number + suc offset ≡ number + 1 + offset = omega arith in
      sym (ap (slice_get program) sum) ∙ stand (suc offset) other here))

  global_in : (declared : Declared) (entry : ℕ) → slice_get (scope_names program) entry ≡ Some declared → declared.sort ≡ sorts.Global
      → (variable : Variable) × (slice_get program declared.place.decl ≡ Some (decls.Variable variable)) × (sort_of_variable variable ≡ sorts.Global)
  unfolding IsGlobalIn
  global_in declared entry at sort =
      item_all (IsGlobalIn program) (scope_names program) entry declared
      (all_globals 0 0 program (λ offset decl here. let e : offset ≡ 0 + offset = omega arith in sym (ap (slice_get program) e) ∙ here)) at sort

-- nothing is wrong with the type of a global variable
variable_fine : (facts : Facts) (number : ℕ) (variable : Variable) → decl_faults facts number (decls.Variable variable) ≡ []
    → sort_of_variable variable ≡ sorts.Global → all_type_faults facts number variable.declared ≡ []
variable_fine facts number variable none sort =
    sym (ap (λ s. if is_config_sort s then [] else all_type_faults facts number variable.declared) sort) ∙ none

module _ (files : List FileDecls) (table : TypeTable) (given : AreGiven files) (is : IsTable files table) (named_objects : List NamedObject)
    (objects : List MadeObject) where
  names_are : is.facts.names ≡ scope_names is.facts.program
  names_are = (are_facts files table given is).is_names

  -- what stands at the place of a name of the table
  pub place_aligned : (place : ℕ) (named : Named) → slice_get table.scope place ≡ Some named
      → IsAligned (world files table given is named_objects objects) 0 is.facts.names
      (scope_stands (world files table given is named_objects objects) 0 0 0 is.facts.names)
      (scope_types (world files table given is named_objects objects) 0 is.facts.names) place named
  place_aligned place named at =
      aligned files (joined_sites files) (world files table given is named_objects objects) 0 0 0 is.facts.names
      (λ offset declared here.
      let stands = declared_in is.facts.program offset declared (sym (ap (λ names. slice_get names offset) names_are) ∙ here) in
      let within = slice_get_within is.facts.program declared.place.decl stands.decl stands.there in
      let long = ap length is.are.is_program in
      place_has_file files declared.place (omega arith)) place named
      (sym (ap (λ (scope : List Named). slice_get scope place) is.entries.others.scope_is) ∙ at)

  -- what a global variable denotes
  pub global_value : (entry : ℕ) (declared : Declared) → slice_get is.facts.names entry ≡ Some declared → declared.sort ≡ sorts.Global
      → (type : types.Type) × (declared_value is.facts false declared ≡ type_value is.facts.names is.facts.known false type)
      × ((number : ℕ) × (all_type_faults is.facts number type ≡ []))
  global_value entry declared at sort =
      let it = global_in is.facts.program declared entry (sym (ap (λ names. slice_get names entry) names_are) ∙ at) sort in
      let right_decl = item_all (IsRightDecl is.facts) is.facts.program declared.place.decl (decls.Variable it.0) (right files table given is) it.1 in (
        it.0.declared,
        ap (λ o. option_map_or (type_value is.facts.names is.facts.known false) (option_and_then variable_type o) denoted.Faulty) it.1,
        (right_decl.number, variable_fine is.facts right_decl.number it.0 right_decl.none it.2),
      )
