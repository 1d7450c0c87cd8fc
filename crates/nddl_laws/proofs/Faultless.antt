-- Where nothing is wrong with a rule, each name that is looked up in it is there.
use Rattle.std.proofs.Common.{◌≡◌, ℕ, ◌+◌, Bool, true, false, ◌&&◌, ◌||◌, not, List, [], ◌∷◌, ◌++◌, length, pos, refl, sym, ◌∙◌, ap, subst}
use Rattle.std.specs.Prelude.{Option, Some, None, Ok, Err, is_some, slice_get, if◌then◌else◌}
use Rattle.std.specs.List.{AllByRecursion, AllZip, flat_map}
use Rattle.std.specs.Option.{option_and_then, option_map, option_map_or, option_or}
use Rattle.std.proofs.lemmas.Option.{none-some}
use Rattle.domain_core.specs.declared.kind.Kind.{Kind}
use Rattle.eu_index.specs.Index.{Noted, with_noted}
use Rattle.nddl_ast.specs.declared.declaration.Decl.{Decl}
use Rattle.nddl_ast.specs.declared.declaration.FileDecls.{FileDecls}
use Rattle.nddl_ast.specs.declared.declaration.PredicatePart.{PredicatePart}
use Rattle.nddl_ast.specs.declared.declaration.PredicatePart.TheVariants as parts
use Rattle.nddl_ast.specs.declared.expression.BaseType.{BaseType}
use Rattle.nddl_ast.specs.declared.expression.BaseType.TheVariants as bases
use Rattle.nddl_ast.specs.declared.expression.Bounds.{Bounds}
use Rattle.nddl_ast.specs.declared.expression.Bounds.TheVariants as bounds
use Rattle.nddl_ast.specs.declared.expression.Expr.{Expr}
use Rattle.nddl_ast.specs.declared.expression.Expr.TheVariants as exprs
use Rattle.nddl_ast.specs.declared.expression.Init.{Init}
use Rattle.nddl_ast.specs.declared.expression.Init.TheVariants as inits
use Rattle.nddl_ast.specs.declared.expression.Type as types
use Rattle.nddl_ast.specs.declared.expression.Value.{Value}
use Rattle.nddl_ast.specs.declared.expression.Value.TheVariants as values
use Rattle.nddl_ast.specs.declared.kind.TextKind.{TextKind}
use Rattle.nddl_ast.specs.declared.kind.TextKind.TheVariants as faults
use Rattle.nddl_ast.specs.declared.name.Name.{Name}
use Rattle.nddl_ast.specs.declared.name.Path.{Path}
use Rattle.nddl_ast.specs.declared.statement.Ask.{Ask}
use Rattle.nddl_ast.specs.declared.statement.Call.{Call}
use Rattle.nddl_ast.specs.declared.statement.Condition.{Condition}
use Rattle.nddl_ast.specs.declared.statement.Condition.TheVariants as conditions
use Rattle.nddl_ast.specs.declared.statement.Variable.{Variable}
use Rattle.nddl_ast.specs.Block.{statements_of}
use Rattle.nddl_ast.specs.Path.{last_name, path_before}
use Rattle.nddl_ast.specs.Places.{expr_place, value_place}
use Rattle.nddl_ast.specs.Tree.{Statements, Nothing, Declares, Calls, Asks, Tests, Chooses, Repeats}
use Rattle.nddl_symbols.specs.declared.declared.Declared.{Declared}
use Rattle.nddl_symbols.specs.declared.declared.Sort.{Sort}
use Rattle.nddl_symbols.specs.declared.declared.Sort.TheVariants as sorts
use Rattle.nddl_symbols.specs.declared.fault.Fault.{Fault}
use Rattle.nddl_symbols.specs.declared.scope.Meaning.{Meaning}
use Rattle.nddl_symbols.specs.declared.scope.Meaning.TheVariants as meanings
use Rattle.nddl_symbols.specs.Finding.{faults_here}
use Rattle.nddl_symbols.specs.Names.{scope_names}
use Rattle.nddl_symbols.specs.Repeats.{repeated_fault}
use Rattle.nddl_symbols.specs.Scope.{fault_if, meaning_of}
use Rattle.nddl_typeexpr.specs.declared.kind.Extent.{Extent}
use Rattle.nddl_typeexpr.specs.declared.kind.Extent.TheVariants as extents
use Rattle.nddl_typeexpr.specs.declared.kind.TypeKind.{TypeKind}
use Rattle.nddl_typeexpr.specs.declared.kind.TypeKind.TheVariants as kinds
use Rattle.nddl_typeexpr.specs.declared.values.Given.{Given}
use Rattle.nddl_typeexpr.specs.declared.values.GivenKind.{GivenKind}
use Rattle.nddl_typeexpr.specs.Bases.{base_extent, base_fault, base_kind, meaning_fault}
use Rattle.nddl_typeexpr.specs.Bounds.{are_too_many}
use Rattle.nddl_typeexpr.specs.Kinds.{is_ranged}
use Rattle.nddl_typeexpr.specs.Values.{given_fault, given_meaning, given_sort, given_value, member_fault}
use Rattle.nddl_hierarchy.specs.Facts.{Facts}
use Rattle.nddl_declarations.specs.Classes.{class_meaning_fault}
use Rattle.nddl_declarations.specs.Faults.{all_faults}
use Rattle.nddl_declarations.specs.Known.{AreFacts}
use Rattle.nddl_resolve.specs.declared.denoted.Denoted.{Denoted}
use Rattle.nddl_resolve.specs.declared.denoted.Denoted.TheVariants as denoted
use Rattle.nddl_resolve.specs.Files.{declared_value, file_denoted, meaning_denoted, root_value, sort_denoted}
use Rattle.nddl_resolve.specs.Following.{Understood, asked_by, object_alone, rest_denoted, understood_faults, unknown_at}
use Rattle.nddl_resolve.specs.Paths.{Surroundings, asked_token, expr_denoted, first_denoted, last_seen, near_denoted, own_denoted, path_denoted}
use Rattle.nddl_rule_check.specs.declared.asked.Asked.{Asked}
use Rattle.nddl_rule_check.specs.declared.asked.Asked.TheVariants as asked
use Rattle.nddl_rule_check.specs.Arguments.{are_decimals, argument_faults, arguments_faults, asked_by_type, asked_of_both, compared_faults, condition_faults, constraint_faults, init_faults, meant_by}
use Rattle.nddl_rule_check.specs.Blocks.{block_faults, local_faults, local_value, slot_faults, slot_value, turn_faults, turn_value}
use Rattle.nddl_rule_check.specs.Calls.{body_call_faults, constraint_call_faults, named_call_faults, no_act_faults, rule_call_faults}
use Rattle.nddl_rule_check.specs.Constraints.{asked_among, constraint_named, relation_named, takes}
use Rattle.nddl_rule_check.specs.Rules.{part_rule_faults}
use Rattle.nddl_rule_check.specs.Seeing.{seeing_turn, token_alone}
use Rattle.nddl_rule_check.specs.Slots.{ask_faults, is_label, is_name_seen, label_faults, labelled_slot, related_faults, related_names, relation_faults, slot_names, unwanted_faults}
use Rattle.nddl_rule_check.specs.Types.{file_member_faults, is_wrong_local, local_bounds_faults, local_ends_faults, local_member_faults, local_members_faults, local_no_range_faults, local_numbers, local_range_faults, local_type_faults, local_value_fault, near_member_fault, near_value, object_faults}
use Rattle.nddl_rule_check.specs.Values.{compared_with, unfit_fault}
use Rattle.nddl_terms.specs.declared.tree.Meaning as tree
use Rattle.nddl_terms.specs.declared.tree.ReadName.{ReadName}
use Rattle.nddl_rules.specs.Blocks.{asks_slot}
use Rattle.nddl_rules.specs.Collected.{part_statements}
use Rattle.nddl_rules.specs.Reads.{front_meaning, read_at, scope_meaning}
use Rattle.nddl_laws.specs.Given.{AreGiven}
use Rattle.nddl_laws.specs.Lookups.{IsReadAlike, IsReadFor, Lookup, Outlook, asked_lookups, base_lookups, block_lookups, block_numbered, bounds_lookups, condition_lookups, expr_lookups, exprs_lookups, in_files, init_lookups, local_lookups, lookup_read, own_outlook, rule_lookups, rule_names, rule_numbered, sees_label, sees_local, sees_turn, type_lookups, unlabelled_if, value_lookups, values_lookups}
use Rattle.nddl_laws.specs.Scoping.{AreAlike, IsGround, Numbered, RuleGround, file_read, local_numbered, none_numbered, read_denoted, slot_numbered, sources_in, turn_numbered}
use Rattle.nddl_laws.proofs.Apart.{all_append}
use Rattle.nddl_laws.proofs.Declared.{right_program}
use Rattle.nddl_laws.proofs.Looking.{rule_alike}
use Rattle.nddl_laws.proofs.Nothing.{none_first, none_second}
use Rattle.nddl_laws.proofs.Scoping.{seen_any}
use Rattle.nddl_laws.proofs.Values.{no_fault}
use Rattle.nddl_laws.proofs.WholeTypes.{base_means}

-- ---- what is there

abbrev IsThere : Facts → Surroundings → List ℕ → Bool → Type 0
IsThere facts around name true = (meaning : Meaning) × (meaning_of facts.names name ≡ Some meaning)
IsThere facts around name false = (meant : Denoted) × (first_denoted facts around name ≡ Some meant)

abbrev IsFound : Facts → Lookup → Type 0
IsFound facts lookup = IsThere facts lookup.outlook.around lookup.name.text lookup.alone

-- one fault is a fault
one_fault : (decl at : ℕ) (kind : TextKind) → faults_here decl at (Some kind) ≡ [] → ⊥
one_fault decl at kind none = none-some kind (sym (no_fault decl at (Some kind) none))

first_near : (near own file : Option Denoted) (meant : Denoted) → option_or near own ≡ Some meant
    → (found : Denoted) × (option_or near (option_or own file) ≡ Some found)
first_near (Some one) own file meant is = (one, refl)
first_near None (Some one) file meant is = (one, refl)
first_near None None file meant is = absurd (none-some meant is)

first_file : (near own file : Option Denoted) (meant : Denoted) → file ≡ Some meant
    → (found : Denoted) × (option_or near (option_or own file) ≡ Some found)
first_file (Some one) own file meant is = (one, refl)
first_file None (Some one) file meant is = (one, refl)
first_file None None file meant is = (meant, is)

module _ (facts : Facts) (decl : ℕ) (around : Surroundings) where
  -- ---- paths

  abbrev Denotes : Path → Type 0
  Denotes path = (meant : Denoted) × (first_denoted facts around path.first.text ≡ Some meant)

  -- what is understood begins with something
  begins : (path : Path) (next : Denoted → Understood)
      → understood_faults decl (option_map_or next (first_denoted facts around path.first.text) (unknown_at path.first.at)) ≡ [] → Denotes path
  begins path next = by (first_denoted facts around path.first.text) refl
    where
      by : (o : Option Denoted) → first_denoted facts around path.first.text ≡ o
          → understood_faults decl (option_map_or next o (unknown_at path.first.at)) ≡ [] → Denotes path
      by None is none = absurd (one_fault decl path.first.at faults.Unknown none)
      by (Some meant) is none = (meant, is)

  path_found : (path : Path) → understood_faults decl (path_denoted facts around path) ≡ [] → Denotes path
  path_found path none = begins path (λ begin. rest_denoted facts path.first.at begin path.rest) none

  asked_found : (path : Path) → understood_faults decl (asked_token facts around path) ≡ [] → Denotes path
  asked_found path none = begins path (λ owner. asked_by facts owner path) none

  -- ---- labels

  label_seen : (formals turns locals labels : Option Denoted) → is_some labels ≡ true
      → (meant : Denoted) × (option_or (option_or (option_or formals turns) locals) labels ≡ Some meant)
  label_seen (Some one) turns locals labels is = (one, refl)
  label_seen None (Some one) locals labels is = (one, refl)
  label_seen None None (Some one) labels is = (one, refl)
  label_seen None None None (Some one) is = (one, refl)
  label_seen None None None None is = absurd (let e : false ≡ true = is in cc)

  and_other : (one other : Bool) → (one && other) ≡ true → other ≡ true
  and_other true other is = is
  and_other false other is = absurd (let e : false ≡ true = is in cc)

  label_denotes : (path : Path) → is_label around path.first.text ≡ true → Denotes path
  label_denotes path is =
      let name = path.first.text in
      let named : is_name_seen name around.labels ≡ true =
      and_other (not (is_name_seen name around.formals || (is_name_seen name around.turns || is_name_seen name around.locals)))
      (is_name_seen name around.labels) is in
      let near = label_seen (last_seen name around.formals) (last_seen name around.turns) (last_seen name around.locals) (last_seen name around.labels)
      (sym (seen_any name around.labels) ∙ named) in
      near_first name near.0 near.1
    where
      near_first : (name : List ℕ) (meant : Denoted) → near_denoted around name ≡ Some meant
          → (found : Denoted) × (first_denoted facts around name ≡ Some found)
      near_first name meant near =
          (meant, ap (λ o. option_or o (option_or (own_denoted facts around name) (file_denoted facts name))) near)

  some_fault : (at : ℕ) (found : Understood) → unwanted_faults decl at found ≡ [] → ⊥
  some_fault at (Ok meant) none = one_fault decl at faults.WrongType none
  some_fault at (Err fault) none = one_fault decl fault.at fault.kind none

  label_found : (path : Path) → label_faults facts around decl path ≡ [] → Denotes path
  label_found path = by (is_label around path.first.text) refl
    where
      by : (b : Bool) → is_label around path.first.text ≡ b
          → (if b then [] else unwanted_faults decl path.first.at (path_denoted facts around path)) ≡ [] → Denotes path
      by true is none = label_denotes path is
      by false is none = absurd (some_fault path.first.at (path_denoted facts around path) none)

module _ (facts : Facts) (decl : ℕ) (outlook : Outlook) where
  abbrev Found : List Lookup → Type 0
  Found some = AllByRecursion (IsFound facts) some

  -- ---- arguments

  in_path : (path : Path) → (meant : Denoted) × (first_denoted facts outlook.around path.first.text ≡ Some meant) → Found (expr_lookups outlook (exprs.Path path))
  in_path path found = (found, tt)

  argument_found : (asks : Asked) (compared : Option TypeKind) (expr : Expr) → argument_faults facts outlook.around decl asks compared expr ≡ []
      → Found (expr_lookups outlook expr)
  argument_found asks compared (exprs.Literal literal) none = tt
  argument_found asks compared (exprs.Path path) none =
      let expr = exprs.Path path in
      in_path path (path_found facts decl outlook.around path
      (none_first (understood_faults decl (expr_denoted facts outlook.around expr))
      (faults_here decl (expr_place expr) (unfit_fault asks compared expr (meant_by facts outlook.around expr))) none))

  arguments_found : (asks : ℕ → Asked) (place : ℕ) (compared : Option TypeKind) (some : List Expr)
      → arguments_faults facts outlook.around decl asks place compared some ≡ [] → Found (exprs_lookups outlook some)
  arguments_found asks place compared [] none = tt
  arguments_found asks place compared (expr ∷ more) none =
      let next = compared_with (asks place) compared (meant_by facts outlook.around expr) in
      let here = argument_faults facts outlook.around decl (asks place) compared expr in
      let rest = arguments_faults facts outlook.around decl asks (place + 1) next more in
      all_append (IsFound facts) (expr_lookups outlook expr) (exprs_lookups outlook more)
      (argument_found (asks place) compared expr (none_first here rest none))
      (arguments_found asks (place + 1) next more (none_second here rest none))

  constraint_found : (kind : Kind) (at : ℕ) (some : List Expr) → constraint_faults facts outlook.around decl kind at some ≡ []
      → Found (exprs_lookups outlook some)
  constraint_found kind at some = by (asked_among (are_decimals facts outlook.around kind 0 some) kind) (takes kind (length some))
    where
      by : (asks : ℕ → Asked) (b : Bool)
          → (if b then arguments_faults facts outlook.around decl asks 0 None some else faults_here decl at (Some faults.WrongCount)) ≡ []
          → Found (exprs_lookups outlook some)
      by asks true none = arguments_found asks 0 None some none
      by asks false none = absurd (one_fault decl at faults.WrongCount none)

  constraint_call_found : (name : Name) (some : List Expr) → constraint_call_faults facts outlook.around decl name some ≡ []
      → Found (exprs_lookups outlook some)
  constraint_call_found name some = by (constraint_named name.text)
    where
      by : (o : Option Kind)
          → option_map_or (λ (kind : Kind). constraint_faults facts outlook.around decl kind name.at some) o (faults_here decl name.at (Some faults.Unknown)) ≡ []
          → Found (exprs_lookups outlook some)
      by None none = absurd (one_fault decl name.at faults.Unknown none)
      by (Some kind) none = constraint_found kind name.at some none

  -- ---- relations

  related_found : (expr : Expr) → related_faults facts outlook.around decl expr ≡ [] → Found (expr_lookups outlook expr)
  related_found (exprs.Literal literal) none = tt
  related_found (exprs.Path path) none = in_path path (by path.rest none)
    where
      by : (rest : List Name) → related_names facts outlook.around decl path rest ≡ []
          → (meant : Denoted) × (first_denoted facts outlook.around path.first.text ≡ Some meant)
      by [] none = label_found facts decl outlook.around path none
      by (name ∷ more) none = asked_found facts decl outlook.around path none

  relation_found : (at : ℕ) (some : List Expr) → relation_faults facts outlook.around decl at some ≡ [] → Found (exprs_lookups outlook some)
  relation_found at [] none = tt
  relation_found at (expr ∷ []) none = all_append (IsFound facts) (expr_lookups outlook expr) [] (related_found expr none) tt
  relation_found at (expr ∷ (other ∷ more)) none = absurd (one_fault decl at faults.WrongCount none)

  named_call_found : (name : Name) (some : List Expr) → named_call_faults facts outlook.around decl name some ≡ [] → Found (exprs_lookups outlook some)
  named_call_found name some = by (is_some (relation_named name.text))
    where
      by : (b : Bool)
          → (if b then relation_faults facts outlook.around decl name.at some else constraint_call_faults facts outlook.around decl name some) ≡ []
          → Found (exprs_lookups outlook some)
      by true none = relation_found name.at some none
      by false none = constraint_call_found name some none

  -- an act is always a fault
  act_fault : (act : Name) (found : Understood) → no_act_faults decl act found ≡ [] → ⊥
  act_fault act (Ok meant) none = one_fault decl act.at faults.Unknown none
  act_fault act (Err fault) none = one_fault decl fault.at fault.kind none

  -- so nothing stands before the name of a call
  no_act : (call : Call) (plain : List Fault)
      → option_map_or (λ (front : Path). no_act_faults decl (last_name call.path) (path_denoted facts outlook.around front)) (path_before call.path) plain ≡ []
      → plain ≡ []
  no_act call plain = by (path_before call.path)
    where
      by : (o : Option Path)
          → option_map_or (λ (front : Path). no_act_faults decl (last_name call.path) (path_denoted facts outlook.around front)) o plain ≡ [] → plain ≡ []
      by None none = none
      by (Some front) none = absurd (act_fault (last_name call.path) (path_denoted facts outlook.around front) none)

  rule_call_found : (call : Call) → rule_call_faults facts outlook.around decl call ≡ [] → Found (exprs_lookups outlook call.arguments)
  rule_call_found call none =
      named_call_found call.path.first call.arguments (no_act call (named_call_faults facts outlook.around decl call.path.first call.arguments) none)

  body_call_found : (call : Call) → body_call_faults facts outlook.around decl call ≡ [] → Found (exprs_lookups outlook call.arguments)
  body_call_found call none =
      constraint_call_found call.path.first call.arguments
      (no_act call (constraint_call_faults facts outlook.around decl call.path.first call.arguments) none)

  -- ---- slots with a label

  slot_found : (path : Path) (rest : List Name) → understood_faults decl (slot_names facts outlook.around path rest) ≡ []
      → Found (asked_lookups outlook path.first rest)
  slot_found path [] none = tt
  slot_found path (name ∷ more) none = (asked_found facts decl outlook.around path none, tt)

  ask_found : (ask : Ask) → ask_faults facts outlook.around decl ask ≡ [] → Found (asked_lookups outlook ask.path.first ask.path.rest)
  ask_found ask = by (is_some (relation_named ask.word.text))
    where
      by : (b : Bool)
          → (if b then understood_faults decl (labelled_slot facts outlook.around ask.path) else faults_here decl ask.word.at (Some faults.Unknown)) ≡ []
          → Found (asked_lookups outlook ask.path.first ask.path.rest)
      by true none = slot_found ask.path ask.path.rest none
      by false none = absurd (one_fault decl ask.word.at faults.Unknown none)

  -- ---- guards

  compared_found : (one other : Expr) → compared_faults facts outlook.around decl one other ≡ [] → Found (expr_lookups outlook one ++ expr_lookups outlook other)
  compared_found one other none =
      let asks = asked_of_both (meant_by facts outlook.around one) (meant_by facts outlook.around other) in
      let next = compared_with asks None (meant_by facts outlook.around one) in
      let first = argument_faults facts outlook.around decl asks None one in
      let second = argument_faults facts outlook.around decl asks next other in
      all_append (IsFound facts) (expr_lookups outlook one) (expr_lookups outlook other)
      (argument_found asks None one (none_first first second none)) (argument_found asks next other (none_second first second none))

  condition_found : (condition : Condition) → condition_faults facts outlook.around decl condition ≡ [] → Found (condition_lookups outlook condition)
  condition_found (conditions.Truth expr) none = argument_found (asked.Of kinds.Bool) None expr none
  condition_found (conditions.Equal one other) none = compared_found one other none
  condition_found (conditions.NotEqual one other) none = compared_found one other none

  -- ---- locals

  init_found : (of : types.Type) (init : Option Init) → init_faults facts outlook.around decl of init ≡ [] → Found (init_lookups outlook init)
  init_found of None none = tt
  init_found of (Some (inits.New creation)) none = tt
  init_found of (Some (inits.Expr expr)) none = argument_found (asked_by_type facts of) None expr none

  -- a name of the files that may stand for a value denotes something
  sort_given : (entry : ℕ) (declared : Declared) (sort : Sort) (found : Given)
      → option_map (λ (kind : GivenKind). record { kind = kind; number = pos entry }) (given_sort sort) ≡ Some found
      → (meant : Denoted) × (sort_denoted facts entry declared sort ≡ Some meant)
  sort_given entry declared (sorts.Member of place) found is = (denoted.Value (kinds.Enum of) true, refl)
  sort_given entry declared sorts.Object found is = (object_alone (declared_value facts true declared), refl)
  sort_given entry declared sorts.Global found is = (declared_value facts false declared, refl)
  sort_given entry declared sorts.Root found is = (root_value facts declared, refl)
  sort_given entry declared sorts.Forward found is = (denoted.Class (meanings.Entry entry), refl)
  sort_given entry declared sorts.Body found is = (denoted.Class (meanings.Entry entry), refl)
  sort_given entry declared (sorts.Enum number) found is = absurd (none-some found is)
  sort_given entry declared sorts.Typedef found is = absurd (none-some found is)
  sort_given entry declared sorts.Config found is = absurd (none-some found is)

  meaning_given : (o : Option Meaning) (found : Given) → option_and_then (given_meaning facts.names) o ≡ Some found
      → (meant : Denoted) × (option_and_then (meaning_denoted facts) o ≡ Some meant)
  meaning_given None found is = absurd (none-some found is)
  meaning_given (Some (meanings.BuiltIn number)) found is = (denoted.Class (meanings.BuiltIn number), refl)
  meaning_given (Some (meanings.Entry entry)) found is = by (slice_get facts.names entry) is
    where
      by : (o : Option Declared)
          → option_and_then (λ (declared : Declared). option_map (λ (kind : GivenKind). record { kind = kind; number = pos entry }) (given_sort declared.sort)) o ≡ Some found
          → (meant : Denoted) × (option_and_then (λ (declared : Declared). sort_denoted facts entry declared declared.sort) o ≡ Some meant)
      by None is = absurd (none-some found is)
      by (Some declared) is = sort_given entry declared declared.sort found is

  -- a value denotes something if it does so nearby, or in the files where it doesn't
  value_found : (value : Value) → (near_value facts outlook.around value ≡ None → (found : Given) × (given_value facts.names value ≡ Some found))
      → Found (value_lookups outlook value)
  value_found (values.Literal literal) given = tt
  value_found (values.Name name) given =
      let near = near_denoted outlook.around name.text in
      let own = own_denoted facts outlook.around name.text in
      let file = file_denoted facts name.text in
      (by near own file (λ none. let found = given none in meaning_given (meaning_of facts.names name.text) found.0 found.1), tt)
    where
      by : (near own file : Option Denoted) → (option_or near own ≡ None → (meant : Denoted) × (file ≡ Some meant))
          → (found : Denoted) × (option_or near (option_or own file) ≡ Some found)
      by (Some one) own file each = (one, refl)
      by None (Some one) file each = (one, refl)
      by None None file each = each refl

  -- what is no fault of a value as an end, or as a member, means something
  is_given : {X : Type 0} (value : Value) (next : Given → X) (other one : X) → (other ≡ one → ⊥)
      → option_map_or next (given_value facts.names value) other ≡ one → (found : Given) × (given_value facts.names value ≡ Some found)
  is_given {X} value next other one differ = by (given_value facts.names value) refl
    where
      by : (o : Option Given) → given_value facts.names value ≡ o → option_map_or next o other ≡ one → (found : Given) × (given_value facts.names value ≡ Some found)
      by None is same = absurd (differ same)
      by (Some found) is same = (found, is)

  no_unknown : Some faults.Unknown ≡ None → ⊥
  no_unknown is = none-some faults.Unknown (sym is)

  member_found : (kind : TypeKind) (extent : Extent) (value : Value) → local_member_faults facts outlook.around decl kind extent value ≡ []
      → Found (value_lookups outlook value)
  member_found kind extent value none = value_found value (by (near_value facts outlook.around value) none)
    where
      by : (o : Option Denoted)
          → option_map_or (λ (meant : Denoted). faults_here decl (value_place value) (near_member_fault facts kind meant)) o
          (file_member_faults facts decl kind extent value) ≡ []
          → (o ≡ None → (found : Given) × (given_value facts.names value ≡ Some found))
      by (Some meant) is none = absurd (none-some meant (sym none))
      by None is none =
          let own = faults_here decl (value_place value) (member_fault facts.names kind extent value) in
          is_given value (given_fault kind extent) (Some faults.Unknown) None no_unknown
          (no_fault decl (value_place value) (member_fault facts.names kind extent value) (none_first own (object_faults facts decl kind value) is))

  -- ---- types of locals

  base_found : (base : BaseType) → base_fault facts.names base ≡ None → Found (base_lookups outlook base)
  base_found (bases.Named name) none = (by (meaning_of facts.names name.text) refl none, tt)
    where
      by : (o : Option Meaning) → meaning_of facts.names name.text ≡ o → meaning_fault facts.names o ≡ None
          → (meaning : Meaning) × (meaning_of facts.names name.text ≡ Some meaning)
      by None is none = absurd (none-some faults.Unknown (sym none))
      by (Some meaning) is none = (meaning, is)
  base_found bases.Int none = tt
  base_found bases.Float none = tt
  base_found bases.Bool none = tt
  base_found bases.Str none = tt

  range_found : (kind : TypeKind) (extent : Extent) (at : ℕ) (least greatest : Value)
      → local_range_faults facts outlook.around kind extent decl at least greatest ≡ []
      → Found (value_lookups outlook least ++ value_lookups outlook greatest)
  range_found kind extent at least greatest = by (is_ranged kind extent)
    where
      by : (b : Bool)
          → (if b then local_ends_faults facts outlook.around kind extent decl at least greatest
          else local_no_range_faults facts outlook.around decl least greatest) ≡ []
          → Found (value_lookups outlook least ++ value_lookups outlook greatest)
      by true none =
          let order = faults_here decl at (fault_if (is_wrong_local facts outlook.around kind extent least greatest) faults.NotInDomain) in
          let first = local_member_faults facts outlook.around decl kind extents.Whole least in
          let second = local_member_faults facts outlook.around decl kind extents.Whole greatest in
          let both : first ++ second ≡ [] = none_second order (first ++ second) none in
          all_append (IsFound facts) (value_lookups outlook least) (value_lookups outlook greatest)
          (member_found kind extents.Whole least (none_first first second both))
          (member_found kind extents.Whole greatest (none_second first second both))
      by false none =
          let first = faults_here decl (value_place least) (local_value_fault facts outlook.around least) in
          let wrong = faults_here decl (value_place least) (Some faults.WrongType) in
          let second = faults_here decl (value_place greatest) (local_value_fault facts outlook.around greatest) in
          absurd (one_fault decl (value_place least) faults.WrongType (none_first wrong second (none_second first (wrong ++ second) none)))

  members_found : (kind : TypeKind) (extent : Extent) (some : List Value)
      → local_members_faults facts outlook.around kind extent decl some ≡ [] → Found (values_lookups outlook some)
  members_found kind extent [] none = tt
  members_found kind extent (value ∷ more) none =
      let here = local_member_faults facts outlook.around decl kind extent value in
      let rest = local_members_faults facts outlook.around kind extent decl more in
      all_append (IsFound facts) (value_lookups outlook value) (values_lookups outlook more)
      (member_found kind extent value (none_first here rest none)) (members_found kind extent more (none_second here rest none))

  bounds_found : (kind : TypeKind) (extent : Extent) (bounds : Bounds) → local_bounds_faults facts outlook.around kind extent decl bounds ≡ []
      → Found (bounds_lookups outlook bounds)
  bounds_found kind extent bounds.All none = tt
  bounds_found kind extent (bounds.Range at least greatest) none = range_found kind extent at least greatest none
  bounds_found kind extent (bounds.Set at some) none =
      let many = fault_if (are_too_many (local_numbers facts outlook.around kind extent some)) faults.LimitMembers in
      members_found kind extent some
      (none_second (faults_here decl at many) (local_members_faults facts outlook.around kind extent decl some) none)

  module _ (means : (base : BaseType) → base_fault facts.names base ≡ None → (kind : TypeKind) × (base_kind facts.names facts.known base ≡ Some kind)) where
    type_found : (of : types.Type) → local_type_faults facts outlook.around decl of ≡ [] → Found (type_lookups outlook of)
    unfolding local_type_faults
    type_found of none =
        let extent = base_extent facts.names facts.known of.base in
        let first = faults_here decl of.at (base_fault facts.names of.base) in
        let bounded : Option TypeKind → List Fault = λ o.
        option_map_or (λ (kind : TypeKind). local_bounds_faults facts outlook.around kind extent decl of.bounds) o [] in
        let second = bounded (base_kind facts.names facts.known of.base) in
        let right = no_fault decl of.at (base_fault facts.names of.base) (none_first first second none) in
        let kind = means of.base right in
        all_append (IsFound facts) (base_lookups outlook of.base) (bounds_lookups outlook of.bounds) (base_found of.base right)
        (bounds_found kind.0 extent of.bounds (sym (ap bounded kind.1) ∙ none_second first second none))

    local_found : (own : Noted) (variable : Variable) → local_faults facts outlook.around decl own variable ≡ [] → Found (local_lookups outlook variable)
    local_found own variable none =
        let of = variable.declared in
        let first = local_type_faults facts outlook.around decl of in
        let second = repeated_fault decl own variable.name in
        let third = init_faults facts outlook.around decl of variable.init in
        all_append (IsFound facts) (type_lookups outlook of) (init_lookups outlook variable.init)
        (type_found of (none_first first (second ++ third) none))
        (init_found of variable.init (none_second second third (none_second first (second ++ third) none)))

  -- ---- `foreach`

  class_found : (class : Name) → turn_faults facts decl class ≡ [] → Found (in_files outlook class ∷ [])
  class_found class none = (
    by (meaning_of facts.names class.text) refl
        (no_fault decl class.at (class_meaning_fault facts.names (meaning_of facts.names class.text)) none),
    tt,
  )
    where
      by : (o : Option Meaning) → meaning_of facts.names class.text ≡ o → class_meaning_fault facts.names o ≡ None
          → (meaning : Meaning) × (meaning_of facts.names class.text ≡ Some meaning)
      by None is none = absurd (none-some faults.Unknown (sym none))
      by (Some meaning) is none = (meaning, is)

-- ---- blocks

module _ (facts : Facts) (decl : ℕ)
    (means : (base : BaseType) → base_fault facts.names base ≡ None → (kind : TypeKind) × (base_kind facts.names facts.known base ≡ Some kind)) where
  abbrev AllFound : List Lookup → Type 0
  AllFound some = AllByRecursion (IsFound facts) some

  block_found : (outlook : Outlook) (numbered : Numbered) (own : Noted) (statements : Statements)
      → block_faults facts decl outlook.around own statements ≡ [] → AllFound (block_lookups facts outlook numbered statements)
  block_found outlook numbered own Nothing none = tt
  block_found outlook numbered own (Declares variable more) none =
      let meant = local_value facts variable in
      let next = sees_local outlook numbered variable.name meant in
      let on = local_numbered numbered meant in
      let further = with_noted own variable.name.text 0 in
      let first = local_faults facts outlook.around decl own variable in
      let second = block_faults facts decl next.around further more in
      all_append (IsFound facts) (local_lookups outlook variable) (block_lookups facts next on more)
      (local_found facts decl outlook means own variable (none_first first second none))
      (block_found next on further more (none_second first second none))
  block_found outlook numbered own (Calls call more) none =
      let on = unlabelled_if (asks_slot call) numbered in
      let first = rule_call_faults facts outlook.around decl call in
      let second = block_faults facts decl outlook.around own more in
      all_append (IsFound facts) (exprs_lookups outlook call.arguments) (block_lookups facts outlook on more)
      (rule_call_found facts decl outlook call (none_first first second none)) (block_found outlook on own more (none_second first second none))
  block_found outlook numbered own (Asks ask more) none =
      let meant = slot_value facts outlook.around ask in
      let next = sees_label outlook numbered ask.label meant in
      let on = slot_numbered numbered meant in
      let further = with_noted own ask.label.text 0 in
      let first = slot_faults facts outlook.around decl own ask in
      let second = block_faults facts decl next.around further more in
      all_append (IsFound facts) (asked_lookups outlook ask.path.first ask.path.rest) (block_lookups facts next on more)
      (ask_found facts decl outlook ask
      (none_first (ask_faults facts outlook.around decl ask) (repeated_fault decl own ask.label) (none_first first second none)))
      (block_found next on further more (none_second first second none))
  block_found outlook numbered own (Tests at condition then_at chosen more) none =
      let on = block_numbered facts outlook.around numbered chosen in
      let first = condition_faults facts outlook.around decl condition in
      let second = block_faults facts decl outlook.around [] chosen in
      let third = block_faults facts decl outlook.around own more in
      let rest : second ++ third ≡ [] = none_second first (second ++ third) none in
      all_append (IsFound facts) (condition_lookups outlook condition) (block_lookups facts outlook numbered chosen ++ block_lookups facts outlook on more)
      (condition_found facts decl outlook condition (none_first first (second ++ third) none))
      (all_append (IsFound facts) (block_lookups facts outlook numbered chosen) (block_lookups facts outlook on more)
      (block_found outlook numbered [] chosen (none_first second third rest)) (block_found outlook on own more (none_second second third rest)))
  block_found outlook numbered own (Chooses at condition then_at chosen else_at left more) none =
      let on = block_numbered facts outlook.around numbered chosen in
      let other = block_numbered facts outlook.around on left in
      let first = condition_faults facts outlook.around decl condition in
      let second = block_faults facts decl outlook.around [] chosen in
      let third = block_faults facts decl outlook.around [] left in
      let fourth = block_faults facts decl outlook.around own more in
      let rest : second ++ (third ++ fourth) ≡ [] = none_second first (second ++ (third ++ fourth)) none in
      let last : third ++ fourth ≡ [] = none_second second (third ++ fourth) rest in
      all_append (IsFound facts) (condition_lookups outlook condition)
      (block_lookups facts outlook numbered chosen ++ (block_lookups facts outlook on left ++ block_lookups facts outlook other more))
      (condition_found facts decl outlook condition (none_first first (second ++ (third ++ fourth)) none))
      (all_append (IsFound facts) (block_lookups facts outlook numbered chosen) (block_lookups facts outlook on left ++ block_lookups facts outlook other more)
      (block_found outlook numbered [] chosen (none_first second (third ++ fourth) rest))
      (all_append (IsFound facts) (block_lookups facts outlook on left) (block_lookups facts outlook other more)
      (block_found outlook on [] left (none_first third fourth last)) (block_found outlook other own more (none_second third fourth last))))
  block_found outlook numbered own (Repeats at name class body_at body more) none =
      let meant = turn_value facts class in
      let inside = turn_numbered numbered meant in
      let next = sees_turn outlook numbered name meant in
      let on = block_numbered facts (seeing_turn outlook.around name meant) inside body in
      let first = turn_faults facts decl class in
      let second = block_faults facts decl next.around [] body in
      let third = block_faults facts decl outlook.around own more in
      let rest : second ++ third ≡ [] = none_second first (second ++ third) none in
      all_append (IsFound facts) (in_files outlook class ∷ []) (block_lookups facts next inside body ++ block_lookups facts outlook on more)
      (class_found facts decl outlook class (none_first first (second ++ third) none))
      (all_append (IsFound facts) (block_lookups facts next inside body) (block_lookups facts outlook on more)
      (block_found next inside [] body (none_first second third rest)) (block_found outlook on own more (none_second second third rest)))

-- the constraints in the body of a predicate
parts_found : (facts : Facts) (decl : ℕ) (outlook : Outlook) (numbered : Numbered) (some : List PredicatePart)
    → flat_map (part_rule_faults facts decl outlook.around) some ≡ []
    → AllByRecursion (IsFound facts) (block_lookups facts outlook numbered (statements_of (part_statements some)))
parts_found facts decl outlook numbered [] none = tt
parts_found facts decl outlook numbered (parts.Parameter typed ∷ more) none = parts_found facts decl outlook numbered more none
parts_found facts decl outlook numbered (parts.Constraint call ∷ more) none =
    let on = unlabelled_if (asks_slot call) numbered in
    let first = body_call_faults facts outlook.around decl call in
    let second = flat_map (part_rule_faults facts decl outlook.around) more in
    all_append (IsFound facts) (exprs_lookups outlook call.arguments) (block_lookups facts outlook on (statements_of (part_statements more)))
    (body_call_found facts decl outlook call (none_first first second none)) (parts_found facts decl outlook on more (none_second first second none))

-- ---- what is there is read

module _ (ground : RuleGround) (numbered : Numbered) where
  abbrev IsFileRead : Meaning → tree.Meaning → Type 0
  IsFileRead meaning read = file_read ground.facts.names ground.scope read ≡ Some meaning

  -- a name that is looked up gives one name of the tree
  record IsOne (lookup : Lookup) : Type 0 where
    read : ReadName
    is : lookup_read (sources_in ground) lookup ≡ read ∷ []
    so : IsReadFor ground numbered read lookup

  one_read : (name : Name) (outlook : Outlook) (alone : Bool)
      → IsReadAlike ground numbered (record { name = name; alone = alone; outlook = outlook })
      → IsThere ground.facts outlook.around name.text alone → IsOne (record { name = name; alone = alone; outlook = outlook })
  one_read name outlook true alike there = by (scope_meaning (sources_in ground).scope name.text) refl fits
    where
      fits : AreAlike IsFileRead (Some there.0) (scope_meaning (sources_in ground).scope name.text)
      fits = subst (λ o. AreAlike IsFileRead o (scope_meaning (sources_in ground).scope name.text)) there.1 alike.file

      by : (o : Option tree.Meaning) → scope_meaning (sources_in ground).scope name.text ≡ o → AreAlike IsFileRead (Some there.0) o
          → IsOne (record { name = name; alone = true; outlook = outlook })
      by None is same = absurd same
      by (Some meaning) is same = record {
        read = record { at = name.at; meaning = meaning };
        is = ap (read_at name.at) is;
        so = record { at = refl; thing = record { meaning = there.0; means = there.1; is = same } };
      }
  one_read name outlook false alike there = by (front_meaning (sources_in ground) outlook.sight name.text) refl (sym alike.front ∙ there.1)
    where
      by : (o : Option tree.Meaning) → front_meaning (sources_in ground) outlook.sight name.text ≡ o
          → option_and_then (read_denoted ground numbered) o ≡ Some there.0
          → IsOne (record { name = name; alone = false; outlook = outlook })
      by None is same = absurd (none-some there.0 same)
      by (Some meaning) is same = record {
        read = record { at = name.at; meaning = meaning };
        is = ap (read_at name.at) is;
        so = record { at = refl; thing = record { meant = there.0; denotes = there.1; is = same } };
      }

  all_read : (some : List Lookup) → AllByRecursion (IsReadAlike ground numbered) some → AllByRecursion (IsFound ground.facts) some
      → AllZip (IsReadFor ground numbered) (flat_map (lookup_read (sources_in ground)) some) some
  all_read [] alike there = tt
  all_read (lookup ∷ more) alike there =
      let one = one_read lookup.name lookup.outlook lookup.alone alike.0 there.0 in
      let Z : List ReadName → Type 0 = λ names.
      AllZip (IsReadFor ground numbered) (names ++ flat_map (lookup_read (sources_in ground)) more) (lookup ∷ more) in
      subst Z (sym one.is) (one.so, all_read more alike.1 there.1)

-- ---- rules

read_from : (files : List FileDecls) (ground : RuleGround) (statements : Statements) → IsGround files ground
    → AllByRecursion (IsFound ground.facts) (rule_lookups ground statements)
    → AllZip (IsReadFor ground (rule_numbered ground statements)) (rule_names ground statements) (rule_lookups ground statements)
read_from files ground statements is there =
    let rule = rule_alike files ground statements is in
    let final = rule_numbered ground statements in
    subst (λ names. AllZip (IsReadFor ground final) names (rule_lookups ground statements)) (sym rule.names)
    (all_read ground final (rule_lookups ground statements) rule.alike there)

pub fine_rule : (files : List FileDecls) (ground : RuleGround) (decl : ℕ) (statements : Statements) → AreGiven files → IsGround files ground
    → all_faults ground.facts ≡ [] → block_faults ground.facts decl (token_alone ground.token) [] statements ≡ []
    → AllZip (IsReadFor ground (rule_numbered ground statements)) (rule_names ground statements) (rule_lookups ground statements)
fine_rule files ground decl statements given is fine none =
    let facts = ground.facts in
    let P : List Decl → Type 0 = λ program. AreFacts (scope_names program) program facts in
    let are = subst P (sym is.are.is_program) is.are in
    let right = right_program files facts is.are.is_program fine given in
    read_from files ground statements is
    (block_found facts decl (base_means facts are fine right) (own_outlook ground.token) none_numbered [] statements none)

pub fine_body : (files : List FileDecls) (ground : RuleGround) (decl : ℕ) (some : List PredicatePart) → IsGround files ground
    → flat_map (part_rule_faults ground.facts decl (token_alone ground.token)) some ≡ []
    → AllZip (IsReadFor ground (rule_numbered ground (statements_of (part_statements some)))) (rule_names ground (statements_of (part_statements some)))
    (rule_lookups ground (statements_of (part_statements some)))
fine_body files ground decl some is none =
    read_from files ground (statements_of (part_statements some)) is
    (parts_found ground.facts decl (own_outlook ground.token) none_numbered some none)
