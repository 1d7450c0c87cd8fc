-- What is wrong with the rules of a program stands in one of its declarations.
use Rattle.std.proofs.Common.{◌≡◌, ℕ, ◌+◌, ◌<◌, Bool, true, false, List, [], ◌∷◌, ◌++◌, length, Option, Some, None, Ok, Err, arith}
use Rattle.std.specs.Prelude.{All, is_some, if◌then◌else◌}
use Rattle.std.specs.List.{flat_map}
use Rattle.std.specs.Option.{option_map_or}
use Rattle.std.proofs.lemmas.List.Elements.{All-nil, All-cons, All-append}
use Rattle.domain_core.specs.declared.kind.Kind.{Kind}
use Rattle.eu_index.specs.Index.{Noted, with_noted}
use Rattle.nddl_ast.specs.declared.declaration.Decl.{Decl}
use Rattle.nddl_ast.specs.declared.declaration.Decl.TheVariants as decls
use Rattle.nddl_ast.specs.declared.declaration.Member.{Member}
use Rattle.nddl_ast.specs.declared.declaration.Member.TheVariants as members
use Rattle.nddl_ast.specs.declared.declaration.PredicatePart.{PredicatePart}
use Rattle.nddl_ast.specs.declared.declaration.PredicatePart.TheVariants as parts
use Rattle.nddl_ast.specs.declared.expression.Bounds.{Bounds}
use Rattle.nddl_ast.specs.declared.expression.Bounds.TheVariants as bounds
use Rattle.nddl_ast.specs.declared.expression.Expr.{Expr}
use Rattle.nddl_ast.specs.declared.expression.Expr.TheVariants as exprs
use Rattle.nddl_ast.specs.declared.expression.Init.{Init}
use Rattle.nddl_ast.specs.declared.expression.Init.TheVariants as inits
use Rattle.nddl_ast.specs.declared.expression.Type as types
use Rattle.nddl_ast.specs.declared.expression.Value.{Value}
use Rattle.nddl_ast.specs.declared.kind.TextKind.{TextKind}
use Rattle.nddl_ast.specs.declared.kind.TextKind.TheVariants as faults
use Rattle.nddl_ast.specs.declared.name.Name.{Name}
use Rattle.nddl_ast.specs.declared.name.Path.{Path}
use Rattle.nddl_ast.specs.declared.statement.Ask.{Ask}
use Rattle.nddl_ast.specs.declared.statement.Call.{Call}
use Rattle.nddl_ast.specs.declared.statement.Condition.{Condition}
use Rattle.nddl_ast.specs.declared.statement.Condition.TheVariants as conditions
use Rattle.nddl_ast.specs.declared.statement.Variable.{Variable}
use Rattle.nddl_ast.specs.Path.{last_name, path_before}
use Rattle.nddl_ast.specs.Places.{expr_place, value_place}
use Rattle.nddl_ast.specs.Tree.{Braces, Statements, Nothing, Declares, Calls, Asks, Tests, Chooses, Repeats}
use Rattle.nddl_symbols.specs.declared.fault.Fault.{Fault}
use Rattle.nddl_symbols.specs.declared.scope.Meaning.{Meaning}
use Rattle.nddl_symbols.specs.declared.scope.Meaning.TheVariants as meanings
use Rattle.nddl_symbols.specs.Finding.{faults_here}
use Rattle.nddl_symbols.specs.Repeats.{repeated_fault}
use Rattle.nddl_symbols.specs.Scope.{meaning_of}
use Rattle.nddl_typeexpr.specs.declared.kind.Extent.{Extent}
use Rattle.nddl_typeexpr.specs.declared.kind.Extent.TheVariants as extents
use Rattle.nddl_typeexpr.specs.declared.kind.TypeKind.{TypeKind}
use Rattle.nddl_typeexpr.specs.declared.kind.TypeKind.TheVariants as kinds
use Rattle.nddl_typeexpr.specs.Bases.{base_extent, base_kind}
use Rattle.nddl_typeexpr.specs.Kinds.{is_ranged}
use Rattle.nddl_hierarchy.specs.Facts.{Facts}
use Rattle.nddl_resolve.specs.declared.denoted.Denoted.{Denoted}
use Rattle.nddl_resolve.specs.declared.denoted.Denoted.TheVariants as denoted
use Rattle.nddl_resolve.specs.Following.{Understood, understood_faults}
use Rattle.nddl_resolve.specs.Paths.{Surroundings, asked_token, expr_denoted, path_denoted}
use Rattle.nddl_rule_check.specs.declared.asked.Asked.{Asked}
use Rattle.nddl_rule_check.specs.declared.asked.Asked.TheVariants as asked
use Rattle.nddl_rule_check.specs.Arguments.{are_decimals, argument_faults, arguments_faults, asked_by_type, asked_of_both, compared_faults, condition_faults, constraint_faults, init_faults, meant_by}
use Rattle.nddl_rule_check.specs.Blocks.{block_faults, local_faults, local_value, slot_faults, slot_value, turn_faults, turn_value}
use Rattle.nddl_rule_check.specs.Calls.{body_call_faults, constraint_call_faults, named_call_faults, no_act_faults, rule_call_faults}
use Rattle.nddl_rule_check.specs.Constraints.{asked_among, constraint_named, relation_named, takes}
use Rattle.nddl_rule_check.specs.Rules.{all_rule_faults, class_rule_faults, decl_rule_faults, member_rule_faults, member_token, members_rule_faults, part_rule_faults, rule_token, token_rule_faults}
use Rattle.nddl_rule_check.specs.Seeing.{seeing_label, seeing_local, seeing_turn, token_alone}
use Rattle.nddl_rule_check.specs.Slots.{ask_faults, is_label, label_faults, labelled_slot, related_faults, related_names, relation_faults, unwanted_faults}
use Rattle.nddl_rule_check.specs.Types.{local_bounds_faults, local_ends_faults, local_member_faults, local_no_range_faults, local_range_faults, local_set_faults, local_type_faults, near_member_fault, near_value, object_faults}
use Rattle.nddl_rule_check.specs.Values.{compared_with}

-- all of the faults are in declarations of such numbers
pub record AllIn (Good : ℕ → Type 0) (some : List Fault) : Type 0 where
  pub all : All (λ (fault : Fault). Good fault.place.decl) some

module _ (Good : ℕ → Type 0) where
  abbrev IsIn : Fault → Type 0
  IsIn fault = Good fault.place.decl

  pub nil : AllIn Good []
  nil = record { all = All-nil IsIn }

  pub joined : (one other : List Fault) → AllIn Good one → AllIn Good other → AllIn Good (one ++ other)
  joined one other first second = record { all = All-append IsIn one other first.all second.all }

  pub each : {X : Type 0} (f : X → List Fault) (xs : List X) → ((x : X) → AllIn Good (f x)) → AllIn Good (flat_map f xs)
  each f [] all = nil
  each f (x ∷ xs) all = joined (f x) (flat_map f xs) (all x) (each f xs all)

  pub either : (b : Bool) (one other : List Fault) → AllIn Good one → AllIn Good other → AllIn Good (if b then one else other)
  either true one other first second = first
  either false one other first second = second

  pub optional : {X : Type 0} (f : X → List Fault) (o : Option X) (none : List Fault) → ((x : X) → AllIn Good (f x)) → AllIn Good none
      → AllIn Good (option_map_or f o none)
  optional f None none some missing = missing
  optional f (Some x) none some missing = some x

  module _ (decl : ℕ) (good : Good decl) where
    pub here : (at : ℕ) (o : Option TextKind) → AllIn Good (faults_here decl at o)
    here at None = nil
    here at (Some kind) = record { all = All-cons IsIn (record { place = record { decl = decl; at = at }; kind = kind }) [] good (All-nil IsIn) }

    pub understood : (found : Understood) → AllIn Good (understood_faults decl found)
    understood (Ok meant) = nil
    understood (Err fault) = here fault.at (Some fault.kind)

    pub unwanted : (at : ℕ) (found : Understood) → AllIn Good (unwanted_faults decl at found)
    unwanted at (Ok meant) = here at (Some faults.WrongType)
    unwanted at (Err fault) = here fault.at (Some fault.kind)

    module _ (facts : Facts) where
      -- ---- arguments

      argument : (around : Surroundings) (asks : Asked) (compared : Option TypeKind) (expr : Expr) → AllIn Good (argument_faults facts around decl asks compared expr)
      argument around asks compared expr = joined _ _ (understood (expr_denoted facts around expr)) (here (expr_place expr) _)

      arguments : (around : Surroundings) (asks : ℕ → Asked) (place : ℕ) (compared : Option TypeKind) (some : List Expr)
          → AllIn Good (arguments_faults facts around decl asks place compared some)
      arguments around asks place compared [] = nil
      arguments around asks place compared (expr ∷ more) =
          joined _ _ (argument around (asks place) compared expr)
          (arguments around asks (place + 1) (compared_with (asks place) compared (meant_by facts around expr)) more)

      pub constraint : (around : Surroundings) (kind : Kind) (at : ℕ) (some : List Expr) → AllIn Good (constraint_faults facts around decl kind at some)
      constraint around kind at some =
          either (takes kind (length some)) _ _ (arguments around (asked_among (are_decimals facts around kind 0 some) kind) 0 None some)
          (here at (Some faults.WrongCount))

      compared : (around : Surroundings) (one other : Expr) → AllIn Good (compared_faults facts around decl one other)
      compared around one other =
          let asks = asked_of_both (meant_by facts around one) (meant_by facts around other) in
          joined _ _ (argument around asks None one) (argument around asks (compared_with asks None (meant_by facts around one)) other)

      condition : (around : Surroundings) (tested : Condition) → AllIn Good (condition_faults facts around decl tested)
      condition around (conditions.Truth expr) = argument around (asked.Of kinds.Bool) None expr
      condition around (conditions.Equal one other) = compared around one other
      condition around (conditions.NotEqual one other) = compared around one other

      begun : (around : Surroundings) (type : types.Type) (init : Option Init) → AllIn Good (init_faults facts around decl type init)
      begun around type None = nil
      begun around type (Some (inits.New creation)) = here creation.at (Some faults.WrongType)
      begun around type (Some (inits.Expr expr)) = argument around (asked_by_type facts type) None expr

      -- ---- calls

      pub no_act : (act : Name) (found : Understood) → AllIn Good (no_act_faults decl act found)
      no_act act (Ok meant) = here act.at (Some faults.Unknown)
      no_act act (Err fault) = here fault.at (Some fault.kind)

      pub constraint_call : (around : Surroundings) (name : Name) (some : List Expr) → AllIn Good (constraint_call_faults facts around decl name some)
      constraint_call around name some =
          optional (λ (kind : Kind). constraint_faults facts around decl kind name.at some) (constraint_named name.text) _ (λ kind. constraint around kind name.at some)
          (here name.at (Some faults.Unknown))

      label : (around : Surroundings) (path : Path) → AllIn Good (label_faults facts around decl path)
      label around path = either (is_label around path.first.text) _ _ nil (unwanted path.first.at (path_denoted facts around path))

      related_to : (around : Surroundings) (path : Path) (names : List Name) → AllIn Good (related_names facts around decl path names)
      related_to around path [] = label around path
      related_to around path (name ∷ more) = understood (asked_token facts around path)

      related : (around : Surroundings) (expr : Expr) → AllIn Good (related_faults facts around decl expr)
      related around (exprs.Path path) = related_to around path path.rest
      related around (exprs.Literal literal) = here literal.at (Some faults.WrongType)

      relation : (around : Surroundings) (at : ℕ) (some : List Expr) → AllIn Good (relation_faults facts around decl at some)
      relation around at [] = here at (Some faults.WrongCount)
      relation around at (expr ∷ []) = related around expr
      relation around at (expr ∷ other ∷ more) = here at (Some faults.WrongCount)

      named_call : (around : Surroundings) (name : Name) (some : List Expr) → AllIn Good (named_call_faults facts around decl name some)
      named_call around name some = either (is_some (relation_named name.text)) _ _ (relation around name.at some) (constraint_call around name some)

      rule_call : (around : Surroundings) (call : Call) → AllIn Good (rule_call_faults facts around decl call)
      rule_call around call =
          optional (λ (front : Path). no_act_faults decl (last_name call.path) (path_denoted facts around front)) (path_before call.path) _
          (λ front. no_act (last_name call.path) (path_denoted facts around front)) (named_call around call.path.first call.arguments)

      body_call : (around : Surroundings) (call : Call) → AllIn Good (body_call_faults facts around decl call)
      body_call around call =
          optional (λ (front : Path). no_act_faults decl (last_name call.path) (path_denoted facts around front)) (path_before call.path) _
          (λ front. no_act (last_name call.path) (path_denoted facts around front)) (constraint_call around call.path.first call.arguments)

      ask : (around : Surroundings) (asks : Ask) → AllIn Good (ask_faults facts around decl asks)
      ask around asks = either (is_some (relation_named asks.word.text)) _ _ (understood (labelled_slot facts around asks.path)) (here asks.word.at (Some faults.Unknown))

      -- ---- types of locals

      object : (kind : TypeKind) (value : Value) → AllIn Good (object_faults facts decl kind value)
      object (kinds.Object class) value = here (value_place value) _
      object kinds.Int value = nil
      object kinds.Float value = nil
      object kinds.Bool value = nil
      object (kinds.Enum of) value = nil

      member : (around : Surroundings) (kind : TypeKind) (extent : Extent) (value : Value) → AllIn Good (local_member_faults facts around decl kind extent value)
      member around kind extent value =
          optional (λ (meant : Denoted). faults_here decl (value_place value) (near_member_fault facts kind meant)) (near_value facts around value) _
          (λ meant. here (value_place value) (near_member_fault facts kind meant)) (joined _ _ (here (value_place value) _) (object kind value))

      ends : (around : Surroundings) (kind : TypeKind) (extent : Extent) (at : ℕ) (least greatest : Value)
          → AllIn Good (local_ends_faults facts around kind extent decl at least greatest)
      ends around kind extent at least greatest =
          joined _ _ (here at _) (joined _ _ (member around kind extents.Whole least) (member around kind extents.Whole greatest))

      no_range : (around : Surroundings) (least greatest : Value) → AllIn Good (local_no_range_faults facts around decl least greatest)
      no_range around least greatest =
          joined _ _ (here (value_place least) _) (joined _ _ (here (value_place least) (Some faults.WrongType)) (here (value_place greatest) _))

      range : (around : Surroundings) (kind : TypeKind) (extent : Extent) (at : ℕ) (least greatest : Value)
          → AllIn Good (local_range_faults facts around kind extent decl at least greatest)
      range around kind extent at least greatest = either (is_ranged kind extent) _ _ (ends around kind extent at least greatest) (no_range around least greatest)

      set : (around : Surroundings) (kind : TypeKind) (extent : Extent) (at : ℕ) (some : List Value) → AllIn Good (local_set_faults facts around kind extent decl at some)
      set around kind extent at some =
          joined _ _ (here at _) (each (λ (value : Value). local_member_faults facts around decl kind extent value) some (λ value. member around kind extent value))

      bounded : (around : Surroundings) (kind : TypeKind) (extent : Extent) (some : Bounds) → AllIn Good (local_bounds_faults facts around kind extent decl some)
      bounded around kind extent bounds.All = nil
      bounded around kind extent (bounds.Range at least greatest) = range around kind extent at least greatest
      bounded around kind extent (bounds.Set at some) = set around kind extent at some

      typed : (around : Surroundings) (type : types.Type) → AllIn Good (local_type_faults facts around decl type)
      unfolding local_type_faults
      typed around type =
          joined _ _ (here type.at _)
          (optional (λ (kind : TypeKind). local_bounds_faults facts around kind (base_extent facts.names facts.known type.base) decl type.bounds)
          (base_kind facts.names facts.known type.base) [] (λ kind. bounded around kind (base_extent facts.names facts.known type.base) type.bounds) nil)

      -- ---- statements

      repeated : (own : Noted) (name : Name) → AllIn Good (repeated_fault decl own name)
      repeated own name = here name.at _

      local : (around : Surroundings) (own : Noted) (variable : Variable) → AllIn Good (local_faults facts around decl own variable)
      local around own variable =
          joined _ _ (typed around variable.declared) (joined _ _ (repeated own variable.name) (begun around variable.declared variable.init))

      slot : (around : Surroundings) (own : Noted) (asks : Ask) → AllIn Good (slot_faults facts around decl own asks)
      slot around own asks = joined _ _ (ask around asks) (repeated own asks.label)

      turn : (class : Name) → AllIn Good (turn_faults facts decl class)
      turn class = here class.at _

      block : (around : Surroundings) (own : Noted) (some : Statements) → AllIn Good (block_faults facts decl around own some)
      block around own Nothing = nil
      block around own (Declares variable more) =
          joined _ _ (local around own variable)
          (block (seeing_local around variable.name (local_value facts variable)) (with_noted own variable.name.text 0) more)
      block around own (Calls call more) = joined _ _ (rule_call around call) (block around own more)
      block around own (Asks asks more) =
          joined _ _ (slot around own asks) (block (seeing_label around asks.label (slot_value facts around asks)) (with_noted own asks.label.text 0) more)
      block around own (Tests at tested met_at met more) = joined _ _ (condition around tested) (joined _ _ (block around [] met) (block around own more))
      block around own (Chooses at tested met_at met unmet_at unmet more) =
          joined _ _ (condition around tested) (joined _ _ (block around [] met) (joined _ _ (block around [] unmet) (block around own more)))
      block around own (Repeats at name class body_at body more) =
          joined _ _ (turn class) (joined _ _ (block (seeing_turn around name (turn_value facts class)) [] body) (block around own more))

      -- ---- rules

      of_token : (body : Braces) (found : Understood) → AllIn Good (token_rule_faults facts decl body found)
      of_token body (Err fault) = here fault.at (Some fault.kind)
      of_token body (Ok (denoted.Token token)) = block (token_alone token) [] body.statements
      of_token body (Ok (denoted.Value kind constant)) = nil
      of_token body (Ok (denoted.Class class)) = nil
      of_token body (Ok denoted.Faulty) = nil

      part : (around : Surroundings) (some : PredicatePart) → AllIn Good (part_rule_faults facts decl around some)
      part around (parts.Parameter typed) = nil
      part around (parts.Constraint call) = body_call around call

      one_member : (entry place : ℕ) (some : Member) → AllIn Good (member_rule_faults facts decl entry place some)
      one_member entry place (members.Predicate at name some) =
          each (part_rule_faults facts decl (token_alone (member_token entry place))) some (part (token_alone (member_token entry place)))
      one_member entry place (members.Field typed) = nil
      one_member entry place (members.Constructor name formals sets) = nil

      all_members : (entry place : ℕ) (some : List Member) → AllIn Good (members_rule_faults facts decl entry place some)
      all_members entry place [] = nil
      all_members entry place (one ∷ more) = joined _ _ (one_member entry place one) (all_members entry (place + 1) more)

      class_rules : (some : List Member) (meaning : Option Meaning) → AllIn Good (class_rule_faults facts decl some meaning)
      class_rules some None = nil
      class_rules some (Some (meanings.BuiltIn number)) = nil
      class_rules some (Some (meanings.Entry entry)) = all_members entry 0 some

      decl_rules : (one : Decl) → AllIn Good (decl_rule_faults facts decl one)
      decl_rules (decls.Rule class predicate body) = of_token body (rule_token facts class predicate)
      decl_rules (decls.Class at name parent some) = class_rules some (meaning_of facts.names name.text)
      decl_rules (decls.Include at file file_at) = nil
      decl_rules (decls.Enum at name members_at some) = nil
      decl_rules (decls.Typedef at declared name) = nil
      decl_rules (decls.Forward at name) = nil
      decl_rules (decls.Variable variable) = nil
      decl_rules (decls.Call call) = nil
      decl_rules (decls.Ask asks) = nil

  module _ (count : ℕ) (good : (number : ℕ) → number < count → Good number) where
    rules_from : (facts : Facts) (number : ℕ) (some : List Decl) → number + length some ≡ count → AllIn Good (all_rule_faults facts number some)
    rules_from facts number [] is = nil
    rules_from facts number (decl ∷ more) is =
        joined _ _ (decl_rules number (good number (omega (arith, is))) facts decl) (rules_from facts (number + 1) more (omega (arith, is)))

-- what is wrong with the rules of a program
pub rules_in : (Good : ℕ → Type 0) (facts : Facts) → ((number : ℕ) → number < length facts.program → Good number)
    → AllIn Good (all_rule_faults facts 0 facts.program)
rules_in Good facts good = rules_from Good (length facts.program) good facts 0 facts.program (omega arith)
