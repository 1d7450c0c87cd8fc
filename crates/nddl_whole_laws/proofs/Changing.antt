-- What is no constant where nothing is wrong: variables, tokens and classes, and all that is read behind them.
use Rattle.std.proofs.Common.{◌≡◌, ℕ, Bool, true, false, List, [], ◌∷◌, ◌++◌, length, refl, sym, ◌∙◌, ap, subst}
use Rattle.std.specs.Prelude.{⊤, Option, Some, None, Ok, Err, slice_get, nat_lt, codes, if◌then◌else◌}
use Rattle.std.specs.Option.{option_map, option_map_or}
use Rattle.std.specs.Str.{bytes_eq}
use Rattle.std.proofs.lemmas.List.Elements.{recursion_from_All}
use Rattle.std.proofs.lemmas.Option.{same_Some, none-some}
use Rattle.model_core.specs.Naming.{token_part_words}
use Rattle.model_core.proofs.Items.{item_all}
use Rattle.nddl_ast.specs.declared.declaration.FileDecls.{FileDecls}
use Rattle.nddl_ast.specs.declared.declaration.Member.{Member}
use Rattle.nddl_ast.specs.declared.declaration.Member.TheVariants as members
use Rattle.nddl_ast.specs.declared.declaration.PredicatePart.{PredicatePart}
use Rattle.nddl_ast.specs.declared.declaration.Typed.{Typed}
use Rattle.nddl_ast.specs.declared.expression.Expr.{Expr}
use Rattle.nddl_ast.specs.declared.kind.TextKind.TheVariants as faults
use Rattle.nddl_ast.specs.declared.name.Name.{Name}
use Rattle.nddl_symbols.specs.declared.declared.Declared.{Declared}
use Rattle.nddl_symbols.specs.declared.declared.Sort.TheVariants as sorts
use Rattle.nddl_symbols.specs.declared.scope.Meaning.{Meaning}
use Rattle.nddl_symbols.specs.declared.scope.Meaning.TheVariants as meanings
use Rattle.nddl_symbols.specs.Finding.{faults_here}
use Rattle.nddl_symbols.specs.Repeats.{repeated_faults}
use Rattle.nddl_symbols.specs.Scope.{fault_if, is_class_at}
use Rattle.nddl_typeexpr.specs.declared.kind.TypeKind.{TypeKind}
use Rattle.nddl_typeexpr.specs.declared.kind.TypeKind.TheVariants as kinds
use Rattle.nddl_hierarchy.specs.Decls.{members_of}
use Rattle.nddl_hierarchy.specs.Facts.{Facts}
use Rattle.nddl_hierarchy.specs.Inherited.{words_noted}
use Rattle.nddl_hierarchy.specs.Members.{named_typed}
use Rattle.nddl_declarations.specs.Known.{all_type_faults}
use Rattle.nddl_declarations.specs.Members.{parameters_of, typed_faults, typed_names}
use Rattle.nddl_types.specs.declared.table.TypeTable.{TypeTable}
use Rattle.nddl_types.specs.Classes.{class_number}
use Rattle.nddl_types.specs.Table.{IsTable}
use Rattle.nddl_resolve.specs.declared.denoted.Denoted.{Denoted}
use Rattle.nddl_resolve.specs.declared.denoted.Denoted.TheVariants as denoted
use Rattle.nddl_resolve.specs.declared.denoted.Predicate.{Predicate}
use Rattle.nddl_resolve.specs.declared.denoted.Predicate.TheVariants as predicates
use Rattle.nddl_resolve.specs.declared.denoted.TokenSort.{TokenSort}
use Rattle.nddl_resolve.specs.Fields.{class_field, type_value}
use Rattle.nddl_resolve.specs.Files.{declared_value, root_value}
use Rattle.nddl_resolve.specs.Following.{Understood, found_at, found_next, next_denoted, rest_denoted}
use Rattle.nddl_resolve.specs.Predicates.{is_time_word, member_parts, parameter_value, token_part}
use Rattle.nddl_constructors.specs.Constants.{constant_fault}
use Rattle.nddl_objects.specs.Objects.{last_progress, progress_fault}
use Rattle.nddl_problem_check.specs.Texts.{problem_text_faults}
use Rattle.nddl_laws.specs.Given.{AreGiven}
use Rattle.nddl_laws.proofs.Lists.{none_flat}
use Rattle.nddl_laws.proofs.Members.{IsRightAt, members_right}
use Rattle.nddl_laws.proofs.Nothing.{none_first}
use Rattle.nddl_laws.proofs.Parents.{few_builtin, meant_class}
use Rattle.nddl_rule_laws.specs.Meanings.{IsNamedClass}
use Rattle.nddl_rule_laws.proofs.Classes.{right}
use Rattle.nddl_rule_laws.proofs.Scopes.{global_value}
use Rattle.nddl_rule_laws.proofs.Shapes.{FieldIn, field_found, has_field, type_known}
use Rattle.nddl_rule_laws.proofs.TypeKinds.{IsThere, KindThere, builtin_there, entry_there}
use Rattle.nddl_name_laws.proofs.Labels.{labels_denote}
use Rattle.nddl_model_laws.proofs.Fielded.{found_so}

same_ok : (one other : Denoted) → ◌≡◌ {A = Understood} (Ok one) (Ok other) → one ≡ other
same_ok one other same = cc

module _ (files : List FileDecls) (table : TypeTable) (given : AreGiven files) (is : IsTable files table) where
  abbrev facts : Facts
  facts = is.facts

  -- a variable, a token or a class, of a class that there is
  abbrev pub IsChanging : Denoted → Type 0
  IsChanging (denoted.Value kind true) = ⊥
  IsChanging (denoted.Value kind false) = KindThere files table given is kind
  IsChanging (denoted.Token token) = IsThere files table given is token.class
  IsChanging (denoted.Class class) = ⊤
  IsChanging denoted.Faulty = ⊥

  -- a class that some name means is there
  named_there : (class : Meaning) → IsNamedClass facts class → IsThere files table given is class
  named_there (meanings.BuiltIn number) it = builtin_there files table given is number (few_builtin facts.names it.name number it.means)
  named_there (meanings.Entry entry) it =
      let found = meant_class facts.names it.name entry it.means (class_at (is_class_at facts.names entry) it.right) in
      entry_there files table given is entry found.0 found.1 found.2
    where
      class_at : (b : Bool) → (if b then None else Some faults.WrongType) ≡ None → b ≡ true
      class_at true one = refl
      class_at false one = absurd (none-some faults.WrongType (sym one))

  -- ---- what is read behind it

  found_is : (name : Name) (o : Option Denoted) (next : Denoted) → found_at name o ≡ Ok next → o ≡ Some next
  found_is name None next told = absurd (cc)
  found_is name (Some found) next told = ap (λ d. Some d) (same_ok found next told)

  field_changing : (class : Meaning) (name : List ℕ) (next : Denoted) → IsThere files table given is class
      → class_field facts false name class ≡ Some next → IsChanging next
  field_changing class name next there found =
      let in_class : FieldIn facts false name class next = field_found facts name false class next found in
      let has = has_field files table given is [] [] false name (class_number facts.names class) there.0 next
      (subst (λ c. FieldIn facts false name c next) (sym there.1) in_class) in
      subst IsChanging (sym has.is_value) has.there

  typed_changing : (typed : Typed) (number : ℕ) (next : Denoted) → all_type_faults facts number typed.declared ≡ []
      → type_value facts.names facts.known false typed.declared ≡ next → IsChanging next
  typed_changing typed number next none told =
      let type = type_known files table given is [] [] number typed.declared none in
      let value : next ≡ denoted.Value type.0 false =
      sym told ∙ ap (λ o. option_map_or (λ (k : TypeKind). denoted.Value k false) o denoted.Faulty) type.1 in
      subst IsChanging (sym value) type.2

  parameter_changing : (name : List ℕ) (predicate : Predicate) (next : Denoted) → parameter_value facts name predicate ≡ Some next → IsChanging next
  parameter_changing name predicates.BuiltIn next told = by (bytes_eq name (codes "quantity")) told
    where
      by : (b : Bool) → (if b then Some (denoted.Value kinds.Int false) else None) ≡ Some next → IsChanging next
      by true same = subst IsChanging (same_Some (denoted.Value kinds.Int false) next same) tt
      by false same = absurd (none-some next same)
  parameter_changing name (predicates.Declared entry member) next told = by (slice_get (members_of facts.names facts.program entry) member) refl told
    where
      some : List Member
      some = members_of facts.names facts.program entry

      nothing : option_map (λ (typed : Typed). type_value facts.names facts.known false typed.declared) (named_typed name (parameters_of [])) ≡ Some next → IsChanging next
      nothing same = absurd (none-some next same)

      inside : (at : ℕ) (called : Name) (parts : List PredicatePart) → slice_get (members_of facts.names facts.program entry) member ≡ Some (members.Predicate at called parts)
          → (o : Option Typed) → named_typed name (parameters_of parts) ≡ o
          → option_map (λ (typed : Typed). type_value facts.names facts.known false typed.declared) o ≡ Some next → IsChanging next
      inside at called parts there None named same = absurd (none-some next same)
      inside at called parts there (Some typed) named same =
          let all_right = members_right facts (right files table given is) entry in
          let one = item_all (IsRightAt facts all_right.number) (members_of facts.names facts.program entry) member (members.Predicate at called parts) all_right.each there in
          let own = parameters_of parts in
          let rest = repeated_faults all_right.number (words_noted [] token_part_words) (typed_names own)
          ++ faults_here all_right.number called.at (fault_if (nat_lt 32 (length own)) faults.LimitParameters) in
          let P : Typed → Type 0 = λ (t : Typed). all_type_faults facts all_right.number t.declared ≡ [] in
          let types_fine = none_flat (λ (t : Typed). all_type_faults facts all_right.number t.declared) own
          (none_first (typed_faults facts all_right.number own) rest one.1) in
          typed_changing typed all_right.number next
          (found_so P own name typed (recursion_from_All P own types_fine) named)
          (same_Some (type_value facts.names facts.known false typed.declared) next same)

      in_member : (m : Member) → slice_get (members_of facts.names facts.program entry) member ≡ Some m
          → option_map (λ (typed : Typed). type_value facts.names facts.known false typed.declared) (named_typed name (parameters_of (member_parts m))) ≡ Some next
          → IsChanging next
      in_member (members.Field typed) there same = nothing same
      in_member (members.Constructor called formals sets) there same = nothing same
      in_member (members.Predicate at called parts) there same = inside at called parts there (named_typed name (parameters_of parts)) refl same

      by : (o : Option Member) → slice_get (members_of facts.names facts.program entry) member ≡ o
          → option_map (λ (typed : Typed). type_value facts.names facts.known false typed.declared) (named_typed name (parameters_of (option_map_or member_parts o []))) ≡ Some next
          → IsChanging next
      by None there same = nothing same
      by (Some m) there same = in_member m there same

  part_changing : (name : List ℕ) (token : TokenSort) (next : Denoted) → IsThere files table given is token.class
      → token_part facts name token ≡ Some next → IsChanging next
  part_changing name token next there told = by (is_time_word name) (bytes_eq name (codes "object")) told
    where
      by : (time object : Bool)
          → (if time then Some (denoted.Value kinds.Int false)
          else (if object then Some (denoted.Value (kinds.Object token.class) false) else parameter_value facts name token.predicate)) ≡ Some next
          → IsChanging next
      by true object same = subst IsChanging (same_Some (denoted.Value kinds.Int false) next same) tt
      by false true same = subst IsChanging (same_Some (denoted.Value (kinds.Object token.class) false) next same) there
      by false false same = parameter_changing name token.predicate next same

  next_changing : (first : ℕ) (here : Denoted) (name : Name) (next : Denoted) → IsChanging here → next_denoted facts first here name ≡ Ok next → IsChanging next
  next_changing first (denoted.Value kind true) name next changing told = absurd changing
  next_changing first (denoted.Value (kinds.Object class) false) name next changing told =
      field_changing class name.text next changing (found_is name (class_field facts false name.text class) next told)
  next_changing first (denoted.Value kinds.Int false) name next changing told = absurd (cc)
  next_changing first (denoted.Value kinds.Float false) name next changing told = absurd (cc)
  next_changing first (denoted.Value kinds.Bool false) name next changing told = absurd (cc)
  next_changing first (denoted.Value (kinds.Enum of) false) name next changing told = absurd (cc)
  next_changing first (denoted.Class class) name next changing told = absurd (cc)
  next_changing first (denoted.Token token) name next changing told =
      part_changing name.text token next changing (found_is name (token_part facts name.text token) next told)
  next_changing first denoted.Faulty name next changing told = absurd changing

  rest_changing : (first : ℕ) (here : Denoted) (names : List Name) (meant : Denoted) → IsChanging here → rest_denoted facts first here names ≡ Ok meant
      → IsChanging meant
  rest_changing first here [] meant changing told = subst IsChanging (same_ok here meant told) changing
  rest_changing first here (name ∷ more) meant changing told =
      by (next_denoted facts first here name) refl told (λ next other rest. rest_changing first next more meant other rest)
    where
      by : (u : Understood) → next_denoted facts first here name ≡ u → found_next (λ next. rest_denoted facts first next more) u ≡ Ok meant
          → ((next : Denoted) → IsChanging next → rest_denoted facts first next more ≡ Ok meant → IsChanging meant) → IsChanging meant
      by (Ok next) there rest behind = behind next (next_changing first here name next changing there) rest
      by (Err fault) there rest behind = absurd (cc)

  -- none of it is a constant
  no_constant : (wanted : Option TypeKind) (expr : Expr) (meant : Denoted) → IsChanging meant → constant_fault wanted expr meant ≡ None → ⊥
  no_constant wanted expr (denoted.Value kind true) changing none = changing
  no_constant wanted expr (denoted.Value kind false) changing none = none-some faults.WrongType (sym none)
  no_constant wanted expr (denoted.Token token) changing none = none-some faults.WrongType (sym none)
  no_constant wanted expr (denoted.Class class) changing none = none-some faults.WrongType (sym none)
  no_constant wanted expr denoted.Faulty changing none = changing

  pub never_constant : (wanted : Option TypeKind) (expr : Expr) (first : ℕ) (here : Denoted) (names : List Name) (meant : Denoted) → IsChanging here
      → rest_denoted facts first here names ≡ Ok meant → constant_fault wanted expr meant ≡ None → ⊥
  never_constant wanted expr first here names meant changing told none =
      no_constant wanted expr meant (rest_changing first here names meant changing told) none

  -- ---- names of the files

  pub global_changing : (entry : ℕ) (declared : Declared) (begin : Denoted) → slice_get facts.names entry ≡ Some declared → declared.sort ≡ sorts.Global
      → declared_value facts false declared ≡ begin → IsChanging begin
  global_changing entry declared begin there sort told =
      let it = global_value files table given is [] [] entry declared there sort in
      let type = type_known files table given is [] [] it.2.0 it.0 it.2.1 in
      let value : begin ≡ denoted.Value type.0 false =
      sym told ∙ (it.1 ∙ ap (λ o. option_map_or (λ (k : TypeKind). denoted.Value k false) o denoted.Faulty) type.1) in
      subst IsChanging (sym value) type.2

  pub root_changing : progress_fault (last_progress facts) ≡ None → problem_text_faults facts ≡ [] → (entry : ℕ) (declared : Declared) (begin : Denoted)
      → slice_get facts.names entry ≡ Some declared → declared.sort ≡ sorts.Root → root_value facts declared ≡ begin → IsChanging begin
  root_changing fine text entry declared begin there sort told =
      let it = labels_denote files table given is fine text entry declared there sort in
      subst IsChanging (sym it.denotes ∙ told) (named_there it.token.class it.is_class)
