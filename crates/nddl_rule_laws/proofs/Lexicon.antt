-- The predicates of a lexicon are those of a table, with their parameters.
use Rattle.std.proofs.Common.{◌≡◌, ◌≢◌, ℕ, zero, suc, ◌+◌, ◌<◌, ◌≤◌, ◌==◌, Bool, true, false, ◌&&◌, List, [], ◌∷◌, ◌++◌, length, get_or, map, refl, sym, ◌∙◌, ap, subst, ◌⊎◌, inl, inr, arith}
use Rattle.std.specs.Prelude.{Option, Some, None, AllPairs, Contains, slice_get, codes, if◌then◌else◌}
use Rattle.std.specs.List.{AllZip, cons_option, flat_map, filter_map, position_from}
use Rattle.std.specs.Option.{option_map, option_map_or}
use Rattle.std.specs.Str.{bytes_eq}
use Rattle.std.proofs.lemmas.Bool.{cases_lt}
use Rattle.std.proofs.lemmas.Bool.Decides.{Decides-eqb}
use Rattle.std.proofs.lemmas.List.Elements.{All-contains, Contains-append_right}
use Rattle.std.proofs.lemmas.Option.{same_Some, none-some}
use Rattle.std.proofs.lemmas.Slice.Eq.{bytes_eq-Decides}
use Rattle.model_core.specs.declared.class.Enum.{Enum}
use Rattle.model_core.specs.declared.class.Pred.{Pred}
use Rattle.model_core.specs.declared.variable.ValueKind.{ValueKind}
use Rattle.model_core.specs.declared.variable.ValueKind.TheVariants as value_kinds
use Rattle.model_core.specs.declared.variable.VarDecl.{VarDecl}
use Rattle.model_core.specs.Lawful.{quantity}
use Rattle.model_core.specs.Naming.{names_of, token_part_words}
use Rattle.model_core.proofs.Items.{item_all, item_at, item_is, item_within}
use Rattle.nddl_ast.specs.declared.declaration.FileDecls.{FileDecls}
use Rattle.nddl_ast.specs.declared.declaration.Member.{Member}
use Rattle.nddl_ast.specs.declared.declaration.Member.TheVariants as members
use Rattle.nddl_ast.specs.declared.declaration.PredicatePart.{PredicatePart}
use Rattle.nddl_ast.specs.declared.declaration.PredicatePart.TheVariants as parts
use Rattle.nddl_ast.specs.declared.declaration.Typed.{Typed}
use Rattle.nddl_ast.specs.declared.kind.TextKind.TheVariants as faults
use Rattle.nddl_ast.specs.declared.name.Name.{Name}
use Rattle.nddl_symbols.specs.declared.scope.Meaning.{Meaning}
use Rattle.nddl_symbols.specs.declared.scope.Meaning.TheVariants as meanings
use Rattle.nddl_symbols.specs.Finding.{faults_here}
use Rattle.nddl_symbols.specs.Repeats.{repeated_faults}
use Rattle.nddl_symbols.specs.Scope.{fault_if, meaning_of}
use Rattle.nddl_typeexpr.specs.declared.kind.TypeKind.{TypeKind}
use Rattle.nddl_typeexpr.specs.declared.kind.TypeKind.TheVariants as kinds
use Rattle.nddl_typeexpr.specs.declared.kind.TypeMeaning.{TypeMeaning}
use Rattle.nddl_hierarchy.specs.Ancestors.{above}
use Rattle.nddl_hierarchy.specs.Decls.{members_of}
use Rattle.nddl_hierarchy.specs.Inherited.{words_noted}
use Rattle.nddl_hierarchy.specs.Members.{named_typed}
use Rattle.nddl_declarations.specs.Declares.{variable_with, variables_of}
use Rattle.nddl_declarations.specs.Domains.{value_kind}
use Rattle.nddl_declarations.specs.Known.{all_type_faults, fine_meaning}
use Rattle.nddl_declarations.specs.Members.{parameter_of, parameters_of, typed_faults, typed_names}
use Rattle.std.specs.Prelude.{nat_lt}
use Rattle.nddl_types.specs.declared.table.TypeTable.{TypeTable}
use Rattle.nddl_types.specs.Classes.{class_entries, class_number, enums_of, line_down}
use Rattle.nddl_types.specs.Predicates.{builtin_preds, class_preds, given_preds, pred_of, preds_at}
use Rattle.nddl_types.specs.Table.{IsTable}
use Rattle.nddl_resolve.specs.declared.denoted.Denoted.{Denoted}
use Rattle.nddl_resolve.specs.declared.denoted.Denoted.TheVariants as denoted
use Rattle.nddl_resolve.specs.declared.denoted.TokenSort.{TokenSort}
use Rattle.nddl_resolve.specs.Fields.{type_value}
use Rattle.nddl_resolve.specs.Predicates.{declared_parts, member_parts, parameter_value}
use Rattle.nddl_construction.specs.declared.made.MadeObject.{MadeObject}
use Rattle.nddl_construction.specs.declared.made.NamedObject.{NamedObject}
use Rattle.nddl_terms.specs.declared.lexicon.Attribute.{Attribute}
use Rattle.nddl_terms.specs.declared.lexicon.PredShape.{PredShape}
use Rattle.nddl_terms.specs.Lexicon.{attribute_number, pred_params, pred_class}
use Rattle.nddl_terms.specs.Preds.{class_named, is_pred_named}
use Rattle.nddl_env.specs.Lexicons.{entry_pred_shapes, given_shape, member_shape, pred_shapes, pred_shapes_at}
use Rattle.nddl_env.specs.Shapes.{World, attribute_with, kind_class, number_attribute, part_attribute}
use Rattle.nddl_laws.specs.Given.{AreGiven}
use Rattle.nddl_laws.proofs.Contained.{contains_at, contains_flat, contains_kept}
use Rattle.nddl_laws.proofs.First.{some_position}
use Rattle.nddl_laws.proofs.Listed.{DifferInClass, differing_preds, lawful_preds}
use Rattle.nddl_laws.proofs.Lists.{none_flat}
use Rattle.nddl_laws.proofs.Members.{IsRightAt, members_right}
use Rattle.nddl_laws.proofs.Nothing.{none_first}
use Rattle.nddl_rule_laws.proofs.Classes.{Extended, IsBelow, both_so, bare, class_name, has_table, preds_same, right}
use Rattle.nddl_rule_laws.proofs.Owners.{FoundIn, InLine, IsOwning, found_below, found_given, found_member, in_later, owner, owning_placed, position_is, pred_there, quantity_of}
use Rattle.nddl_rule_laws.proofs.TypeKinds.{KindThere}
use Rattle.nddl_rule_laws.proofs.Shapes.{attribute_found, attribute_names, lexicon, typed_as, world}

-- ---- two lists at once

zip_append : {X Y : Type 0} (R : X → Y → Type 0) (xs zs : List X) (ys ws : List Y) → AllZip R xs ys → AllZip R zs ws → AllZip R (xs ++ zs) (ys ++ ws)
zip_append R [] zs [] ws first second = second
zip_append R [] zs (y ∷ ys) ws first second = absurd first
zip_append R (x ∷ xs) zs [] ws first second = absurd first
zip_append R (x ∷ xs) zs (y ∷ ys) ws first second = (first.0, zip_append R xs zs ys ws first.1 second)

zip_at : {X Y : Type 0} (R : X → Y → Type 0) (xs : List X) (ys : List Y) (place : ℕ) (x : X) → AllZip R xs ys → slice_get xs place ≡ Some x
    → (y : Y) × (slice_get ys place ≡ Some y) × R x y
zip_at R [] ys place x all at = absurd (none-some x at)
zip_at R (z ∷ xs) [] place x all at = absurd all
zip_at R (z ∷ xs) (y ∷ ys) zero x all at = (y, refl, subst (λ a. R a y) (same_Some z x at) all.0)
zip_at R (z ∷ xs) (y ∷ ys) (suc place) x all at = zip_at R xs ys place x all.1 at

zip_back : {X Y : Type 0} (R : X → Y → Type 0) (xs : List X) (ys : List Y) (place : ℕ) (y : Y) → AllZip R xs ys → slice_get ys place ≡ Some y
    → (x : X) × (slice_get xs place ≡ Some x) × R x y
zip_back R xs [] place y all at = absurd (none-some y at)
zip_back R [] (w ∷ ys) place y all at = absurd all
zip_back R (x ∷ xs) (w ∷ ys) zero y all at = (x, refl, subst (λ b. R x b) (same_Some w y at) all.0)
zip_back R (x ∷ xs) (w ∷ ys) (suc place) y all at = zip_back R xs ys place y all.1 at

-- of those that differ two that have the class and the name stand at one place
one_place : (preds : List Pred) → AllPairs DifferInClass preds → (j k : ℕ) (one other : Pred) → slice_get preds j ≡ Some one → slice_get preds k ≡ Some other
    → one.class ≡ other.class → one.name ≡ other.name → j ≡ k
one_place preds pairs j k one other here there class name = by (cases_lt j k) (cases_lt k j)
  where
    at_j : get_or preds j one ≡ one
    at_j = item_is preds j one one here

    at_k : get_or preds k one ≡ other
    at_k = item_is preds k one other there

    by : (j < k) ⊎ (k ≤ j) → (k < j) ⊎ (j ≤ k) → j ≡ k
    by (inl before) rest =
        absurd (pairs j k one before (item_within preds k other there)
        (ap (λ (p : Pred). p.class) at_j ∙ (class ∙ sym (ap (λ (p : Pred). p.class) at_k)))
        (ap (λ (p : Pred). p.name) at_j ∙ (name ∙ sym (ap (λ (p : Pred). p.name) at_k))))
    by (inr least) (inl after) =
        absurd (pairs k j one after (item_within preds j one here)
        (ap (λ (p : Pred). p.class) at_k ∙ (sym class ∙ sym (ap (λ (p : Pred). p.class) at_j)))
        (ap (λ (p : Pred). p.name) at_k ∙ (sym name ∙ sym (ap (λ (p : Pred). p.name) at_j))))
    by (inr least) (inr most) = omega (arith, least, most)

-- a parameter by its name
parameter_named : (name : List ℕ) (some : List PredicatePart) (typed : Typed) → named_typed name (parameters_of some) ≡ Some typed
    → Contains some (parts.Parameter typed) × (typed.name.text ≡ name)
parameter_named name [] typed is = absurd (none-some typed is)
parameter_named name (parts.Constraint call ∷ more) typed is =
    let rest = parameter_named name more typed is in (in_later (parts.Constraint call) more (parts.Parameter typed) rest.0, rest.1)
parameter_named name (parts.Parameter other ∷ more) typed is = by (bytes_eq name other.name.text) refl is (λ rest. parameter_named name more typed rest)
  where
    by : (b : Bool) → bytes_eq name other.name.text ≡ b → (if b then Some other else named_typed name (parameters_of more)) ≡ Some typed
        → (named_typed name (parameters_of more) ≡ Some typed → Contains more (parts.Parameter typed) × (typed.name.text ≡ name))
        → Contains (parts.Parameter other ∷ more) (parts.Parameter typed) × (typed.name.text ≡ name)
    by true same found behind =
        let e : other ≡ typed = same_Some other typed found in (
          (0, omega arith, ap (λ t. parts.Parameter t) e),
          sym (ap (λ (t : Typed). t.name.text) e) ∙ sym ((bytes_eq-Decides name other.name.text).0 same),
        )
    by false differ found behind = let rest = behind found in (in_later (parts.Parameter other) more (parts.Parameter typed) rest.0, rest.1)

parameter_there : (some : List PredicatePart) (typed : Typed) → Contains some (parts.Parameter typed) → Contains (parameters_of some) typed
parameter_there some typed has = contains_kept parameter_of some (parts.Parameter typed) typed has refl

-- of which kinds they are
abbrev pub attribute_kinds : List Attribute → List ValueKind
attribute_kinds some = map (λ (attribute : Attribute). attribute.shape.kind) some

abbrev pub kinds_of : List VarDecl → List ValueKind
kinds_of some = map (λ (variable : VarDecl). variable.kind) some

-- names are found at the same places of both
pub same_positions : (name : List ℕ) (start : ℕ) (xs : List Attribute) (ys : List VarDecl) → attribute_names xs ≡ names_of ys
    → position_from (λ (attribute : Attribute). bytes_eq name attribute.name) start xs ≡ position_from (λ (param : VarDecl). bytes_eq name param.name) start ys
same_positions name start [] [] same = refl
same_positions name start [] (y ∷ ys) same = absurd (cc)
same_positions name start (x ∷ xs) [] same = absurd (cc)
same_positions name start (x ∷ xs) (y ∷ ys) same =
    let here : x.name ∷ attribute_names xs ≡ y.name ∷ names_of ys = same in
    let first : x.name ≡ y.name = cc in
    let rest : attribute_names xs ≡ names_of ys = cc in
    λ i. if bytes_eq name (first i) then Some start else same_positions name (start + 1) xs ys rest i

module _ (files : List FileDecls) (table : TypeTable) (given : AreGiven files) (is : IsTable files table) (named_objects : List NamedObject)
    (objects : List MadeObject) where
  abbrev World_of : World
  World_of = world files table given is named_objects objects

  abbrev shapes : List PredShape
  shapes = pred_shapes World_of

  abbrev enums : List Enum
  enums = enums_of is.facts.program

  abbrev all_entries : List ℕ
  all_entries = class_entries is.facts.names 0 is.facts.names

  -- the shape is that of the predicate
  abbrev IsShapeOf : PredShape → Pred → Type 0
  IsShapeOf shape pred =
      (shape.class ≡ pred.class) × (shape.name ≡ pred.name) × (attribute_names shape.params ≡ names_of pred.params)
      × (attribute_kinds shape.params ≡ kinds_of pred.params)

  number_names : (some : List VarDecl) → attribute_names (map number_attribute some) ≡ names_of some
  number_names [] = refl
  number_names (variable ∷ more) = ap (λ rest. variable.name ∷ rest) (number_names more)

  number_kinds : (some : List VarDecl) → attribute_kinds (map number_attribute some) ≡ kinds_of some
  number_kinds [] = refl
  number_kinds (variable ∷ more) = ap (λ rest. variable.kind ∷ rest) (number_kinds more)

  given_alike : (some : List Pred) → AllZip IsShapeOf (map given_shape some) some
  given_alike [] = tt
  given_alike (pred ∷ more) = ((refl, refl, number_names pred.params, number_kinds pred.params), given_alike more)

  part_names : (some : List PredicatePart)
      → attribute_names (filter_map (part_attribute World_of) some) ≡ names_of (variables_of is.facts enums (parameters_of some))
  part_names [] = refl
  part_names (parts.Constraint call ∷ more) = part_names more
  part_names (parts.Parameter typed ∷ more) = by (fine_meaning is.facts typed.declared) (part_names more)
    where
      by : (o : Option TypeMeaning)
          → attribute_names (filter_map (part_attribute World_of) more) ≡ names_of (variables_of is.facts enums (parameters_of more))
          → attribute_names (cons_option (option_map (attribute_with World_of typed) o) (filter_map (part_attribute World_of) more))
          ≡ names_of (cons_option (option_map (variable_with is.facts enums typed) o) (variables_of is.facts enums (parameters_of more)))
      by None rest = rest
      by (Some meaning) rest = ap (λ names. typed.name.text ∷ names) rest

  part_kinds : (some : List PredicatePart)
      → attribute_kinds (filter_map (part_attribute World_of) some) ≡ kinds_of (variables_of is.facts enums (parameters_of some))
  part_kinds [] = refl
  part_kinds (parts.Constraint call ∷ more) = part_kinds more
  part_kinds (parts.Parameter typed ∷ more) = by (fine_meaning is.facts typed.declared) (part_kinds more)
    where
      by : (o : Option TypeMeaning)
          → attribute_kinds (filter_map (part_attribute World_of) more) ≡ kinds_of (variables_of is.facts enums (parameters_of more))
          → attribute_kinds (cons_option (option_map (attribute_with World_of typed) o) (filter_map (part_attribute World_of) more))
          ≡ kinds_of (cons_option (option_map (variable_with is.facts enums typed) o) (variables_of is.facts enums (parameters_of more)))
      by None rest = rest
      by (Some meaning) rest = ap (λ others. value_kind meaning.kind ∷ others) rest

  members_alike : (class : ℕ) (some : List Member) → AllZip IsShapeOf (filter_map (member_shape World_of class) some) (filter_map (pred_of is.facts enums class) some)
  members_alike class [] = tt
  members_alike class (members.Predicate at name inside ∷ more) = ((refl, refl, part_names inside, part_kinds inside), members_alike class more)
  members_alike class (members.Field typed ∷ more) = members_alike class more
  members_alike class (members.Constructor name formals sets ∷ more) = members_alike class more

  at_alike : (class entry : ℕ) → AllZip IsShapeOf (pred_shapes_at World_of class entry) (preds_at is.facts enums class entry)
  at_alike class entry =
      let up = given_preds class (above is.facts.names is.facts.program entry) in
      let some = members_of is.facts.names is.facts.program entry in
      zip_append IsShapeOf (map given_shape up) (filter_map (member_shape World_of class) some) up (filter_map (pred_of is.facts enums class) some)
      (given_alike up) (members_alike class some)

  line_alike : (class : ℕ) (line : List ℕ) → AllZip IsShapeOf (flat_map (pred_shapes_at World_of class) line) (flat_map (preds_at is.facts enums class) line)
  line_alike class [] = tt
  line_alike class (entry ∷ more) =
      zip_append IsShapeOf (pred_shapes_at World_of class entry) (flat_map (pred_shapes_at World_of class) more) (preds_at is.facts enums class entry)
      (flat_map (preds_at is.facts enums class) more) (at_alike class entry) (line_alike class more)

  entries_alike : (some : List ℕ) → AllZip IsShapeOf (flat_map (entry_pred_shapes World_of) some) (flat_map (class_preds is.facts enums) some)
  entries_alike [] = tt
  entries_alike (entry ∷ more) =
      zip_append IsShapeOf (entry_pred_shapes World_of entry) (flat_map (entry_pred_shapes World_of) more) (class_preds is.facts enums entry)
      (flat_map (class_preds is.facts enums) more) (line_alike (class_number is.facts.names (meanings.Entry entry)) (line_down is.facts entry)) (entries_alike more)

  -- each predicate of the table has its shape in the lexicon, at its number
  pub shapes_alike : AllZip IsShapeOf shapes table.preds
  shapes_alike =
      subst (AllZip IsShapeOf shapes) (sym (preds_same files table given is))
      (zip_append IsShapeOf (map given_shape (builtin_preds 2 2 ++ builtin_preds 3 3)) (flat_map (entry_pred_shapes World_of) all_entries)
      (builtin_preds 2 2 ++ builtin_preds 3 3) (flat_map (class_preds is.facts enums) all_entries)
      (given_alike (builtin_preds 2 2 ++ builtin_preds 3 3)) (entries_alike all_entries))

  -- ---- predicates that serve

  -- the predicate of this number serves for a token of this sort
  pub record IsPredOf (token : TokenSort) (number : ℕ) : Type 0 where
    pub pred : Pred
    pub at : slice_get table.preds number ≡ Some pred
    pub below : IsBelow is.facts (owner files table given is number pred at).class token.class
    pub found : FoundIn is.facts pred.name token.class token.predicate

  -- a predicate that is found of a class has a number there
  pub record HasPred (number : ℕ) (name : List ℕ) (token : TokenSort) : Type 0 where
    pub place : ℕ
    pub named : class_named number name shapes ≡ Some place
    pub serves : IsPredOf token place

  pub has_pred : (number : ℕ) (name : List ℕ) (token : TokenSort) (it : Extended files table given is number) → IsBelow is.facts it.class token.class
      → FoundIn is.facts name token.class token.predicate → HasPred number name token
  has_pred number name token it below found =
      let own = found_below is.facts name it.class token.class token.predicate below found in
      let one = pred_there files table given is it.class name token.predicate it.placed own in
      let at = item_at table.preds one.there.0 one.pred one.there.1 ∙ ap (λ p. Some p) one.there.2 in
      let shape = zip_back IsShapeOf shapes table.preds one.there.0 one.pred shapes_alike at in
      let class : shape.0.class ≡ number = shape.2.0 ∙ (one.of ∙ it.number_is) in
      let called : name ≡ shape.0.name = sym one.named ∙ sym shape.2.1 in
      let passes : is_pred_named number name shape.0 ≡ true =
      (λ i. (Decides-eqb shape.0.class number).1 class i && (bytes_eq-Decides name shape.0.name).1 called i) in
      let position = some_position (is_pred_named number name) shapes 0 one.there.0 shape.0 shape.1 passes in
      let first = position_is (is_pred_named number name) shapes 0 position.0 position.1 in
      let e : first.0 ≡ position.0 = (let sum : position.0 ≡ 0 + first.0 = first.1 in omega arith) in
      let other : PredShape = first.2.0 in
      let other_at : slice_get shapes position.0 ≡ Some other = ap (slice_get shapes) (sym e) ∙ first.2.1 in
      let both = both_so (other.class == number) (bytes_eq name other.name) first.2.2 in
      let pred = zip_at IsShapeOf shapes table.preds position.0 other shapes_alike other_at in
      let class_is : pred.0.class ≡ number = sym pred.2.0 ∙ (Decides-eqb other.class number).0 both.0 in
      let name_is : name ≡ pred.0.name = (bytes_eq-Decides name other.name).0 both.1 ∙ pred.2.1 in
      let has = owner files table given is position.0 pred.0 pred.1 in
      let same : has.class ≡ it.class =
      same_Some has.class it.class
      (sym has.means ∙ (ap (λ n. meaning_of is.facts.names (class_name files table given is n)) class_is ∙ it.means)) in
      record {
        place = position.0;
        named = position.1;
        serves = record {
          pred = pred.0;
          at = pred.1;
          below = subst (λ c. IsBelow is.facts c token.class) (sym same) below;
          found = subst (λ n. FoundIn is.facts n token.class token.predicate) name_is found;
        };
      }

  -- the class of such a predicate
  abbrev pub owner_extended : (number : ℕ) (pred : Pred) (at : slice_get table.preds number ≡ Some pred) → Extended files table given is pred.class
  owner_extended number pred at =
      let own = owner files table given is number pred at in
      record {
        class = own.class;
        known = own.known;
        placed = owning_placed files table given is own.class pred own.owning;
        number_is = sym own.number;
        means = own.means;
      }

  -- ---- parameters

  -- a parameter of a predicate of the lexicon
  pub record HasParameter (name : List ℕ) (params : List Attribute) (found : Denoted) : Type 0 where
    pub kind : TypeKind
    pub is_value : found ≡ denoted.Value kind false
    pub there : KindThere files table given is kind
    pub place : ℕ
    pub attribute : Attribute
    pub named : attribute_number name params ≡ Some place
    pub at : slice_get params place ≡ Some attribute
    pub is_kind : attribute.shape.kind ≡ value_kind kind
    pub class_is : (of : Meaning) → kind ≡ kinds.Object of → attribute.shape.class ≡ class_number is.facts.names of

  params_are : (number : ℕ) (shape : PredShape) → slice_get shapes number ≡ Some shape
      → pred_params (lexicon files table given is named_objects objects) number ≡ shape.params
  params_are number shape at = ap (λ o. option_map_or (λ (s : PredShape). s.params) o []) at

  -- the shape of a declared predicate is that of its declaration
  declared_shape : (number : ℕ) (pred : Pred) (at : slice_get table.preds number ≡ Some pred) (entry member pred_at : ℕ) (called : Name) (inside : List PredicatePart)
      → InLine is.facts (owner files table given is number pred at).class entry
      → slice_get (members_of is.facts.names is.facts.program entry) member ≡ Some (members.Predicate pred_at called inside) → called.text ≡ pred.name
      → pred_params (lexicon files table given is named_objects objects) number ≡ filter_map (part_attribute World_of) inside
  declared_shape number pred at entry member pred_at called inside line there same = by (owner files table given is number pred at).class refl line (owner files table given is number pred at).owning
    where
      by : (class : Meaning) → (owner files table given is number pred at).class ≡ class → InLine is.facts class entry → IsOwning files table given is class pred
          → pred_params (lexicon files table given is named_objects objects) number ≡ filter_map (part_attribute World_of) inside
      by (meanings.BuiltIn class) is_class line owning = absurd line
      by (meanings.Entry class) is_class line owning =
          let class_is = class_number is.facts.names (meanings.Entry class) in
          let some = members_of is.facts.names is.facts.program entry in
          let shape : PredShape = record { class = class_is; name = called.text; params = filter_map (part_attribute World_of) inside } in
          let own_shape = contains_kept (member_shape World_of class_is) some (members.Predicate pred_at called inside) shape
          (contains_at some member (members.Predicate pred_at called inside) there) refl in
          let here = Contains-append_right (map given_shape (given_preds class_is (above is.facts.names is.facts.program entry)))
          (filter_map (member_shape World_of class_is) some) shape own_shape in
          let in_class = contains_flat (pred_shapes_at World_of class_is) (line_down is.facts class) entry shape line here in
          let in_files = contains_flat (entry_pred_shapes World_of) all_entries class shape (contains_at all_entries owning.0 class owning.1) in_class in
          let has = Contains-append_right (map given_shape (builtin_preds 2 2 ++ builtin_preds 3 3)) (flat_map (entry_pred_shapes World_of) all_entries) shape in_files in
          let shape_at = item_at shapes has.0 shape has.1 ∙ ap (λ s. Some s) has.2 in
          let other = zip_at IsShapeOf shapes table.preds has.0 shape shapes_alike shape_at in
          let place : has.0 ≡ number =
          one_place table.preds (differing_preds files table (bare table) (has_table files table given is)) has.0 number other.0 pred other.1 at
          (sym other.2.0 ∙ sym ((owner files table given is number pred at).number ∙ ap (class_number is.facts.names) is_class)) (sym other.2.1 ∙ same) in
          params_are number shape (ap (slice_get shapes) (sym place) ∙ shape_at)

  -- the names of its parameters
  pub params_named : (number : ℕ) (pred : Pred) → slice_get table.preds number ≡ Some pred
      → attribute_names (pred_params (lexicon files table given is named_objects objects) number) ≡ names_of pred.params
  params_named number pred at =
      let shape = zip_back IsShapeOf shapes table.preds number pred shapes_alike at in
      ap attribute_names (params_are number shape.0 shape.1) ∙ shape.2.2

  -- and their kinds
  params_kinds : (number : ℕ) (pred : Pred) → slice_get table.preds number ≡ Some pred
      → attribute_kinds (pred_params (lexicon files table given is named_objects objects) number) ≡ kinds_of pred.params
  params_kinds number pred at =
      let shape = zip_back IsShapeOf shapes table.preds number pred shapes_alike at in
      ap attribute_kinds (params_are number shape.0 shape.1) ∙ shape.2.3

  first_kind : (params : List Attribute) (attribute : Attribute) (kind : ValueKind) → attribute_kinds params ≡ kind ∷ []
      → slice_get params 0 ≡ Some attribute → attribute.shape.kind ≡ kind
  first_kind [] attribute kind same at = absurd (none-some attribute at)
  first_kind (first ∷ more) attribute kind same at =
      let here : first.shape.kind ∷ attribute_kinds more ≡ kind ∷ [] = same in
      let one : first.shape.kind ≡ kind = cc in
      ap (λ (a : Attribute). a.shape.kind) (sym (same_Some first attribute at)) ∙ one

  pub class_of_pred : (number : ℕ) (pred : Pred) → slice_get table.preds number ≡ Some pred
      → pred_class (lexicon files table given is named_objects objects) number ≡ pred.class
  class_of_pred number pred at =
      let shape = zip_back IsShapeOf shapes table.preds number pred shapes_alike at in
      ap (λ o. option_map_or (λ (s : PredShape). s.class) o 0) shape.1 ∙ shape.2.0

  params_differ : (number : ℕ) (pred : Pred) → slice_get table.preds number ≡ Some pred
      → AllPairs ◌≢◌ (attribute_names (pred_params (lexicon files table given is named_objects objects) number))
  params_differ number pred at =
      subst (AllPairs ◌≢◌) (sym (params_named number pred at)) (lawful_preds files table (bare table) (has_table files table given is) number pred at).distinct

  -- a parameter of a number
  number_found : (params : List Attribute) (name : List ℕ) (some : List VarDecl) → attribute_names params ≡ names_of some
      → (place : ℕ) → position_from (λ (param : VarDecl). bytes_eq name param.name) 0 some ≡ Some place
      → (attribute_number name params ≡ Some place) × ((attribute : Attribute) × (slice_get params place ≡ Some attribute))
  number_found params name some names place found =
      let same = same_positions name 0 params some names in
      let at = position_is (λ (attribute : Attribute). bytes_eq name attribute.name) params 0 place (same ∙ found) in
      let e : at.0 ≡ place = (let sum : place ≡ 0 + at.0 = at.1 in omega arith) in
      (same ∙ found, (at.2.0, ap (slice_get params) (sym e) ∙ at.2.1))

  pub has_parameter : (token : TokenSort) (number : ℕ) (name : List ℕ) (found : Denoted) → IsPredOf token number
      → parameter_value is.facts name token.predicate ≡ Some found
      → HasParameter name (pred_params (lexicon files table given is named_objects objects) number) found
  has_parameter token number name found it value =
      by (found_below is.facts it.pred.name (owner files table given is number it.pred it.at).class token.class token.predicate it.below it.found) value
    where
      in_parts : (entry member pred_at : ℕ) (called : Name) (inside : List PredicatePart)
          → slice_get (members_of is.facts.names is.facts.program entry) member ≡ Some (members.Predicate pred_at called inside)
          → pred_params (lexicon files table given is named_objects objects) number ≡ filter_map (part_attribute World_of) inside
          → (o : Option Typed) → named_typed name (parameters_of inside) ≡ o
          → option_map (λ (typed : Typed). type_value is.facts.names is.facts.known false typed.declared) o ≡ Some found
          → HasParameter name (pred_params (lexicon files table given is named_objects objects) number) found
      in_parts entry member pred_at called inside there same None named told = absurd (none-some found told)
      in_parts entry member pred_at called inside there same (Some typed) named told =
          let has = parameter_named name inside typed named in
          let some = members_of is.facts.names is.facts.program entry in
          let all_right = members_right is.facts (right files table given is) entry in
          let one = item_all (IsRightAt is.facts all_right.number) some member (members.Predicate pred_at called inside) all_right.each there in
          let own_params = parameters_of inside in
          let rest = repeated_faults all_right.number (words_noted [] token_part_words) (typed_names own_params)
          ++ faults_here all_right.number called.at (fault_if (nat_lt 32 (length own_params)) faults.LimitParameters) in
          let types_fine = none_flat (λ (t : Typed). all_type_faults is.facts all_right.number t.declared) own_params
          (none_first (typed_faults is.facts all_right.number own_params) rest one.1) in
          let none = All-contains (λ (t : Typed). all_type_faults is.facts all_right.number t.declared ≡ []) own_params typed types_fine
          (parameter_there inside typed has.0) in
          let type = typed_as files table given is named_objects objects all_right.number typed none in
          let attribute = attribute_with World_of typed type.meaning in
          let kept = contains_kept (part_attribute World_of) inside (parts.Parameter typed) attribute has.0 type.is_attribute in
          let found_as = attribute_found (pred_params (lexicon files table given is named_objects objects) number) attribute (params_differ number it.pred it.at)
          (subst (λ (list : List Attribute). Contains list attribute) (sym same) kept) in
          record {
            kind = type.meaning.kind;
            is_value = sym (same_Some (type_value is.facts.names is.facts.known false typed.declared) found told)
                ∙ ap (λ o. option_map_or (λ (k : TypeKind). denoted.Value k false) o denoted.Faulty) type.kind_is;
            there = type.there;
            place = found_as.number;
            attribute = attribute;
            named = ap (λ n. attribute_number n (pred_params (lexicon files table given is named_objects objects) number)) (sym has.1) ∙ found_as.named;
            at = found_as.there;
            is_kind = refl;
            class_is = λ of kind. ap (kind_class is.facts.names) kind;
          }

      quantity_in : (b : Bool) → bytes_eq name (codes "quantity") ≡ b → it.pred.params ≡ quantity ∷ []
          → (if b then Some (denoted.Value kinds.Int false) else None) ≡ Some found
          → HasParameter name (pred_params (lexicon files table given is named_objects objects) number) found
      quantity_in false named params told = absurd (none-some found told)
      quantity_in true named params told =
          let names : names_of it.pred.params ≡ codes "quantity" ∷ [] = ap (λ (some : List VarDecl). names_of some) params in
          let at = number_found (pred_params (lexicon files table given is named_objects objects) number) name it.pred.params
          (params_named number it.pred it.at) 0 (first_of it.pred.params names) in
          record {
            kind = kinds.Int;
            is_value = sym (same_Some (denoted.Value kinds.Int false) found told);
            there = tt;
            place = 0;
            attribute = at.1.0;
            named = at.0;
            at = at.1.1;
            is_kind = first_kind (pred_params (lexicon files table given is named_objects objects) number) at.1.0 value_kinds.Int
                (params_kinds number it.pred it.at ∙ ap (λ (some : List VarDecl). kinds_of some) params) at.1.1;
            class_is = λ of kind. absurd (let e : kinds.Int ≡ kinds.Object of = kind in cc);
          }
        where
          first_of : (some : List VarDecl) → names_of some ≡ codes "quantity" ∷ []
              → position_from (λ (param : VarDecl). bytes_eq name param.name) 0 some ≡ Some 0
          first_of [] same = absurd (cc)
          first_of (variable ∷ more) same =
              let here : variable.name ∷ names_of more ≡ codes "quantity" ∷ [] = same in
              let first : variable.name ≡ codes "quantity" = cc in
              ap (λ b. if b then Some 0 else position_from (λ (param : VarDecl). bytes_eq name param.name) (0 + 1) more)
              (ap (bytes_eq name) first ∙ named)

      by : FoundIn is.facts it.pred.name (owner files table given is number it.pred it.at).class token.predicate
          → parameter_value is.facts name token.predicate ≡ Some found
          → HasParameter name (pred_params (lexicon files table given is named_objects objects) number) found
      by (found_member entry member pred_at called inside is_it line there named) told =
          let declared : declared_parts is.facts.names is.facts.program entry member ≡ inside = ap (λ o. option_map_or member_parts o []) there in
          in_parts entry member pred_at called inside there
          (declared_shape number it.pred it.at entry member pred_at called inside line there named)
          (named_typed name (parameters_of inside)) refl
          (sym (ap (parameter_value is.facts name) is_it
          ∙ ap (λ (list : List PredicatePart). option_map (λ (typed : Typed). type_value is.facts.names is.facts.known false typed.declared)
          (named_typed name (parameters_of list))) declared) ∙ told)
      by (found_given given_number is_it below named) told =
          quantity_in (bytes_eq name (codes "quantity")) refl
          (quantity_of files table given is it.pred (contains_at table.preds number it.pred it.at) (owner files table given is number it.pred it.at)
          token.predicate (found_given given_number is_it below named) is_it)
          (sym (ap (parameter_value is.facts name) is_it) ∙ told)
