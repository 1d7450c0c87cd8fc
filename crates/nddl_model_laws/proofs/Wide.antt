-- What fields and parameters may be once all objects are made is lawful, and they are those of the table.
use Rattle.std.proofs.Common.{◌≡◌, ℕ, ◌≤◌, ◌<◌, ◌==◌, Bool, true, false, List, [], ◌∷◌, length, map, pos, refl, sym, ◌∙◌, ap, subst, arith}
use Rattle.std.specs.Prelude.{Option, Some, None, All, slice_get, codes, if◌then◌else◌}
use Rattle.std.specs.List.{AllZip, cons_option, filter_map}
use Rattle.std.specs.Option.{option_map}
use Rattle.std.proofs.lemmas.List.Elements.{All-nil, All-cons, All-head, All-tail}
use Rattle.model_core.specs.declared.class.Enum.{Enum}
use Rattle.model_core.specs.declared.class.Pred.{Pred}
use Rattle.model_core.specs.declared.class.PredKind.{PredKind}
use Rattle.model_core.specs.declared.class.PredKind.TheVariants as uses
use Rattle.model_core.specs.declared.model.Model.{Model}
use Rattle.model_core.specs.declared.variable.VarDecl.{VarDecl}
use Rattle.model_core.specs.Kinds.{IsBaseOf}
use Rattle.model_core.specs.Lawful.{HasQuantity, IsLawfulBase, IsLawfulEnum, IsLawfulVariable, quantity}
use Rattle.model_core.specs.Naming.{names_of}
use Rattle.nddl_ast.specs.declared.declaration.Member.{Member}
use Rattle.nddl_ast.specs.declared.declaration.Member.TheVariants as members
use Rattle.nddl_ast.specs.declared.declaration.PredicatePart.{PredicatePart}
use Rattle.nddl_ast.specs.declared.declaration.PredicatePart.TheVariants as parts
use Rattle.nddl_ast.specs.declared.declaration.Typed.{Typed}
use Rattle.nddl_symbols.specs.declared.declared.Declared.{Declared}
use Rattle.nddl_symbols.specs.declared.declared.Sort.TheVariants as sorts
use Rattle.nddl_symbols.specs.declared.scope.Meaning.{Meaning}
use Rattle.nddl_symbols.specs.declared.scope.Meaning.TheVariants as meanings
use Rattle.nddl_symbols.specs.Names.{scope_names}
use Rattle.nddl_typeexpr.specs.declared.kind.Extent.{Extent}
use Rattle.nddl_typeexpr.specs.declared.kind.Extent.TheVariants as extents
use Rattle.nddl_typeexpr.specs.declared.kind.TypeKind.{TypeKind}
use Rattle.nddl_typeexpr.specs.declared.kind.TypeKind.TheVariants as kinds
use Rattle.nddl_typeexpr.specs.declared.kind.TypeMeaning.{TypeMeaning}
use Rattle.nddl_hierarchy.specs.Ancestors.{above}
use Rattle.nddl_hierarchy.specs.Decls.{members_of}
use Rattle.nddl_hierarchy.specs.Facts.{Facts}
use Rattle.nddl_hierarchy.specs.Members.{member_field}
use Rattle.nddl_declarations.specs.Declares.{variable_with, variables_of}
use Rattle.nddl_declarations.specs.Domains.{value_kind}
use Rattle.nddl_declarations.specs.Known.{AreFacts, fine_meaning}
use Rattle.nddl_declarations.specs.Members.{parameters_of}
use Rattle.nddl_types.specs.Classes.{class_entries, class_fields, class_number, declared_fields, enums_of, fields_at, given_fields, line_down}
use Rattle.nddl_types.specs.Predicates.{builtin_pred, builtin_preds, class_preds, given_preds, pred_of, preds_at, preds_of}
use Rattle.nddl_construction.specs.declared.made.Datum.TheVariants as datums
use Rattle.nddl_construction.specs.declared.made.MadeObject.{MadeObject}
use Rattle.nddl_construction.specs.declared.made.NamedObject.{NamedObject}
use Rattle.nddl_construction.specs.declared.made.NamedObject.TheVariants as stands
use Rattle.nddl_terms.specs.declared.lexicon.Attribute.{Attribute}
use Rattle.nddl_terms.specs.declared.lexicon.PredShape.{PredShape}
use Rattle.nddl_env.specs.Lexicons.{entry_pred_shapes, given_shape, member_shape, pred_shapes, pred_shapes_at}
use Rattle.nddl_env.specs.Objects.{entry_object, objects_of}
use Rattle.nddl_env.specs.Shapes.{World, attribute_with, attributes_at, entry_attributes, kind_base, member_attribute, number_attribute, part_attribute, typed_attribute}
use Rattle.nddl_instance.specs.Modelled.{attribute_variable, attribute_variables}
use Rattle.nddl_laws.specs.Fine.{IsFineDecl, IsFineMember, IsFineTyped}
use Rattle.nddl_laws.proofs.Bases.{base_right, kind_right}
use Rattle.nddl_laws.proofs.Fitting.{FitsExtent, FitsKind}
use Rattle.nddl_laws.proofs.Known.{type_fits}
use Rattle.nddl_laws.proofs.Numbers.{HasMember, member_there}
use Rattle.nddl_laws.proofs.Variables.{fine_fields, fine_members, fine_parameters, fine_types, given_right, number_right, quantity_ends}
use Rattle.nddl_model_laws.proofs.Numbered.{class_below, class_few, kept_few, numbers_right, set_below}
use Rattle.nddl_model_laws.proofs.Zipped.{zip_append, zip_flat}

-- a variable of the table with the field or parameter for which it stands: what this may be is lawful
pub record IsLike (model : Model) (variable : VarDecl) (attribute : Attribute) : Type 0 where
  pub name : variable.name ≡ attribute.name
  pub kind : variable.kind ≡ attribute.shape.kind
  pub right : IsLawfulVariable model (attribute_variable attribute)

-- a predicate of the table with its shape
pub record IsShaped (model : Model) (pred : Pred) (shape : PredShape) : Type 0 where
  pub class : pred.class ≡ shape.class
  pub name : pred.name ≡ shape.name
  pub params : AllZip (IsLike model) pred.params shape.params
  pub quantity : HasQuantity pred.kind (attribute_variables shape.params)

-- ---- what goes together

pub like_rights : (model : Model) (variables : List VarDecl) (attributes : List Attribute) → AllZip (IsLike model) variables attributes
    → All (IsLawfulVariable model) (attribute_variables attributes)
like_rights model [] [] all = All-nil (IsLawfulVariable model)
like_rights model [] (attribute ∷ attributes) all = absurd all
like_rights model (variable ∷ variables) [] all = absurd all
like_rights model (variable ∷ variables) (attribute ∷ attributes) all =
    All-cons (IsLawfulVariable model) (attribute_variable attribute) (attribute_variables attributes) all.0.right
    (like_rights model variables attributes all.1)

pub like_names : (model : Model) (variables : List VarDecl) (attributes : List Attribute) → AllZip (IsLike model) variables attributes
    → names_of variables ≡ names_of (attribute_variables attributes)
like_names model [] [] all = refl
like_names model [] (attribute ∷ attributes) all = absurd all
like_names model (variable ∷ variables) [] all = absurd all
like_names model (variable ∷ variables) (attribute ∷ attributes) all =
    λ i. all.0.name i ∷ like_names model variables attributes all.1 i

pub like_long : (model : Model) (variables : List VarDecl) (attributes : List Attribute) → AllZip (IsLike model) variables attributes
    → length (attribute_variables attributes) ≡ length variables
like_long model [] [] all = refl
like_long model [] (attribute ∷ attributes) all = absurd all
like_long model (variable ∷ variables) [] all = absurd all
like_long model (variable ∷ variables) (attribute ∷ attributes) all =
    let rest : length (attribute_variables attributes) ≡ length variables = like_long model variables attributes all.1 in
    omega arith

-- ---- numbers

pub number_likes : (model : Model) (some : List VarDecl) → All (IsLawfulVariable model) some → AllZip (IsLike model) some (map number_attribute some)
number_likes model [] all = tt
number_likes model (variable ∷ more) all = (
  record { name = refl; kind = refl; right = All-head (IsLawfulVariable model) variable more all },
  number_likes model more (All-tail (IsLawfulVariable model) variable more all),
)

quantities : (kind : PredKind) → HasQuantity kind (quantity ∷ [])
quantities uses.Plain = tt
quantities uses.Uses = refl
quantities uses.Produce = refl
quantities uses.Consume = refl

builtin_shaped : (model : Model) (class : ℕ) (name : List ℕ) (kind : PredKind)
    → IsShaped model (builtin_pred class name kind) (given_shape (builtin_pred class name kind))
builtin_shaped model class name kind = record {
  class = refl;
  name = refl;
  params = number_likes model (quantity ∷ [])
      (All-cons (IsLawfulVariable model) quantity [] (number_right model (codes "quantity") (pos 0) (pos 1000000) quantity_ends) (All-nil (IsLawfulVariable model)));
  quantity = quantities kind;
}

builtins_shaped : (model : Model) (class number : ℕ) → AllZip (IsShaped model) (builtin_preds class number) (map given_shape (builtin_preds class number))
builtins_shaped model class number = by (number == 2) (number == 3)
  where
    by : (two three : Bool)
        → AllZip (IsShaped model)
        (if two then builtin_pred class (codes "uses") uses.Uses ∷ []
        else (if three then builtin_pred class (codes "produce") uses.Produce ∷ builtin_pred class (codes "consume") uses.Consume ∷ [] else []))
        (map given_shape (if two then builtin_pred class (codes "uses") uses.Uses ∷ []
        else (if three then builtin_pred class (codes "produce") uses.Produce ∷ builtin_pred class (codes "consume") uses.Consume ∷ [] else [])))
    by true three = (builtin_shaped model class (codes "uses") uses.Uses, tt)
    by false true = (builtin_shaped model class (codes "produce") uses.Produce, (builtin_shaped model class (codes "consume") uses.Consume, tt))
    by false false = tt

given_shaped : (model : Model) (class : ℕ) (o : Option Meaning) → AllZip (IsShaped model) (given_preds class o) (map given_shape (given_preds class o))
given_shaped model class None = tt
given_shaped model class (Some (meanings.BuiltIn number)) = builtins_shaped model class number
given_shaped model class (Some (meanings.Entry entry)) = tt

-- ---- what is declared

module _ (facts : Facts) (are : AreFacts (scope_names facts.program) facts.program facts) (fine : All IsFineDecl facts.program) (enums : List Enum)
    (enums_are : enums ≡ enums_of facts.program) (lawful : All IsLawfulEnum enums) (named_objects : List NamedObject) (objects : List MadeObject)
    (few : length objects ≤ 4096)
    (there : (entry number : ℕ) → slice_get named_objects entry ≡ Some (stands.Made (Some (datums.Object number))) → number < length objects)
    (model : Model) (same : model.enums ≡ enums) (long : length model.objects ≡ length objects) where
  abbrev world : World
  world = record { facts = facts; enums = enums; named_objects = named_objects; objects = objects }

  members_there : (entry number place : ℕ) (declared : Declared) → slice_get facts.names entry ≡ Some declared → declared.sort ≡ sorts.Member number place
      → HasMember enums number place
  members_there entry number place declared at sort =
      let P : List Enum → Type 0 = λ some. HasMember some number place in
      subst P (sym enums_are) (member_there facts.program entry number place declared (sym (ap (λ names. slice_get names entry) are.is_names) ∙ at) sort)

  -- what a variable may be of a kind that is there and of values of it
  base_made : (kind : TypeKind) (extent : Extent) → FitsKind enums kind → FitsExtent facts.names kind extent
      → IsLawfulBase (kind_base world kind extent) × IsBaseOf model (value_kind kind) (kind_base world kind extent)
  base_made (kinds.Object class) extents.Whole here fit =
      numbers_right model (length objects) long few (map pos (objects_of facts class 0 objects)) (class_below facts class objects)
      (let most = class_few facts class objects in omega (arith, few))
  base_made (kinds.Object class) (extents.Range least greatest) here fit = absurd fit
  base_made (kinds.Object class) (extents.Set some) here fit =
      numbers_right model (length objects) long few (filter_map (entry_object named_objects) some) (set_below named_objects (length objects) there some)
      (let most = kept_few (entry_object named_objects) some in let written : length some ≤ 4096 = fit.2 in omega arith)
  base_made kinds.Int extent here fit = base_right facts.names enums model same lawful members_there kinds.Int extent here fit
  base_made kinds.Float extent here fit = base_right facts.names enums model same lawful members_there kinds.Float extent here fit
  base_made kinds.Bool extent here fit = base_right facts.names enums model same lawful members_there kinds.Bool extent here fit
  base_made (kinds.Enum number) extent here fit = base_right facts.names enums model same lawful members_there (kinds.Enum number) extent here fit

  -- a declared variable, as the table has it and as it is made
  typed_like : (typed : Typed) (meaning : TypeMeaning) → IsFineTyped typed → fine_meaning facts typed.declared ≡ Some meaning
      → IsLike model (variable_with facts enums typed meaning) (attribute_with world typed meaning)
  typed_like typed meaning right at =
      let fits = type_fits facts are (fine_types facts fine) typed.declared meaning right.0 at in
      let P : List Enum → Type 0 = λ some. FitsKind some meaning.kind in
      let of_kind = subst P (sym enums_are) fits.kind in
      let base = base_made meaning.kind meaning.extent of_kind fits.extent in
      let kind = kind_right facts.names enums model same lawful members_there meaning.kind of_kind in
      record { name = refl; kind = refl; right = record { kind = kind; base = base.0; inside = base.1 } }

  typed_likes : (some : List Typed) → All IsFineTyped some → AllZip (IsLike model) (variables_of facts enums some) (filter_map (typed_attribute world) some)
  typed_likes [] all = tt
  typed_likes (typed ∷ more) all =
      by (fine_meaning facts typed.declared) refl (typed_likes more (All-tail IsFineTyped typed more all))
    where
      by : (o : Option TypeMeaning) → fine_meaning facts typed.declared ≡ o
          → AllZip (IsLike model) (variables_of facts enums more) (filter_map (typed_attribute world) more)
          → AllZip (IsLike model) (cons_option (option_map (variable_with facts enums typed) o) (variables_of facts enums more))
          (cons_option (option_map (attribute_with world typed) o) (filter_map (typed_attribute world) more))
      by None at rest = rest
      by (Some meaning) at rest = (typed_like typed meaning (All-head IsFineTyped typed more all) at, rest)

  member_same : (some : List Member) → filter_map (member_attribute world) some ≡ filter_map (typed_attribute world) (filter_map member_field some)
  member_same [] = refl
  member_same (members.Field typed ∷ more) = ap (cons_option (typed_attribute world typed)) (member_same more)
  member_same (members.Predicate at name own ∷ more) = member_same more
  member_same (members.Constructor name formals sets ∷ more) = member_same more

  part_same : (some : List PredicatePart) → filter_map (part_attribute world) some ≡ filter_map (typed_attribute world) (parameters_of some)
  part_same [] = refl
  part_same (parts.Parameter typed ∷ more) = ap (cons_option (typed_attribute world typed)) (part_same more)
  part_same (parts.Constraint call ∷ more) = part_same more

  -- ---- classes

  at_likes : (entry : ℕ) → AllZip (IsLike model) (fields_at facts enums entry) (attributes_at world entry)
  at_likes entry =
      let some = members_of facts.names facts.program entry in
      let given = given_fields (above facts.names facts.program entry) in
      zip_append (IsLike model) given (map number_attribute given) (declared_fields facts enums some) (filter_map (member_attribute world) some)
      (number_likes model given (given_right model (above facts.names facts.program entry)))
      (subst (AllZip (IsLike model) (declared_fields facts enums some)) (sym (member_same some))
      (typed_likes (filter_map member_field some) (fine_fields some (fine_members facts fine entry))))

  -- the fields of a class
  pub class_likes : (entry : ℕ) → AllZip (IsLike model) (class_fields facts enums entry) (entry_attributes world entry)
  class_likes entry = zip_flat (IsLike model) (fields_at facts enums) (attributes_at world) (line_down facts entry) at_likes

  -- ---- predicates

  members_shaped : (class : ℕ) (some : List Member) → All IsFineMember some
      → AllZip (IsShaped model) (filter_map (pred_of facts enums class) some) (filter_map (member_shape world class) some)
  members_shaped class [] all = tt
  members_shaped class (members.Field typed ∷ more) all = members_shaped class more (All-tail IsFineMember (members.Field typed) more all)
  members_shaped class (members.Constructor name formals sets ∷ more) all =
      members_shaped class more (All-tail IsFineMember (members.Constructor name formals sets) more all)
  members_shaped class (members.Predicate at name own ∷ more) all =
      let one = All-head IsFineMember (members.Predicate at name own) more all in (
        record {
          class = refl;
          name = refl;
          params = subst (AllZip (IsLike model) (variables_of facts enums (parameters_of own))) (sym (part_same own))
              (typed_likes (parameters_of own) (fine_parameters own one.1));
          quantity = tt;
        },
        members_shaped class more (All-tail IsFineMember (members.Predicate at name own) more all),
      )

  at_shaped : (class entry : ℕ) → AllZip (IsShaped model) (preds_at facts enums class entry) (pred_shapes_at world class entry)
  at_shaped class entry =
      let some = members_of facts.names facts.program entry in
      let given = given_preds class (above facts.names facts.program entry) in
      zip_append (IsShaped model) given (map given_shape given) (filter_map (pred_of facts enums class) some) (filter_map (member_shape world class) some)
      (given_shaped model class (above facts.names facts.program entry)) (members_shaped class some (fine_members facts fine entry))

  entry_shaped : (entry : ℕ) → AllZip (IsShaped model) (class_preds facts enums entry) (entry_pred_shapes world entry)
  entry_shaped entry =
      let class = class_number facts.names (meanings.Entry entry) in
      zip_flat (IsShaped model) (preds_at facts enums class) (pred_shapes_at world class) (line_down facts entry) (at_shaped class)

  -- all predicates
  pub all_shaped : AllZip (IsShaped model) (preds_of facts enums) (pred_shapes world)
  all_shaped = (
    builtin_shaped model 2 (codes "uses") uses.Uses,
    (
      builtin_shaped model 3 (codes "produce") uses.Produce,
      (
        builtin_shaped model 3 (codes "consume") uses.Consume,
        zip_flat (IsShaped model) (class_preds facts enums) (entry_pred_shapes world) (class_entries facts.names 0 facts.names) entry_shaped,
      ),
    ),
  )
