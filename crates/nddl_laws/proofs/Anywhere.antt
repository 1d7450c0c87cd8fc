-- Whether anything is wrong with a type doesn't depend on the number of its declaration.
use Rattle.std.proofs.Common.{◌≡◌, ℕ, Bool, true, false, List, [], ◌∷◌, ◌++◌, refl, ◌∙◌}
use Rattle.std.specs.Prelude.{Option, Some, None, if◌then◌else◌}
use Rattle.std.specs.List.{flat_map}
use Rattle.std.specs.Option.{option_map_or}
use Rattle.nddl_ast.specs.declared.declaration.Decl.{Decl}
use Rattle.nddl_ast.specs.declared.expression.Bounds.{Bounds}
use Rattle.nddl_ast.specs.declared.expression.Bounds.TheVariants as bounds
use Rattle.nddl_ast.specs.declared.expression.Type as types
use Rattle.nddl_ast.specs.declared.expression.Value.{Value}
use Rattle.nddl_ast.specs.declared.kind.TextKind.{TextKind}
use Rattle.nddl_ast.specs.declared.kind.TextKind.TheVariants as faults
use Rattle.nddl_ast.specs.Places.{value_place}
use Rattle.nddl_symbols.specs.declared.declared.Declared.{Declared}
use Rattle.nddl_symbols.specs.declared.fault.Fault.{Fault}
use Rattle.nddl_symbols.specs.declared.scope.Meaning.{Meaning}
use Rattle.nddl_symbols.specs.Finding.{faults_here}
use Rattle.nddl_symbols.specs.Scope.{fault_if}
use Rattle.nddl_typeexpr.specs.declared.kind.Extent.{Extent}
use Rattle.nddl_typeexpr.specs.declared.kind.TypeKind.{TypeKind}
use Rattle.nddl_typeexpr.specs.declared.kind.TypeKind.TheVariants as kinds
use Rattle.nddl_typeexpr.specs.Bases.{base_extent, base_fault, base_kind}
use Rattle.nddl_typeexpr.specs.Bounds.{bounds_faults, bounds_values, ends_faults, has_too_many, is_wrong_range, members_faults, missing_faults, no_range_faults, range_faults, set_faults}
use Rattle.nddl_typeexpr.specs.Kinds.{is_ranged}
use Rattle.nddl_typeexpr.specs.Types.{type_faults}
use Rattle.nddl_typeexpr.specs.Values.{end_fault, end_number, member_fault, value_fault}
use Rattle.nddl_hierarchy.specs.Ancestors.{foreign_faults, is_foreign, objects_faults}
use Rattle.nddl_hierarchy.specs.Facts.{Facts}
use Rattle.nddl_declarations.specs.Known.{all_type_faults}
use Rattle.nddl_laws.proofs.Nothing.{none_first, none_second}

-- where there is none of the one there is none of the other
abbrev Passes : List Fault → List Fault → Type 0
Passes one other = one ≡ [] → other ≡ []

here : (decl at : ℕ) (o : Option TextKind) → Passes (faults_here decl at o) (faults_here 0 at o)
here decl at None none = refl
here decl at (Some kind) none = absurd (cc)

pub both_none : {X : Type 0} (xs ys : List X) → xs ≡ [] → ys ≡ [] → xs ++ ys ≡ []
both_none xs ys one other = (λ i. one i ++ ys) ∙ other

joined : (one two three four : List Fault) → Passes one three → Passes two four → Passes (one ++ two) (three ++ four)
joined one two three four first second none = both_none three four (first (none_first one two none)) (second (none_second one two none))

each : {X : Type 0} (f g : X → List Fault) (xs : List X) → ((x : X) → Passes (f x) (g x)) → Passes (flat_map f xs) (flat_map g xs)
each f g [] pass none = refl
each f g (x ∷ xs) pass none =
    joined (f x) (flat_map f xs) (g x) (flat_map g xs) (pass x) (each f g xs pass) none

module _ (names : List Declared) (decl : ℕ) where
  ends : (kind : TypeKind) (extent : Extent) (at : ℕ) (least greatest : Value)
      → Passes (ends_faults names kind extent decl at least greatest) (ends_faults names kind extent 0 at least greatest)
  ends kind extent at least greatest =
      let wrong = fault_if (is_wrong_range extent (end_number names kind least) (end_number names kind greatest)) faults.NotInDomain in
      joined (faults_here decl at wrong ++ faults_here decl (value_place least) (end_fault names kind least)) (faults_here decl (value_place greatest) (end_fault names kind greatest))
      (faults_here 0 at wrong ++ faults_here 0 (value_place least) (end_fault names kind least)) (faults_here 0 (value_place greatest) (end_fault names kind greatest))
      (joined (faults_here decl at wrong) (faults_here decl (value_place least) (end_fault names kind least))
      (faults_here 0 at wrong) (faults_here 0 (value_place least) (end_fault names kind least)) (here decl at wrong) (here decl (value_place least) (end_fault names kind least)))
      (here decl (value_place greatest) (end_fault names kind greatest))

  no_range : (least greatest : Value) → Passes (no_range_faults names decl least greatest) (no_range_faults names 0 least greatest)
  no_range least greatest =
      joined (faults_here decl (value_place least) (value_fault names least) ++ faults_here decl (value_place least) (Some faults.WrongType))
      (faults_here decl (value_place greatest) (value_fault names greatest))
      (faults_here 0 (value_place least) (value_fault names least) ++ faults_here 0 (value_place least) (Some faults.WrongType))
      (faults_here 0 (value_place greatest) (value_fault names greatest))
      (joined (faults_here decl (value_place least) (value_fault names least)) (faults_here decl (value_place least) (Some faults.WrongType))
      (faults_here 0 (value_place least) (value_fault names least)) (faults_here 0 (value_place least) (Some faults.WrongType))
      (here decl (value_place least) (value_fault names least)) (here decl (value_place least) (Some faults.WrongType)))
      (here decl (value_place greatest) (value_fault names greatest))

  range : (kind : TypeKind) (extent : Extent) (at : ℕ) (least greatest : Value)
      → Passes (range_faults names kind extent decl at least greatest) (range_faults names kind extent 0 at least greatest)
  range kind extent at least greatest = by (is_ranged kind extent)
    where
      by : (b : Bool) → Passes (if b then ends_faults names kind extent decl at least greatest else no_range_faults names decl least greatest)
          (if b then ends_faults names kind extent 0 at least greatest else no_range_faults names 0 least greatest)
      by true = ends kind extent at least greatest
      by false = no_range least greatest

  set : (kind : TypeKind) (extent : Extent) (at : ℕ) (values : List Value)
      → Passes (set_faults names kind extent decl at values) (set_faults names kind extent 0 at values)
  set kind extent at values =
      let most = fault_if (has_too_many names kind extent values) faults.LimitMembers in
      joined (faults_here decl at most) (members_faults names kind extent decl values) (faults_here 0 at most) (members_faults names kind extent 0 values)
      (here decl at most)
      (each (λ value. faults_here decl (value_place value) (member_fault names kind extent value))
      (λ value. faults_here 0 (value_place value) (member_fault names kind extent value)) values
      (λ value. here decl (value_place value) (member_fault names kind extent value)))

  bounded : (kind : TypeKind) (extent : Extent) (bound : Bounds) → Passes (bounds_faults names kind extent decl bound) (bounds_faults names kind extent 0 bound)
  bounded kind extent bounds.All none = refl
  bounded kind extent (bounds.Range at least greatest) none = range kind extent at least greatest none
  bounded kind extent (bounds.Set at values) none = set kind extent at values none

  foreign : (program : List Decl) (parents : List (Option ℕ)) (class : Meaning) (values : List Value)
      → Passes (foreign_faults names program parents decl class values) (foreign_faults names program parents 0 class values)
  foreign program parents class values =
      each (λ value. faults_here decl (value_place value) (fault_if (is_foreign names program parents class value) faults.NotInDomain))
      (λ value. faults_here 0 (value_place value) (fault_if (is_foreign names program parents class value) faults.NotInDomain)) values
      (λ value. here decl (value_place value) (fault_if (is_foreign names program parents class value) faults.NotInDomain))

  objects : (program : List Decl) (parents : List (Option ℕ)) (kind : Option TypeKind) (bound : Bounds)
      → Passes (objects_faults names program parents decl kind bound) (objects_faults names program parents 0 kind bound)
  objects program parents (Some (kinds.Object class)) (bounds.Set at values) none = foreign program parents class values none
  objects program parents (Some (kinds.Object class)) bounds.All none = refl
  objects program parents (Some (kinds.Object class)) (bounds.Range at least greatest) none = refl
  objects program parents (Some kinds.Int) bound none = refl
  objects program parents (Some kinds.Float) bound none = refl
  objects program parents (Some kinds.Bool) bound none = refl
  objects program parents (Some (kinds.Enum number)) bound none = refl
  objects program parents None bound none = refl

  missing : (bound : Bounds) → Passes (missing_faults names decl bound) (missing_faults names 0 bound)
  missing bound =
      each (λ value. faults_here decl (value_place value) (value_fault names value)) (λ value. faults_here 0 (value_place value) (value_fault names value))
      (bounds_values bound) (λ value. here decl (value_place value) (value_fault names value))

  optional : (o : Option TypeKind) (extent : Extent) (bound : Bounds)
      → Passes (option_map_or (λ (kind : TypeKind). bounds_faults names kind extent decl bound) o (missing_faults names decl bound))
      (option_map_or (λ (kind : TypeKind). bounds_faults names kind extent 0 bound) o (missing_faults names 0 bound))
  optional None extent bound none = missing bound none
  optional (Some kind) extent bound none = bounded kind extent bound none

-- nothing is wrong with the type where nothing is as it stands in a declaration
pub none_anywhere : (facts : Facts) (decl : ℕ) (type : types.Type) → all_type_faults facts decl type ≡ [] → all_type_faults facts 0 type ≡ []
unfolding all_type_faults
none_anywhere facts decl type none =
    let kind = base_kind facts.names facts.known type.base in
    let extent = base_extent facts.names facts.known type.base in
    joined (type_faults facts.names facts.known decl type)
    (objects_faults facts.names facts.program facts.parents decl kind type.bounds)
    (type_faults facts.names facts.known 0 type)
    (objects_faults facts.names facts.program facts.parents 0 kind type.bounds)
    (joined (faults_here decl type.at (base_fault facts.names type.base))
    (option_map_or (λ (kind : TypeKind). bounds_faults facts.names kind extent decl type.bounds) kind (missing_faults facts.names decl type.bounds))
    (faults_here 0 type.at (base_fault facts.names type.base))
    (option_map_or (λ (kind : TypeKind). bounds_faults facts.names kind extent 0 type.bounds) kind (missing_faults facts.names 0 type.bounds))
    (here decl type.at (base_fault facts.names type.base)) (optional facts.names decl kind extent type.bounds))
    (objects facts.names decl facts.program facts.parents kind type.bounds) none
