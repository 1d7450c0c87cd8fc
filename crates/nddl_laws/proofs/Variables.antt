-- The fields and the parameters of a program are lawful variables.
use Rattle.std.proofs.Common.{◌≡◌, ℕ, ◌==◌, Bool, true, false, List, [], ◌∷◌, get_or, ℤ, pos, negsuc, refl, sym, ◌∙◌, ap, subst, arith}
use Rattle.std.specs.Prelude.{Option, Some, None, All, slice_get, codes, if◌then◌else◌}
use Rattle.std.specs.List.{filter_map}
use Rattle.std.specs.Option.{option_and_then, option_map, option_map_or}
use Rattle.std.proofs.lemmas.Option.{same_Some, none-some}
use Rattle.std.proofs.lemmas.Int.{ints}
use Rattle.std.proofs.lemmas.List.Elements.{All-nil, All-cons, All-append, All-weaker}
use Rattle.domain_core.specs.Domain.{IsDomain, Range}
use Rattle.model_core.specs.declared.model.Model.{Model}
use Rattle.model_core.specs.declared.variable.VarDecl.{VarDecl}
use Rattle.model_core.specs.Lawful.{IsLawfulEnum, IsLawfulVariable}
use Rattle.model_core.proofs.Items.{item_all}
use Rattle.nddl_ast.specs.declared.declaration.Decl.{Decl}
use Rattle.nddl_ast.specs.declared.declaration.Decl.TheVariants as decls
use Rattle.nddl_ast.specs.declared.declaration.Member.{Member}
use Rattle.nddl_ast.specs.declared.declaration.Member.TheVariants as members
use Rattle.nddl_ast.specs.declared.declaration.PredicatePart.{PredicatePart}
use Rattle.nddl_ast.specs.declared.declaration.PredicatePart.TheVariants as parts
use Rattle.nddl_ast.specs.declared.declaration.Typed.{Typed}
use Rattle.nddl_ast.specs.declared.expression.Type as types
use Rattle.nddl_symbols.specs.declared.declared.Declared.{Declared}
use Rattle.nddl_symbols.specs.declared.declared.Sort.TheVariants as sorts
use Rattle.nddl_symbols.specs.declared.scope.Meaning.{Meaning}
use Rattle.nddl_symbols.specs.declared.scope.Meaning.TheVariants as meanings
use Rattle.nddl_symbols.specs.Names.{scope_names}
use Rattle.nddl_typeexpr.specs.declared.kind.TypeMeaning.{TypeMeaning}
use Rattle.nddl_hierarchy.specs.Ancestors.{above}
use Rattle.nddl_hierarchy.specs.Decls.{decl_members, decl_of_name, declaration_with_body, members_of, typedef_type}
use Rattle.nddl_hierarchy.specs.Facts.{Facts}
use Rattle.nddl_hierarchy.specs.Members.{member_field}
use Rattle.nddl_hierarchy.specs.Lines.{is_typedef_sort}
use Rattle.nddl_declarations.specs.Known.{AreFacts, fine_meaning}
use Rattle.nddl_declarations.specs.Members.{parameter_of, parameters_of}
use Rattle.nddl_declarations.specs.Declares.{declared_variable, number_variable, variable_with, variables_of}
use Rattle.nddl_types.specs.Classes.{builtin_fields, class_fields, declared_fields, enums_of, fields_at, given_fields, line_down}
use Rattle.nddl_laws.specs.Fine.{IsFineDecl, IsFineMember, IsFinePart, IsFineType, IsFineTyped}
use Rattle.nddl_laws.proofs.Bases.{base_right, between, kind_right, whole_ends}
use Rattle.nddl_laws.proofs.Known.{HasFineTypes, type_fits}
use Rattle.nddl_laws.proofs.Lists.{all_flat, all_kept}
use Rattle.nddl_laws.proofs.Numbers.{HasMember, member_there}
use Rattle.nddl_laws.proofs.Circles.{body_is}

-- ---- what is fine of the parts of a program

typedef_fine : (decl : Decl) (type : types.Type) → IsFineDecl decl → typedef_type decl ≡ Some type → IsFineType type
typedef_fine (decls.Typedef at declared name) type fine is = subst IsFineType (same_Some declared type is) fine.0
typedef_fine decl type fine is = absurd (none-some type is)

module _ (facts : Facts) (fine : All IsFineDecl facts.program) where
  decl_fine_at : (declared : Declared) (decl : Decl) → decl_of_name facts.program declared ≡ Some decl → IsFineDecl decl
  decl_fine_at declared decl is = item_all IsFineDecl facts.program declared.place.decl decl fine is

  pub fine_types : HasFineTypes facts
  fine_types entry type is = by (slice_get facts.names entry) is
    where
      inner : (o : Option Decl) → ((decl : Decl) → o ≡ Some decl → IsFineDecl decl) → option_and_then typedef_type o ≡ Some type → IsFineType type
      inner None each is = absurd (none-some type is)
      inner (Some decl) each is = typedef_fine decl type (each decl refl) is

      middle : (declared : Declared) (b : Bool) → (if b then option_and_then typedef_type (decl_of_name facts.program declared) else None) ≡ Some type → IsFineType type
      middle declared false is = absurd (none-some type is)
      middle declared true is = inner (decl_of_name facts.program declared) (decl_fine_at declared) is

      by : (o : Option Declared)
          → option_and_then (λ (declared : Declared). if is_typedef_sort declared.sort then option_and_then typedef_type (decl_of_name facts.program declared) else None) o ≡ Some type
          → IsFineType type
      by None is = absurd (none-some type is)
      by (Some declared) is = middle declared (is_typedef_sort declared.sort) is

  -- the members of a class
  pub fine_members : (entry : ℕ) → All IsFineMember (members_of facts.names facts.program entry)
  fine_members entry = by (slice_get facts.names entry)
    where
      of_decl : (decl : Decl) → IsFineDecl decl → All IsFineMember (decl_members decl)
      of_decl (decls.Class at name parent members) right = right.1.1
      of_decl decl right = All-nil IsFineMember

      inner : (o : Option Decl) → ((decl : Decl) → o ≡ Some decl → IsFineDecl decl) → All IsFineMember (option_map_or decl_members o [])
      inner None each = All-nil IsFineMember
      inner (Some decl) each = of_decl decl (each decl refl)

      by : (o : Option Declared) → All IsFineMember (option_map_or decl_members (option_and_then (declaration_with_body facts.names facts.program) o) [])
      by None = All-nil IsFineMember
      by (Some declared) = inner (declaration_with_body facts.names facts.program declared)
          (λ decl is. let body = body_is facts.names facts.program declared decl is in decl_fine_at body.other decl body.at)

fine_field : (member : Member) (typed : Typed) → IsFineMember member → member_field member ≡ Some typed → IsFineTyped typed
fine_field (members.Field typed) other right is = subst IsFineTyped (same_Some typed other is) right
fine_field member typed right is = absurd (none-some typed is)

pub fine_fields : (some : List Member) → All IsFineMember some → All IsFineTyped (filter_map member_field some)
fine_fields some right =
    all_kept IsFineTyped member_field some
    (All-weaker IsFineMember (λ member. (typed : Typed) → member_field member ≡ Some typed → IsFineTyped typed)
    (λ member one typed is. fine_field member typed one is) some right)

fine_parameter : (part : PredicatePart) (typed : Typed) → IsFinePart part → parameter_of part ≡ Some typed → IsFineTyped typed
fine_parameter (parts.Parameter typed) other right is = subst IsFineTyped (same_Some typed other is) right
fine_parameter (parts.Constraint call) typed right is = absurd (none-some typed is)

pub fine_parameters : (some : List PredicatePart) → All IsFinePart some → All IsFineTyped (parameters_of some)
fine_parameters some right =
    all_kept IsFineTyped parameter_of some
    (All-weaker IsFinePart (λ part. (typed : Typed) → parameter_of part ≡ Some typed → IsFineTyped typed)
    (λ part one typed is. fine_parameter part typed one is) some right)

-- ---- variables

-- a variable of numbers
pub number_right : (model : Model) (name : List ℕ) (least greatest : ℤ) → IsDomain (Range least greatest) → IsLawfulVariable model (number_variable name least greatest)
number_right model name least greatest ends = record {
  kind = tt;
  base = ends;
  inside = record {
    values = λ value has. between least greatest value ends has;
    range = λ is. tt;
  };
}

pub quantity_ends : IsDomain (Range (pos 0) (pos 1000000))
quantity_ends = ((omega (arith, ints), omega (arith, ints)), (omega (arith, ints), omega (arith, ints)), omega (arith, ints))

whole_right : (model : Model) (name : List ℕ) → IsLawfulVariable model (number_variable name (negsuc 999999) (pos 1000000))
whole_right model name = number_right model name (negsuc 999999) (pos 1000000) whole_ends

pub builtin_right : (model : Model) (number : ℕ) → All (IsLawfulVariable model) (builtin_fields number)
builtin_right model number = by (number == 2) (number == 3)
  where
    by : (two three : Bool) → All (IsLawfulVariable model)
        (if two then number_variable (codes "capacity") (negsuc 999999) (pos 1000000) ∷ []
        else (if three
        then number_variable (codes "initial") (negsuc 999999) (pos 1000000)
        ∷ number_variable (codes "low") (negsuc 999999) (pos 1000000) ∷ number_variable (codes "high") (negsuc 999999) (pos 1000000) ∷ []
        else []))
    by true three =
        All-cons (IsLawfulVariable model) (number_variable (codes "capacity") (negsuc 999999) (pos 1000000)) [] (whole_right model (codes "capacity"))
        (All-nil (IsLawfulVariable model))
    by false true =
        All-cons (IsLawfulVariable model) (number_variable (codes "initial") (negsuc 999999) (pos 1000000))
        (number_variable (codes "low") (negsuc 999999) (pos 1000000) ∷ number_variable (codes "high") (negsuc 999999) (pos 1000000) ∷ [])
        (whole_right model (codes "initial"))
        (All-cons (IsLawfulVariable model) (number_variable (codes "low") (negsuc 999999) (pos 1000000))
        (number_variable (codes "high") (negsuc 999999) (pos 1000000) ∷ []) (whole_right model (codes "low"))
        (All-cons (IsLawfulVariable model) (number_variable (codes "high") (negsuc 999999) (pos 1000000)) [] (whole_right model (codes "high"))
        (All-nil (IsLawfulVariable model))))
    by false false = All-nil (IsLawfulVariable model)

pub given_right : (model : Model) (o : Option Meaning) → All (IsLawfulVariable model) (given_fields o)
given_right model None = All-nil (IsLawfulVariable model)
given_right model (Some (meanings.BuiltIn number)) = builtin_right model number
given_right model (Some (meanings.Entry entry)) = All-nil (IsLawfulVariable model)

module _ (facts : Facts) (are : AreFacts (scope_names facts.program) facts.program facts) (fine : All IsFineDecl facts.program)
    (lawful : All IsLawfulEnum (enums_of facts.program)) (model : Model) (same : model.enums ≡ enums_of facts.program) where
  typed_right : (typed : Typed) (variable : VarDecl) → IsFineTyped typed → declared_variable facts (enums_of facts.program) typed ≡ Some variable → IsLawfulVariable model variable
  typed_right typed variable right is = by (fine_meaning facts typed.declared) refl is
    where
      by : (o : Option TypeMeaning) → fine_meaning facts typed.declared ≡ o → option_map (variable_with facts (enums_of facts.program) typed) o ≡ Some variable
          → IsLawfulVariable model variable
      by None at is = absurd (none-some variable is)
      by (Some meaning) at is =
          let fits = type_fits facts are (fine_types facts fine) typed.declared meaning right.0 at in
          let members : (entry number place : ℕ) (declared : Declared) → slice_get facts.names entry ≡ Some declared
          → declared.sort ≡ sorts.Member number place → HasMember (enums_of facts.program) number place =
          λ entry number place declared there sort.
          member_there facts.program entry number place declared (sym (ap (λ names. slice_get names entry) are.is_names) ∙ there) sort in
          let base = base_right facts.names (enums_of facts.program) model same lawful members meaning.kind meaning.extent fits.kind fits.extent in
          let kind = kind_right facts.names (enums_of facts.program) model same lawful members meaning.kind fits.kind in
          subst (IsLawfulVariable model) (same_Some (variable_with facts (enums_of facts.program) typed meaning) variable is)
          (record { kind = kind; base = base.0; inside = base.1 })

  pub variables_right : (some : List Typed) → All IsFineTyped some → All (IsLawfulVariable model) (variables_of facts (enums_of facts.program) some)
  variables_right some right =
      all_kept (IsLawfulVariable model) (declared_variable facts (enums_of facts.program)) some
      (All-weaker IsFineTyped (λ typed. (variable : VarDecl) → declared_variable facts (enums_of facts.program) typed ≡ Some variable → IsLawfulVariable model variable)
      (λ typed one variable is. typed_right typed variable one is) some right)

  -- what a class adds to the fields of a line
  at_right : (entry : ℕ) → All (IsLawfulVariable model) (fields_at facts (enums_of facts.program) entry)
  at_right entry =
      All-append (IsLawfulVariable model) (given_fields (above facts.names facts.program entry))
      (declared_fields facts (enums_of facts.program) (members_of facts.names facts.program entry))
      (given_right model (above facts.names facts.program entry))
      (variables_right (filter_map member_field (members_of facts.names facts.program entry))
      (fine_fields (members_of facts.names facts.program entry) (fine_members facts fine entry)))

  pub fields_right : (entry : ℕ) → All (IsLawfulVariable model) (class_fields facts (enums_of facts.program) entry)
  fields_right entry =
      all_flat (IsLawfulVariable model) (fields_at facts (enums_of facts.program)) (line_down facts entry) (λ k d within. at_right (get_or (line_down facts entry) k d))
