-- Which values a type may keep.
use Rattle.std.proofs.Common.{◌≡◌, ℕ, Bool, true, false, List, [], ℤ, pos, ◌⊎◌, inl, inr, refl, sym, ◌∙◌, ap, subst}
use Rattle.std.specs.Prelude.{Option, Some, None, slice_get, ⊤, not, if◌then◌else◌}
use Rattle.std.specs.Option.{option_and_then, option_map, option_map_or}
use Rattle.std.proofs.lemmas.Option.{same_Some, none-some}
use Rattle.std.proofs.lemmas.Bool.Decides.{Decides-eqb}
use Rattle.domain_core.specs.Domain.{IsValue}
use Rattle.nddl_ast.specs.declared.expression.Constant.{Constant}
use Rattle.nddl_ast.specs.declared.expression.Constant.TheVariants as constants
use Rattle.nddl_ast.specs.declared.expression.Value.{Value}
use Rattle.nddl_ast.specs.declared.expression.Value.TheVariants as values
use Rattle.nddl_ast.specs.declared.kind.TextKind.{TextKind}
use Rattle.nddl_ast.specs.declared.kind.TextKind.TheVariants.{NotInDomain, Unknown, WrongType}
use Rattle.nddl_symbols.specs.declared.declared.Declared.{Declared}
use Rattle.nddl_symbols.specs.declared.declared.Sort.{Sort}
use Rattle.nddl_symbols.specs.declared.declared.Sort.TheVariants as sorts
use Rattle.nddl_symbols.specs.declared.scope.Meaning.{Meaning}
use Rattle.nddl_symbols.specs.declared.scope.Meaning.TheVariants as meanings
use Rattle.nddl_symbols.specs.Finding.{faults_here}
use Rattle.nddl_symbols.specs.Scope.{fault_if, meaning_of}
use Rattle.nddl_typeexpr.specs.declared.kind.Extent.{Extent}
use Rattle.nddl_typeexpr.specs.declared.kind.TypeKind.{TypeKind}
use Rattle.nddl_typeexpr.specs.declared.kind.TypeKind.TheVariants as kinds
use Rattle.nddl_typeexpr.specs.declared.values.Given.{Given}
use Rattle.nddl_typeexpr.specs.declared.values.GivenKind.{GivenKind}
use Rattle.nddl_typeexpr.specs.declared.values.GivenKind.TheVariants as given
use Rattle.nddl_typeexpr.specs.Kinds.{is_within}
use Rattle.nddl_typeexpr.specs.Values.{fits, given_fault, given_literal, given_meaning, given_number, given_sort, given_value, member_fault, number_in, number_within, own_number}
use Rattle.nddl_laws.specs.Fine.{IsFineConstant, IsFineValue}
use Rattle.nddl_laws.proofs.Decimals.{decimal_kept}

-- the number is that of a name that is a member of the enum
pub record IsOwnMember (names : List Declared) (of : ℕ) (number : ℤ) : Type 0 where
  pub entry : ℕ
  pub is_number : number ≡ pos entry
  pub declared : Declared
  pub there : slice_get names entry ≡ Some declared
  pub place : ℕ
  pub sort : declared.sort ≡ sorts.Member of place

-- a type of this kind may keep the number
abbrev pub IsKept : List Declared → TypeKind → ℤ → Type 0
IsKept names kinds.Int number = IsValue number
IsKept names kinds.Float number = IsValue number
IsKept names kinds.Bool number = (number ≡ pos 0) ⊎ (number ≡ pos 1)
IsKept names (kinds.Enum of) number = IsOwnMember names of number
IsKept names (kinds.Object class) number = ⊤

-- what a value of this kind may stand for
abbrev IsGivenSo : List Declared → GivenKind → ℤ → Type 0
IsGivenSo names given.Number number = IsValue number
IsGivenSo names given.Decimal number = IsValue number
IsGivenSo names given.Truth number = (number ≡ pos 0) ⊎ (number ≡ pos 1)
IsGivenSo names (given.Member of) number = IsOwnMember names of number
IsGivenSo names given.Object number = ⊤
IsGivenSo names given.Other number = ⊤

IsGivenRight : List Declared → Given → Type 0
IsGivenRight names found = IsGivenSo names found.kind found.number

truth_right : (truth : Bool) → ((if truth then pos 1 else pos 0) ≡ pos 0) ⊎ ((if truth then pos 1 else pos 0) ≡ pos 1)
truth_right true = inr refl
truth_right false = inl refl

literal_right : (names : List Declared) (constant : Constant) → IsFineConstant constant → IsGivenRight names (given_literal constant)
unfolding IsGivenRight
literal_right names (constants.Number number) fine = fine
literal_right names (constants.Decimal thousandths) fine = fine
literal_right names (constants.Truth truth) fine = truth_right truth

-- what a name of this sort stands for
sort_right : (names : List Declared) (entry : ℕ) (declared : Declared) (sort : Sort) (found : Given) → slice_get names entry ≡ Some declared
    → declared.sort ≡ sort → option_map (λ kind. record { kind = kind; number = pos entry }) (given_sort sort) ≡ Some found → IsGivenRight names found
unfolding IsGivenRight
sort_right names entry declared (sorts.Member of place) found there sort is =
    subst (IsGivenRight names) (same_Some (record { kind = given.Member of; number = pos entry }) found is)
    (record { entry = entry; is_number = refl; declared = declared; there = there; place = place; sort = sort })
sort_right names entry declared sorts.Object found there sort is =
    subst (IsGivenRight names) (same_Some (record { kind = given.Object; number = pos entry }) found is) tt
sort_right names entry declared (sorts.Enum number) found there sort is = absurd (none-some found is)
sort_right names entry declared sorts.Typedef found there sort is = absurd (none-some found is)
sort_right names entry declared sorts.Config found there sort is = absurd (none-some found is)
sort_right names entry declared sorts.Forward found there sort is =
    subst (IsGivenRight names) (same_Some (record { kind = given.Other; number = pos entry }) found is) tt
sort_right names entry declared sorts.Body found there sort is =
    subst (IsGivenRight names) (same_Some (record { kind = given.Other; number = pos entry }) found is) tt
sort_right names entry declared sorts.Global found there sort is =
    subst (IsGivenRight names) (same_Some (record { kind = given.Other; number = pos entry }) found is) tt
sort_right names entry declared sorts.Root found there sort is =
    subst (IsGivenRight names) (same_Some (record { kind = given.Other; number = pos entry }) found is) tt

entry_right : (names : List Declared) (entry : ℕ) (o : Option Declared) (found : Given) → slice_get names entry ≡ o
    → option_and_then (λ (declared : Declared). option_map (λ kind. record { kind = kind; number = pos entry }) (given_sort declared.sort)) o ≡ Some found
    → IsGivenRight names found
entry_right names entry None found there is = absurd (none-some found is)
entry_right names entry (Some declared) found there is = sort_right names entry declared declared.sort found there refl is

meaning_right : (names : List Declared) (o : Option Meaning) (found : Given) → option_and_then (given_meaning names) o ≡ Some found → IsGivenRight names found
unfolding IsGivenRight
meaning_right names None found is = absurd (none-some found is)
meaning_right names (Some (meanings.BuiltIn number)) found is =
    subst (IsGivenRight names) (same_Some (record { kind = given.Other; number = pos 0 }) found is) tt
meaning_right names (Some (meanings.Entry entry)) found is = entry_right names entry (slice_get names entry) found refl is

value_right : (names : List Declared) (value : Value) (found : Given) → IsFineValue value → given_value names value ≡ Some found → IsGivenRight names found
value_right names (values.Name name) found fine is = meaning_right names (meaning_of names name.text) found is
value_right names (values.Literal literal) found fine is =
    subst (IsGivenRight names) (same_Some (given_literal literal.constant) found is) (literal_right names literal.constant fine)

-- the number of what fits a kind may be kept
fits_kept : (names : List Declared) (kind : TypeKind) (of : GivenKind) (own number : ℤ) → fits kind of ≡ true → IsGivenSo names of own
    → number_in kind (record { kind = of; number = own }) ≡ Some number → IsKept names kind number
fits_kept names kinds.Int given.Number own number fit right is = subst IsValue (same_Some own number is) right
fits_kept names kinds.Float given.Number own number fit right is = decimal_kept own number right is
fits_kept names kinds.Float given.Decimal own number fit right is = subst IsValue (same_Some own number is) right
fits_kept names kinds.Bool given.Truth own number fit right is = subst (IsKept names kinds.Bool) (same_Some own number is) right
fits_kept names (kinds.Enum one) (given.Member of) own number fit right is =
    subst (IsOwnMember names one) (same_Some own number is) (subst (λ n. IsOwnMember names n own) (sym ((Decides-eqb one of).0 fit)) right)
fits_kept names (kinds.Object class) given.Object own number fit right is = tt
fits_kept names kind of own number fit right is = absurd (let e : false ≡ true = fit in cc)

-- the number of a value that may be a member, or an end of a range, is one that is kept
pub own_kept : (names : List Declared) (kind : TypeKind) (extent : Extent) (value : Value) (number : ℤ) → IsFineValue value
    → own_number names kind extent value ≡ Some number → IsKept names kind number
unfolding IsGivenRight
own_kept names kind extent value number fine is = by (given_value names value) refl is
  where
    same : (own : ℤ) (b : Bool) → (if b then Some own else None) ≡ Some number → own ≡ number
    same own true is = same_Some own number is
    same own false is = absurd (none-some number is)

    within : (found : Given) → given_value names value ≡ Some found → fits kind found.kind ≡ true → (o : Option ℤ) → number_in kind found ≡ o
        → option_and_then (λ (own : ℤ). if is_within extent own then Some own else None) o ≡ Some number → IsKept names kind number
    within found there fit None here is = absurd (none-some number is)
    within found there fit (Some own) here is =
        fits_kept names kind found.kind found.number number fit (value_right names value found fine there)
        (here ∙ ap Some (same own (is_within extent own) is))

    last : (found : Given) → given_value names value ≡ Some found → (b : Bool) → fits kind found.kind ≡ b
        → (if b then number_within kind extent found else None) ≡ Some number → IsKept names kind number
    last found there false fit is = absurd (none-some number is)
    last found there true fit is = within found there fit (number_in kind found) refl is

    by : (o : Option Given) → given_value names value ≡ o → option_and_then (given_number kind extent) o ≡ Some number → IsKept names kind number
    by None there is = absurd (none-some number is)
    by (Some found) there is = last found there (fits kind found.kind) refl is

-- no fault is told where none is meant
pub no_fault : (decl at : ℕ) (o : Option TextKind) → faults_here decl at o ≡ [] → o ≡ None
no_fault decl at None none = refl
no_fault decl at (Some kind) none = absurd (cc)

pub not_so : (b : Bool) (kind : TextKind) → fault_if b kind ≡ None → b ≡ false
not_so false kind is = refl
not_so true kind is = absurd (cc)

-- a value with which nothing is wrong as a member has a number
pub own_there : (names : List Declared) (kind : TypeKind) (extent : Extent) (value : Value) → member_fault names kind extent value ≡ None
    → (number : ℤ) × (own_number names kind extent value ≡ Some number)
own_there names kind extent value none = by (given_value names value) refl none
  where
    inside : (o : Option ℤ) → option_map_or (λ (number : ℤ). None) o (Some NotInDomain) ≡ None → (number : ℤ) × (o ≡ Some number)
    inside None none = absurd (cc)
    inside (Some number) none = (number, refl)

    last : (found : Given) (b : Bool)
        → (if not b then Some WrongType else option_map_or (λ (number : ℤ). None) (number_within kind extent found) (Some NotInDomain)) ≡ None
        → (number : ℤ) × ((if b then number_within kind extent found else None) ≡ Some number)
    last found false none = absurd (cc)
    last found true none = inside (number_within kind extent found) none

    by : (o : Option Given) → given_value names value ≡ o → option_map_or (given_fault kind extent) o (Some Unknown) ≡ None
        → (number : ℤ) × (own_number names kind extent value ≡ Some number)
    by None there none = absurd (cc)
    by (Some found) there none =
        let given = last found (fits kind found.kind) none in
        (given.0, ap (option_and_then (given_number kind extent)) there ∙ given.1)
