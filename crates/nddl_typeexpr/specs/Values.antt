-- What the values in a type mean, and what is wrong with one.
use Rattle.std.specs.Prelude.{ℕ, ◌==◌, Bool, true, false, not, ℤ, pos, List, Option, Some, None, slice_get}
use Rattle.std.specs.Prelude.{if◌then◌else◌}
use Rattle.std.specs.Option.{option_map, option_map_or, option_and_then}
use Rattle.nddl_ast.specs.declared.kind.TextKind.{TextKind}
use Rattle.nddl_ast.specs.declared.kind.TextKind.TheVariants as faults
use Rattle.nddl_ast.specs.declared.expression.Constant.{Constant}
use Rattle.nddl_ast.specs.declared.expression.Constant.TheVariants as constants
use Rattle.nddl_ast.specs.declared.expression.Value.{Value}
use Rattle.nddl_ast.specs.declared.expression.Value.TheVariants as values
use Rattle.nddl_ast.specs.Decimals.{decimal_for}
use Rattle.nddl_symbols.specs.declared.declared.Declared.{Declared}
use Rattle.nddl_symbols.specs.declared.declared.Sort.{Sort}
use Rattle.nddl_symbols.specs.declared.declared.Sort.TheVariants as sorts
use Rattle.nddl_symbols.specs.declared.scope.Meaning.{Meaning}
use Rattle.nddl_symbols.specs.declared.scope.Meaning.TheVariants as meanings
use Rattle.nddl_symbols.specs.Scope.{meaning_of}
use Rattle.nddl_typeexpr.specs.declared.kind.Extent.{Extent}
use Rattle.nddl_typeexpr.specs.declared.kind.Extent.TheVariants as extents
use Rattle.nddl_typeexpr.specs.declared.kind.TypeKind.{TypeKind}
use Rattle.nddl_typeexpr.specs.declared.kind.TypeKind.TheVariants as kinds
use Rattle.nddl_typeexpr.specs.declared.values.Given.{Given}
use Rattle.nddl_typeexpr.specs.declared.values.GivenKind.{GivenKind}
use Rattle.nddl_typeexpr.specs.declared.values.GivenKind.TheVariants as given
use Rattle.nddl_typeexpr.specs.Kinds.{is_within}

-- a literal
abbrev pub given_literal : Constant → Given
given_literal (constants.Number number) = record { kind = given.Number; number = number }
given_literal (constants.Decimal thousandths) = record { kind = given.Decimal; number = thousandths.0 }
given_literal (constants.Truth truth) = record { kind = given.Truth; number = if truth then pos 1 else pos 0 }

-- what a name of this sort stands for as a value; enums, typedefs and settings aren't found there
abbrev pub given_sort : Sort → Option GivenKind
given_sort (sorts.Member of place) = Some (given.Member of)
given_sort sorts.Object = Some given.Object
given_sort (sorts.Enum number) = None
given_sort sorts.Typedef = None
given_sort sorts.Config = None
given_sort sort = Some given.Other

-- what the name of this number stands for
abbrev pub given_entry : List Declared → ℕ → Option Given
given_entry names entry =
    option_and_then (λ declared. option_map (λ kind. record { kind = kind; number = pos entry }) (given_sort declared.sort))
    (slice_get names entry)

abbrev pub given_meaning : List Declared → Meaning → Option Given
given_meaning names (meanings.BuiltIn number) = Some (record { kind = given.Other; number = pos 0 })
given_meaning names (meanings.Entry entry) = given_entry names entry

-- what a value means, if its name is there
abbrev pub given_value : List Declared → Value → Option Given
given_value names (values.Name name) = option_and_then (given_meaning names) (meaning_of names name.text)
given_value names (values.Literal literal) = Some (given_literal literal.constant)

-- what is wrong with a value, of whatever kind it is
abbrev pub value_fault : List Declared → Value → Option TextKind
value_fault names value = option_map_or (λ found. None) (given_value names value) (Some faults.Unknown)

-- ---- as one of a type

-- a value of the one kind may be of a type of the other
abbrev pub fits : TypeKind → GivenKind → Bool
fits kinds.Int given.Number = true
fits kinds.Float given.Number = true
fits kinds.Float given.Decimal = true
fits kinds.Bool given.Truth = true
fits (kinds.Enum number) (given.Member of) = number == of
fits (kinds.Object class) given.Object = true
fits kind _ = false

-- the decimal, in thousandths, that a number of this kind is or stands for
abbrev pub decimal_of : GivenKind → ℤ → Option ℤ
decimal_of given.Number number = decimal_for number
decimal_of kind number = Some number

-- the number of a value that fits, in a type of this kind
abbrev pub number_in : TypeKind → Given → Option ℤ
number_in kinds.Float found = decimal_of found.kind found.number
number_in kind found = Some found.number

-- the number of a value that fits, if a type of this kind that has these values has it
abbrev pub number_within : TypeKind → Extent → Given → Option ℤ
number_within kind extent found =
    option_and_then (λ number. if is_within extent number then Some number else None) (number_in kind found)

-- what is wrong with a value that means this, as a member of a type
abbrev pub given_fault : TypeKind → Extent → Given → Option TextKind
given_fault kind extent found =
    if not (fits kind found.kind) then Some faults.WrongType
    else option_map_or (λ number. None) (number_within kind extent found) (Some faults.NotInDomain)

-- what is wrong with a value as a member of a type
abbrev pub member_fault : List Declared → TypeKind → Extent → Value → Option TextKind
member_fault names kind extent value =
    option_map_or (given_fault kind extent) (given_value names value) (Some faults.Unknown)

-- the number of a value that means this, if it may be a member of a type
abbrev pub given_number : TypeKind → Extent → Given → Option ℤ
given_number kind extent found = if fits kind found.kind then number_within kind extent found else None

-- the number of a value that may be a member of a type
abbrev pub own_number : List Declared → TypeKind → Extent → Value → Option ℤ
own_number names kind extent value = option_and_then (given_number kind extent) (given_value names value)

-- ---- as an end of a range

-- what is wrong with a value as an end of a range of this kind, which may lie anywhere
abbrev pub end_fault : List Declared → TypeKind → Value → Option TextKind
end_fault names kind value = member_fault names kind extents.Whole value

-- the number of a value that may be an end of a range of this kind
abbrev pub end_number : List Declared → TypeKind → Value → Option ℤ
end_number names kind value = own_number names kind extents.Whole value
