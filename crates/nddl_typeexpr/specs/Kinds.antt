-- Which values a type has.
use Rattle.std.specs.Prelude.{◌==◌, Bool, true, false, ◌&&◌, not, ℤ, int_le}
use Rattle.nddl_typeexpr.specs.declared.kind.Extent.{Extent}
use Rattle.nddl_typeexpr.specs.declared.kind.Extent.TheVariants as extents
use Rattle.nddl_typeexpr.specs.declared.kind.TypeKind.{TypeKind}
use Rattle.nddl_typeexpr.specs.declared.kind.TypeKind.TheVariants as kinds
use Rattle.nddl_typeexpr.specs.Members.{has_number}

-- the value of this number is one of them
abbrev pub is_within : Extent → ℤ → Bool
is_within extents.Whole number = true
is_within (extents.Range least greatest) number = int_le least number && int_le number greatest
is_within (extents.Set members) number = has_number members number

-- two kinds are the same; all objects are of one
abbrev pub are_one_kind : TypeKind → TypeKind → Bool
are_one_kind kinds.Int kinds.Int = true
are_one_kind kinds.Float kinds.Float = true
are_one_kind kinds.Bool kinds.Bool = true
are_one_kind (kinds.Enum one) (kinds.Enum other) = one == other
are_one_kind (kinds.Object one) (kinds.Object other) = true
are_one_kind one other = false

-- the values of a type of this kind are numbers
abbrev pub is_numeric : TypeKind → Bool
is_numeric kinds.Int = true
is_numeric kinds.Float = true
is_numeric kind = false

-- they are written out
abbrev pub is_listed : Extent → Bool
is_listed (extents.Set members) = true
is_listed extent = false

-- they are numbers and no written set, so a range may stand behind the type
abbrev pub is_ranged : TypeKind → Extent → Bool
is_ranged kind extent = is_numeric kind && not (is_listed extent)
