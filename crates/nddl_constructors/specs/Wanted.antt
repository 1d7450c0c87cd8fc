-- The arguments that a class wants, as they are found where they are declared.
use Rattle.std.specs.Prelude.{ℕ, List, Option, map, length}
use Rattle.nddl_typeexpr.specs.declared.kind.TypeKind.{TypeKind}
use Rattle.nddl_hierarchy.specs.Facts.{Facts}
use Rattle.nddl_constructors.specs.declared.wanted.Wanted.{Wanted}
use Rattle.nddl_constructors.specs.declared.wanted.Wanted.TheVariants as wanted
use Rattle.nddl_constructors.specs.Wants.{formal_kind}

-- of which kinds they have to be
abbrev pub wanted_kinds : Facts → Wanted → List (Option TypeKind)
wanted_kinds facts (wanted.Formals formals) = map (formal_kind facts) formals.now
wanted_kinds facts (wanted.BuiltIn kinds) = kinds.now

-- how many there are
abbrev pub wanted_count : Wanted → ℕ
wanted_count (wanted.Formals formals) = length formals.now
wanted_count (wanted.BuiltIn kinds) = length kinds.now
