-- What is wrong with values that have to be constants of some kind.
use Rattle.std.specs.Prelude.{ℕ, ◌+◌, Bool, true, false, List, [], ◌∷◌, ◌++◌, Option, Some, None, Ok, Err, is_none}
use Rattle.std.specs.Option.{option_map_or}
use Rattle.nddl_ast.specs.declared.expression.Expr.{Expr}
use Rattle.nddl_ast.specs.declared.kind.TextKind.{TextKind}
use Rattle.nddl_ast.specs.declared.kind.TextKind.TheVariants as faults
use Rattle.nddl_ast.specs.Places.{expr_place}
use Rattle.nddl_symbols.specs.declared.fault.Fault.{Fault}
use Rattle.nddl_symbols.specs.Finding.{faults_here}
use Rattle.nddl_typeexpr.specs.declared.kind.TypeKind.{TypeKind}
use Rattle.nddl_hierarchy.specs.Facts.{Facts}
use Rattle.nddl_resolve.specs.declared.denoted.Denoted.{Denoted}
use Rattle.nddl_resolve.specs.declared.denoted.Denoted.TheVariants as denoted
use Rattle.nddl_resolve.specs.Kinds.{kind_fault}
use Rattle.nddl_resolve.specs.Paths.{Surroundings, expr_denoted}
use Rattle.nddl_resolve.specs.Following.{Understood}
use Rattle.nddl_constructors.specs.Wants.{wanted_at}

-- what is wrong with a value of this kind, where another may be wanted; where it isn't known which, nothing is said
abbrev pub wanted_fault : Option TypeKind → Expr → TypeKind → Option TextKind
wanted_fault wanted expr kind = option_map_or (λ other. kind_fault other expr kind) wanted None

-- What is wrong with a value that means this: it has to be a constant of the kind that is wanted.
abbrev pub constant_fault : Option TypeKind → Expr → Denoted → Option TextKind
constant_fault wanted expr (denoted.Value kind true) = wanted_fault wanted expr kind
constant_fault wanted expr (denoted.Value kind false) = Some faults.WrongType
constant_fault wanted expr (denoted.Token token) = Some faults.WrongType
constant_fault wanted expr (denoted.Class class) = Some faults.WrongType
constant_fault wanted expr denoted.Faulty = None

-- the value means something, and nothing is wrong with that
abbrev pub is_understood : Option TypeKind → Expr → Understood → Bool
is_understood wanted expr (Ok found) = is_none (constant_fault wanted expr found)
is_understood wanted expr (Err fault) = false

-- what is wrong with what it means, or with it by itself
abbrev pub constant_faults : ℕ → Option TypeKind → Expr → Understood → List Fault
constant_faults decl wanted expr (Ok found) = faults_here decl (expr_place expr) (constant_fault wanted expr found)
constant_faults decl wanted expr (Err fault) = faults_here decl fault.at (Some fault.kind)

-- all that is wrong with an argument, or with what a field is set to
unfoldable pub value_faults : Facts → Surroundings → ℕ → Option TypeKind → Expr → List Fault
value_faults facts around decl wanted expr = constant_faults decl wanted expr (expr_denoted facts around expr)

-- All that is wrong with arguments by themselves, of which the first has this number. More than are wanted may be of any
-- kind.
abbrev pub constants_faults : Facts → Surroundings → ℕ → List (Option TypeKind) → ℕ → List Expr → List Fault
constants_faults facts around decl wants number [] = []
constants_faults facts around decl wants number (expr ∷ more) =
    value_faults facts around decl (wanted_at wants number) expr
    ++ constants_faults facts around decl wants (number + 1) more
