-- What is wrong with the bodies of constructors, whether they are ever run or not.
use Rattle.std.specs.Prelude.{ℕ, false, true, List, [], ◌++◌, Option, Some, None, map, is_none}
use Rattle.std.specs.List.{flat_map}
use Rattle.std.specs.Option.{option_map_or}
use Rattle.nddl_ast.specs.declared.declaration.Member.{Member}
use Rattle.nddl_ast.specs.declared.declaration.Member.TheVariants as members
use Rattle.nddl_ast.specs.declared.declaration.Set.{Set}
use Rattle.nddl_ast.specs.declared.declaration.Set.TheVariants as sets
use Rattle.nddl_ast.specs.declared.expression.Expr.{Expr}
use Rattle.nddl_ast.specs.declared.kind.TextKind.TheVariants as faults
use Rattle.nddl_symbols.specs.declared.fault.Fault.{Fault}
use Rattle.nddl_symbols.specs.declared.scope.Meaning.TheVariants as meanings
use Rattle.nddl_symbols.specs.Finding.{faults_here}
use Rattle.nddl_symbols.specs.Scope.{fault_if, named_number}
use Rattle.nddl_typeexpr.specs.declared.kind.TypeKind.{TypeKind}
use Rattle.nddl_hierarchy.specs.Ancestors.{above}
use Rattle.nddl_hierarchy.specs.Facts.{Facts}
use Rattle.nddl_resolve.specs.declared.denoted.Denoted.{Denoted}
use Rattle.nddl_resolve.specs.declared.denoted.Denoted.TheVariants as denoted
use Rattle.nddl_resolve.specs.Fields.{class_field}
use Rattle.nddl_resolve.specs.Paths.{Surroundings}
use Rattle.nddl_constructors.specs.Constants.{constants_faults}
use Rattle.nddl_constructors.specs.Creations.{set_to_faults, meaning_wants}
use Rattle.nddl_constructors.specs.Formals.{around_formals, formal_seen}

-- ---- fields

-- what the field of this name is, of the class of this number or of one that it extends
abbrev pub field_in_line : Facts → ℕ → List ℕ → Option Denoted
field_in_line facts entry name = class_field facts true name (meanings.Entry entry)

-- of which kind the values of a field are, if it is known
abbrev pub field_kind : Option Denoted → Option TypeKind
field_kind (Some (denoted.Value kind constant)) = Some kind
field_kind field = None

-- ---- bodies

-- all that is wrong with what is handed to what the class extends
abbrev pub super_faults : Facts → Surroundings → ℕ → ℕ → List Expr → List Fault
super_faults facts around decl entry arguments =
    constants_faults facts around decl (meaning_wants facts (above facts.names facts.program entry)) 0 arguments

-- All that is wrong with a part of a constructor's body. Left of `=` stands a field. Whether all fields are set, and
-- `super` is where it should be, is another matter.
abbrev pub set_faults_in : Facts → Surroundings → ℕ → ℕ → Set → List Fault
set_faults_in facts around decl entry (sets.Field name value) =
    let field = field_in_line facts entry name.text in
    faults_here decl name.at (fault_if (is_none field) faults.Unknown)
    ++ set_to_faults facts around decl (field_kind field) value
set_faults_in facts around decl entry (sets.Super at arguments) = super_faults facts around decl entry arguments

abbrev pub sets_faults : Facts → Surroundings → ℕ → ℕ → List Set → List Fault
sets_faults facts around decl entry body = flat_map (set_faults_in facts around decl entry) body

-- all that is wrong with a member as a constructor of the class of this number
unfoldable pub body_faults : Facts → ℕ → ℕ → Member → List Fault
body_faults facts decl entry (members.Constructor name formals body) =
    sets_faults facts (around_formals (map (formal_seen facts) formals)) decl entry body
body_faults facts decl entry member = []

-- all that is wrong with the constructors of a class
abbrev pub bodies_faults : Facts → ℕ → ℕ → List Member → List Fault
bodies_faults facts decl entry some = flat_map (body_faults facts decl entry) some

-- the same, of the class of this name
abbrev pub named_bodies_faults : Facts → ℕ → List ℕ → List Member → List Fault
named_bodies_faults facts decl name some =
    option_map_or (λ entry. bodies_faults facts decl entry some) (named_number false facts.names name) []
