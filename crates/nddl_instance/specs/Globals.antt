-- The global variables that a program declares.
use Rattle.std.specs.Prelude.{ℤ, List, [], ◌∷◌, Option, Some, None, if◌then◌else◌}
use Rattle.std.specs.List.{filter_map}
use Rattle.std.specs.Option.{option_map}
use Rattle.domain_core.specs.Domain.{Domain, Range, Set}
use Rattle.model_core.specs.declared.variable.Base.{Base}
use Rattle.model_core.specs.declared.variable.Base.TheVariants.{Given}
use Rattle.model_core.specs.declared.variable.VarDecl.{VarDecl}
use Rattle.nddl_ast.specs.declared.declaration.Decl.{Decl}
use Rattle.nddl_ast.specs.declared.declaration.Decl.TheVariants as decls
use Rattle.nddl_ast.specs.declared.expression.Expr.{Expr}
use Rattle.nddl_ast.specs.declared.expression.Init.{Init}
use Rattle.nddl_ast.specs.declared.expression.Init.TheVariants as inits
use Rattle.nddl_ast.specs.declared.statement.Variable.{Variable}
use Rattle.nddl_symbols.specs.Names.{sort_of_variable, is_global_sort}
use Rattle.nddl_typeexpr.specs.declared.kind.Extent.{Extent}
use Rattle.nddl_typeexpr.specs.declared.kind.TypeKind.{TypeKind}
use Rattle.nddl_typeexpr.specs.declared.kind.TypeMeaning.{TypeMeaning}
use Rattle.nddl_typeexpr.specs.Kinds.{is_ranged}
use Rattle.nddl_declarations.specs.Known.{fine_meaning}
use Rattle.nddl_declarations.specs.Domains.{value_kind}
use Rattle.nddl_construction.specs.Reading.{fine_datum}
use Rattle.nddl_construction.specs.Scene.{Grounds}
use Rattle.nddl_objects.specs.Modelled.{datum_value}
use Rattle.nddl_objects.specs.Objects.{bare_scene}
use Rattle.nddl_env.specs.Shapes.{World, kind_base}

-- what is known where the value is read as which a global begins: each object can be named
abbrev pub world_grounds : World → Grounds
world_grounds world = record { facts = world.facts; named_objects = world.named_objects }

-- the value as which a global of this kind begins
abbrev pub begun_value : World → TypeKind → Expr → ℤ
begun_value world kind expr =
    datum_value world.facts.names (fine_datum (world_grounds world) (bare_scene 0) world.objects (Some kind) expr)

-- a domain of one value: a range if the values of the type are one, else a set
abbrev pub single_domain : TypeKind → Extent → ℤ → Domain
single_domain kind extent value = if is_ranged kind extent then Range value value else Set (value ∷ [])

-- what a global may be: the value as which it begins, whether it is one of its type or not, or else each of its type
abbrev pub begun_base : World → TypeMeaning → Option Init → Base
begun_base world meaning (Some (inits.Expr expr)) =
    Given (single_domain meaning.kind meaning.extent (begun_value world meaning.kind expr))
begun_base world meaning init = kind_base world meaning.kind meaning.extent

-- the global that is declared with a type that means this
abbrev pub global_with : World → Variable → TypeMeaning → VarDecl
global_with world variable meaning = record {
  name = variable.name.text;
  kind = value_kind meaning.kind;
  base = begun_base world meaning variable.init;
}

-- the same, if nothing is wrong with its type
abbrev pub typed_global : World → Variable → Option VarDecl
typed_global world variable = option_map (global_with world variable) (fine_meaning world.facts variable.declared)

-- the global that a declaration declares
abbrev pub declared_global : World → Decl → Option VarDecl
declared_global world (decls.Variable variable) =
    if is_global_sort (sort_of_variable variable) then typed_global world variable else None
declared_global world decl = None

-- The globals that are declared, in order of text.
abbrev pub declared_globals : World → List Decl → List VarDecl
declared_globals world program = filter_map (declared_global world) program
