-- The variables that are declared with types.
use Rattle.std.specs.Prelude.{ℕ, ℤ, List, Option}
use Rattle.std.specs.List.{filter_map}
use Rattle.std.specs.Option.{option_map}
use Rattle.domain_core.specs.Domain.{Range}
use Rattle.model_core.specs.declared.class.Enum.{Enum}
use Rattle.model_core.specs.declared.variable.Base.TheVariants as bases
use Rattle.model_core.specs.declared.variable.ValueKind.TheVariants as values
use Rattle.model_core.specs.declared.variable.VarDecl.{VarDecl}
use Rattle.nddl_ast.specs.declared.declaration.Typed.{Typed}
use Rattle.nddl_typeexpr.specs.declared.kind.TypeMeaning.{TypeMeaning}
use Rattle.nddl_hierarchy.specs.Facts.{Facts}
use Rattle.nddl_declarations.specs.Known.{fine_meaning}
use Rattle.nddl_declarations.specs.Domains.{base_of, value_kind}

-- the variable of a name and of a type that means this
abbrev pub variable_with : Facts → List Enum → Typed → TypeMeaning → VarDecl
variable_with facts enums typed meaning =
    record {
      name = typed.name.text;
      kind = value_kind meaning.kind;
      base = base_of facts.names enums meaning.kind meaning.extent;
    }

-- the variable that is declared, if nothing is wrong with its type
abbrev pub declared_variable : Facts → List Enum → Typed → Option VarDecl
declared_variable facts enums typed = option_map (variable_with facts enums typed) (fine_meaning facts typed.declared)

-- the variables that are declared one after another
abbrev pub variables_of : Facts → List Enum → List Typed → List VarDecl
variables_of facts enums some = filter_map (declared_variable facts enums) some

-- a variable whose values are the numbers between two
abbrev pub number_variable : List ℕ → ℤ → ℤ → VarDecl
number_variable name least greatest =
    record { name = name; kind = values.Int; base = bases.Given (Range least greatest) }
