-- The names that are read in the text of a rule, but for those in blocks.
use Rattle.std.specs.Prelude.{ℕ, List, [], ◌∷◌, ◌++◌, Option, Some, None, codes, if◌then◌else◌}
use Rattle.std.specs.List.{flat_map, position_from}
use Rattle.std.specs.Option.{option_map, option_or}
use Rattle.std.specs.Str.{bytes_eq}
use Rattle.eu_name.specs.declared.name.Part.{Part}
use Rattle.eu_name.specs.declared.name.Part.TheVariants as parts
use Rattle.model_core.specs.declared.variable.VarDecl.{VarDecl}
use Rattle.nddl_ast.specs.declared.expression.BaseType.{BaseType}
use Rattle.nddl_ast.specs.declared.expression.BaseType.TheVariants as bases
use Rattle.nddl_ast.specs.declared.expression.Bounds.{Bounds}
use Rattle.nddl_ast.specs.declared.expression.Bounds.TheVariants as bounds
use Rattle.nddl_ast.specs.declared.expression.Expr.{Expr}
use Rattle.nddl_ast.specs.declared.expression.Expr.TheVariants as exprs
use Rattle.nddl_ast.specs.declared.expression.Init.{Init}
use Rattle.nddl_ast.specs.declared.expression.Init.TheVariants as inits
use Rattle.nddl_ast.specs.declared.expression.Type as types
use Rattle.nddl_ast.specs.declared.expression.Value.{Value}
use Rattle.nddl_ast.specs.declared.expression.Value.TheVariants as values
use Rattle.nddl_ast.specs.declared.name.Name.{Name}
use Rattle.nddl_ast.specs.declared.name.Path.{Path}
use Rattle.nddl_ast.specs.declared.statement.Call.{Call}
use Rattle.nddl_ast.specs.declared.statement.Condition.{Condition}
use Rattle.nddl_ast.specs.declared.statement.Condition.TheVariants as conditions
use Rattle.nddl_ast.specs.declared.statement.Variable.{Variable}
use Rattle.eu_index.specs.Index.{Noted, noted_number}
use Rattle.nddl_symbols.specs.Scope.{builtin_number}
use Rattle.nddl_terms.specs.declared.tree.Meaning.{Meaning}
use Rattle.nddl_terms.specs.declared.tree.Meaning.TheVariants as meanings
use Rattle.nddl_terms.specs.declared.tree.ReadName.{ReadName}
use Rattle.nddl_rules.specs.declared.sources.NameSources as code
use Rattle.eu_index.specs.Hiding.{last_meaning}
use Rattle.nddl_rules.specs.Sight.{Sight}

-- where names come from that the text of a rule doesn't declare: the scope of the files, with the place of each name in it,
-- and the parameters of the predicate
pub record NameSources : Type 0 where
  pub scope : Noted
  pub params : List VarDecl

-- those that the code keeps
abbrev pub sources_of : code.NameSources → NameSources
sources_of sources = record { scope = sources.scope.now; params = sources.params.now }

-- ---- single names

-- a name at a byte that means this, if it means anything
abbrev pub read_at : ℕ → Option Meaning → List ReadName
read_at at None = []
read_at at (Some meaning) = record { at = at; meaning = meaning } ∷ []

-- what the name means as one of the files, or of the language's own classes
abbrev pub scope_meaning : Noted → List ℕ → Option Meaning
scope_meaning scope name =
    option_or (option_map meanings.BuiltIn (builtin_number name)) (option_map meanings.Scope (noted_number scope name))

-- what it means as a part of the token whose rule it is
abbrev pub own_part : List VarDecl → List ℕ → Option Part
own_part params name =
    if bytes_eq name (codes "start") then Some parts.Start
    else (if bytes_eq name (codes "end") then Some parts.End
    else (if bytes_eq name (codes "duration") then Some parts.Duration
    else (if bytes_eq name (codes "object") then Some parts.Object
    else option_map parts.Param (position_from (λ param. bytes_eq name param.name) 0 params))))

-- what it means by what the text declares: a variable of `foreach`, then a local, then a label
abbrev pub sight_meaning : Sight → List ℕ → Option Meaning
sight_meaning sight name =
    option_or (option_map meanings.Turn (last_meaning name sight.turns))
    (option_or (option_map meanings.Local (last_meaning name sight.locals))
    (option_map meanings.Slot (last_meaning name sight.labels)))

-- what it means at the front of a path: by what the text declares, then as a part of the token, then as one of the files
abbrev pub front_meaning : NameSources → Sight → List ℕ → Option Meaning
front_meaning sources sight name =
    option_or (sight_meaning sight name)
    (option_or (option_map meanings.Here (own_part sources.params name)) (scope_meaning sources.scope name))

-- a name that is looked up in the files alone
abbrev pub scope_read : Noted → Name → List ReadName
scope_read scope name = read_at name.at (scope_meaning scope name.text)

-- a name at the front of a path, or among the values of a type
abbrev pub front_read : NameSources → Sight → Name → List ReadName
front_read sources sight name = read_at name.at (front_meaning sources sight name.text)

-- ---- arguments

abbrev pub expr_read : NameSources → Sight → Expr → List ReadName
expr_read sources sight (exprs.Path path) = front_read sources sight path.first
expr_read sources sight (exprs.Literal literal) = []

abbrev pub exprs_read : NameSources → Sight → List Expr → List ReadName
exprs_read sources sight some = flat_map (expr_read sources sight) some

-- ---- types, which are names of the files, with values that are names like any other

abbrev pub base_read : Noted → BaseType → List ReadName
base_read scope (bases.Named name) = scope_read scope name
base_read scope base = []

abbrev pub value_read : NameSources → Sight → Value → List ReadName
value_read sources sight (values.Name name) = front_read sources sight name
value_read sources sight (values.Literal literal) = []

abbrev pub bounds_read : NameSources → Sight → Bounds → List ReadName
bounds_read sources sight bounds.All = []
bounds_read sources sight (bounds.Range at least greatest) = value_read sources sight least ++ value_read sources sight greatest
bounds_read sources sight (bounds.Set at some) = flat_map (value_read sources sight) some

abbrev pub type_read : NameSources → Sight → types.Type → List ReadName
type_read sources sight type = base_read sources.scope type.base ++ bounds_read sources sight type.bounds

-- ---- parts of statements

-- what a local begins as; no rule makes objects
abbrev pub init_read : NameSources → Sight → Option Init → List ReadName
init_read sources sight None = []
init_read sources sight (Some (inits.Expr expr)) = expr_read sources sight expr
init_read sources sight (Some (inits.New creation)) = []

-- a local, which isn't seen yet
abbrev pub local_read : NameSources → Sight → Variable → List ReadName
local_read sources sight variable = type_read sources sight variable.declared ++ init_read sources sight variable.init

-- the path of a relation with a label; a predicate alone isn't looked up
abbrev pub asked_read : NameSources → Sight → Name → List Name → List ReadName
asked_read sources sight first [] = []
asked_read sources sight first (name ∷ more) = front_read sources sight first

abbrev pub condition_read : NameSources → Sight → Condition → List ReadName
condition_read sources sight (conditions.Truth expr) = expr_read sources sight expr
condition_read sources sight (conditions.Equal one other) = expr_read sources sight one ++ expr_read sources sight other
condition_read sources sight (conditions.NotEqual one other) = expr_read sources sight one ++ expr_read sources sight other
