-- What is wrong with members of classes.
use Rattle.std.specs.Prelude.{ℕ, Bool, ◌||◌, not, nat_lt, List, [], ◌∷◌, ◌++◌, Option, Some, None, map, length}
use Rattle.std.specs.List.{filter_map, flat_map}
use Rattle.std.specs.Str.{bytes_eq}
use Rattle.model_core.specs.Naming.{token_part_words}
use Rattle.nddl_ast.specs.declared.declaration.Member.{Member}
use Rattle.nddl_ast.specs.declared.declaration.Member.TheVariants as members
use Rattle.nddl_ast.specs.declared.declaration.PredicatePart.{PredicatePart}
use Rattle.nddl_ast.specs.declared.declaration.PredicatePart.TheVariants as parts
use Rattle.nddl_ast.specs.declared.declaration.Typed.{Typed}
use Rattle.nddl_ast.specs.declared.kind.TextKind.TheVariants as faults
use Rattle.nddl_ast.specs.declared.name.Name.{Name}
use Rattle.nddl_symbols.specs.declared.fault.Fault.{Fault}
use Rattle.nddl_symbols.specs.Finding.{faults_here}
use Rattle.nddl_symbols.specs.Repeats.{repeated_faults}
use Rattle.nddl_symbols.specs.Scope.{fault_if}
use Rattle.nddl_hierarchy.specs.Facts.{Facts}
use Rattle.nddl_declarations.specs.Known.{all_type_faults}
use Rattle.nddl_hierarchy.specs.Inherited.{words_noted}
use Rattle.nddl_hierarchy.specs.Shorter.{is_constructor}

-- what is wrong with the types of these
abbrev pub typed_faults : Facts → ℕ → List Typed → List Fault
typed_faults facts decl some = flat_map (λ typed. all_type_faults facts decl typed.declared) some

abbrev pub typed_names : List Typed → List Name
typed_names some = map (λ typed. typed.name) some

-- the parameters of a predicate
abbrev pub parameter_of : PredicatePart → Option Typed
parameter_of (parts.Parameter typed) = Some typed
parameter_of (parts.Constraint call) = None

abbrev pub parameters_of : List PredicatePart → List Typed
parameters_of some = filter_map parameter_of some

-- What is wrong with a predicate: with the types of its parameters, with their names, of which none is that of a part that
-- each token has, and with their number.
abbrev pub predicate_faults : Facts → ℕ → Name → List Typed → List Fault
predicate_faults facts decl name parameters =
    typed_faults facts decl parameters
    ++ (repeated_faults decl (words_noted [] token_part_words) (typed_names parameters)
    ++ faults_here decl name.at (fault_if (nat_lt 32 (length parameters)) faults.LimitParameters))

-- what is wrong with the formals of a constructor
abbrev pub formals_faults : Facts → ℕ → List Typed → List Fault
formals_faults facts decl formals =
    typed_faults facts decl formals ++ repeated_faults decl [] (typed_names formals)

-- what is wrong inside a member
abbrev pub member_faults : Facts → ℕ → Member → List Fault
member_faults facts decl (members.Field typed) = all_type_faults facts decl typed.declared
member_faults facts decl (members.Predicate at name parts) = predicate_faults facts decl name (parameters_of parts)
member_faults facts decl (members.Constructor name formals sets) = formals_faults facts decl formals

-- what is wrong with a member as a constructor of a class, where there is one before it or not
abbrev pub constructor_fault : ℕ → Name → Bool → Member → List Fault
constructor_fault decl class seen (members.Constructor name formals sets) =
    faults_here decl name.at (fault_if seen faults.Twice)
    ++ faults_here decl name.at (fault_if (not (bytes_eq name.text class.text)) faults.WrongType)
constructor_fault decl class seen member = []

abbrev pub constructors_faults : ℕ → Name → Bool → List Member → List Fault
constructors_faults decl class seen [] = []
constructors_faults decl class seen (member ∷ more) =
    constructor_fault decl class seen member ++ constructors_faults decl class (seen || is_constructor member) more
