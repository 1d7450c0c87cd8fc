-- What is wrong with decisions and with `close` as they are written.
use Rattle.std.specs.Prelude.{ℕ, Bool, true, false, List, [], ◌∷◌, ◌++◌, codes, Option, Some, None, Ok, Err}
use Rattle.std.specs.Prelude.{slice_get, if◌then◌else◌}
use Rattle.std.specs.Map.{lookup}
use Rattle.std.specs.Option.{option_map_or}
use Rattle.std.specs.Str.{bytes_eq}
use Rattle.nddl_ast.specs.declared.kind.TextKind.{TextKind}
use Rattle.nddl_ast.specs.declared.kind.TextKind.TheVariants as faults
use Rattle.nddl_ast.specs.declared.expression.Expr.{Expr}
use Rattle.nddl_ast.specs.declared.expression.Expr.TheVariants as exprs
use Rattle.nddl_ast.specs.declared.name.Name.{Name}
use Rattle.nddl_ast.specs.declared.name.Path.{Path}
use Rattle.nddl_symbols.specs.declared.declared.Declared.{Declared}
use Rattle.nddl_symbols.specs.declared.fault.Fault.{Fault}
use Rattle.nddl_symbols.specs.declared.scope.Meaning.{Meaning}
use Rattle.nddl_symbols.specs.declared.scope.Meaning.TheVariants as meanings
use Rattle.nddl_symbols.specs.Finding.{faults_here}
use Rattle.nddl_symbols.specs.Scope.{meaning_of}
use Rattle.nddl_symbols.specs.Names.{is_root_sort}
use Rattle.nddl_typeexpr.specs.declared.kind.TypeKind.{TypeKind}
use Rattle.nddl_hierarchy.specs.Facts.{Facts}
use Rattle.nddl_resolve.specs.declared.denoted.Denoted.{Denoted}
use Rattle.nddl_resolve.specs.declared.denoted.Denoted.TheVariants as denoted
use Rattle.nddl_resolve.specs.Paths.{Surroundings, path_denoted}
use Rattle.nddl_resolve.specs.Following.{Understood, or_faulty}
use Rattle.nddl_rule_check.specs.Calls.{no_act_faults}
use Rattle.nddl_rule_check.specs.Slots.{unwanted_faults}
use Rattle.nddl_rule_check.specs.Values.{kind_of_value}
use Rattle.nddl_constructors.specs.Constants.{value_faults}
use Rattle.nddl_constructors.specs.Formals.{around_formals}
use Rattle.nddl_problem_check.specs.declared.acts.Act.{Act}
use Rattle.nddl_problem_check.specs.declared.acts.Act.TheVariants as acts
use Rattle.nddl_problem_check.specs.declared.acts.WrittenAct.{WrittenAct}

-- outside of rules and constructors nothing but the files gives names
abbrev pub nothing_around : Surroundings
nothing_around = around_formals []

-- what a path means there
abbrev pub file_path_denoted : Facts → Path → Understood
file_path_denoted facts path = path_denoted facts nothing_around path

-- ---- words

abbrev pub act_words : List (List ℕ × Act)
act_words =
    (codes "specify", acts.Specify) ∷ (codes "activate", acts.Activate) ∷ (codes "reject", acts.Reject)
    ∷ (codes "merge", acts.Merge) ∷ (codes "close", acts.Close) ∷ []

-- the act of this name
unfoldable pub act_named : List ℕ → Option Act
act_named name = lookup (λ word. bytes_eq name word) act_words

-- ---- what stands before an act

-- the path before the act
abbrev pub path_of_act : WrittenAct → Path
path_of_act written = record { first = written.name.now; rest = written.names.now }

-- what is wrong with what has to be a variable
abbrev pub variable_kind_fault : Denoted → Option TextKind
variable_kind_fault (denoted.Value kind true) = Some faults.WrongType
variable_kind_fault (denoted.Value kind false) = None
variable_kind_fault (denoted.Token token) = Some faults.WrongType
variable_kind_fault (denoted.Class class) = Some faults.WrongType
variable_kind_fault denoted.Faulty = None

-- what is wrong with what has to be a class
abbrev pub class_kind_fault : Denoted → Option TextKind
class_kind_fault (denoted.Class class) = None
class_kind_fault denoted.Faulty = None
class_kind_fault other = Some faults.WrongType

-- the same of what is understood of a path that begins there, or what is wrong with that
abbrev pub specified_faults : ℕ → ℕ → Understood → List Fault
specified_faults decl at (Ok meant) = faults_here decl at (variable_kind_fault meant)
specified_faults decl at (Err fault) = faults_here decl fault.at (Some fault.kind)

abbrev pub closing_faults : ℕ → ℕ → Understood → List Fault
closing_faults decl at (Ok meant) = faults_here decl at (class_kind_fault meant)
closing_faults decl at (Err fault) = faults_here decl fault.at (Some fault.kind)

-- ---- labels of posted tokens

-- the name means a posted token
abbrev pub is_label_meaning : List Declared → Option Meaning → Bool
is_label_meaning names (Some (meanings.Entry entry)) =
    option_map_or (λ declared. is_root_sort declared.sort) (slice_get names entry) false
is_label_meaning names meaning = false

abbrev pub is_alone_label : List Declared → Path → List Name → Bool
is_alone_label names path [] = is_label_meaning names (meaning_of names path.first.text)
is_alone_label names path (name ∷ more) = false

-- what is wrong with a path that has to be the label of a posted token
abbrev pub root_label_faults : Facts → ℕ → Path → List Fault
root_label_faults facts decl path =
    if is_alone_label facts.names path path.rest then []
    else unwanted_faults decl path.first.at (file_path_denoted facts path)

-- the same of an argument
abbrev pub root_argument_faults : Facts → ℕ → Expr → List Fault
root_argument_faults facts decl (exprs.Path path) = root_label_faults facts decl path
root_argument_faults facts decl (exprs.Literal literal) = faults_here decl literal.at (Some faults.WrongType)

-- ---- arguments

-- what is wrong with the arguments of what has none, whose name stands there
abbrev pub none_taken_faults : ℕ → ℕ → List Expr → List Fault
none_taken_faults decl at [] = []
none_taken_faults decl at (expr ∷ more) = faults_here decl at (Some faults.WrongCount)

-- what is wrong with the value of which a variable of this kind is decided
abbrev pub decided_faults : Facts → ℕ → ℕ → Option TypeKind → List Expr → List Fault
decided_faults facts decl at kind (expr ∷ []) = value_faults facts nothing_around decl kind expr
decided_faults facts decl at kind exprs = faults_here decl at (Some faults.WrongCount)

-- what is wrong with the token into which another is merged
abbrev pub merged_faults : Facts → ℕ → ℕ → List Expr → List Fault
merged_faults facts decl at (expr ∷ []) = root_argument_faults facts decl expr
merged_faults facts decl at exprs = faults_here decl at (Some faults.WrongCount)

-- ---- acts

-- what is wrong with a `specify`: a variable stands before it, and a constant of its kind is its value
abbrev pub specify_faults : Facts → ℕ → Path → Name → List Expr → List Fault
specify_faults facts decl front name exprs =
    let found = file_path_denoted facts front in
    specified_faults decl front.first.at found
    ++ decided_faults facts decl name.at (kind_of_value (or_faulty found)) exprs

-- what is wrong with an act on what stands before it
abbrev pub one_act_faults : Facts → ℕ → Path → Name → List Expr → Act → List Fault
one_act_faults facts decl front name exprs acts.Specify = specify_faults facts decl front name exprs
one_act_faults facts decl front name exprs acts.Activate =
    root_label_faults facts decl front ++ none_taken_faults decl name.at exprs
one_act_faults facts decl front name exprs acts.Reject =
    root_label_faults facts decl front ++ none_taken_faults decl name.at exprs
one_act_faults facts decl front name exprs acts.Merge =
    root_label_faults facts decl front ++ merged_faults facts decl name.at exprs
one_act_faults facts decl front name exprs acts.Close =
    closing_faults decl front.first.at (file_path_denoted facts front) ++ none_taken_faults decl name.at exprs

-- the same of an act by its name, which may not be there
abbrev pub act_faults : Facts → ℕ → Path → Name → List Expr → List Fault
act_faults facts decl front name exprs =
    option_map_or (one_act_faults facts decl front name exprs) (act_named name.text)
    (no_act_faults decl name (file_path_denoted facts front))
