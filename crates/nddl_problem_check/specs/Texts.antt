-- What is wrong with the text of a problem: its constraints, posted tokens, globals and decisions as they are written.
use Rattle.std.specs.Prelude.{ℕ, ◌+◌, List, [], ◌∷◌, ◌++◌, codes, Option, Some, if◌then◌else◌}
use Rattle.std.specs.Option.{option_map_or}
use Rattle.std.specs.Str.{bytes_eq}
use Rattle.nddl_ast.specs.declared.declaration.Decl.{Decl}
use Rattle.nddl_ast.specs.declared.declaration.Decl.TheVariants as decls
use Rattle.nddl_ast.specs.declared.expression.Expr.{Expr}
use Rattle.nddl_ast.specs.declared.expression.Init.{Init}
use Rattle.nddl_ast.specs.declared.expression.Init.TheVariants as inits
use Rattle.nddl_ast.specs.declared.name.Name.{Name}
use Rattle.nddl_ast.specs.declared.statement.Call.{Call}
use Rattle.nddl_ast.specs.declared.statement.Variable.{Variable}
use Rattle.nddl_symbols.specs.declared.fault.Fault.{Fault}
use Rattle.nddl_ast.specs.Path.{last_name, path_before}
use Rattle.nddl_typeexpr.specs.Bases.{base_kind}
use Rattle.nddl_hierarchy.specs.Facts.{Facts}
use Rattle.nddl_rule_check.specs.Calls.{constraint_call_faults}
use Rattle.nddl_constructors.specs.Constants.{value_faults}
use Rattle.nddl_problem_check.specs.Acts.{act_faults, none_taken_faults, nothing_around}
use Rattle.nddl_problem_check.specs.Posted.{posting_faults}

-- what is wrong with a call of one name: a constraint, or that the making of objects ends here
abbrev pub lone_call_faults : Facts → ℕ → Name → List Expr → List Fault
lone_call_faults facts decl name exprs =
    if bytes_eq name.text (codes "close") then none_taken_faults decl name.at exprs
    else constraint_call_faults facts nothing_around decl name exprs

-- what is wrong with a call: with an act, or with what has one name
abbrev pub problem_call_faults : Facts → ℕ → Call → List Fault
problem_call_faults facts decl call =
    option_map_or (λ front. act_faults facts decl front (last_name call.path) call.arguments) (path_before call.path)
    (lone_call_faults facts decl call.path.first call.arguments)

-- what is wrong with the value with which a variable begins: it is a constant of its kind; what `new` makes is another matter
abbrev pub begun_faults : Facts → ℕ → Variable → Option Init → List Fault
begun_faults facts decl variable (Some (inits.Expr expr)) =
    value_faults facts nothing_around decl (base_kind facts.names facts.known variable.declared.base) expr
begun_faults facts decl variable init = []

-- what is wrong with the text of the problem in the declaration of this number
abbrev pub problem_decl_faults : Facts → ℕ → Decl → List Fault
problem_decl_faults facts decl (decls.Variable variable) = begun_faults facts decl variable variable.init
problem_decl_faults facts decl (decls.Call call) = problem_call_faults facts decl call
problem_decl_faults facts decl (decls.Ask ask) = posting_faults facts decl ask
problem_decl_faults facts decl other = []

abbrev pub problem_faults_from : Facts → ℕ → List Decl → List Fault
problem_faults_from facts number [] = []
problem_faults_from facts number (decl ∷ more) =
    problem_decl_faults facts number decl ++ problem_faults_from facts (number + 1) more

-- all that is wrong with the text of the problem
abbrev pub problem_text_faults : Facts → List Fault
problem_text_faults facts = problem_faults_from facts 0 facts.program
