-- Constraints and relations as they are written in rules and in predicates.
use Rattle.std.specs.Prelude.{ℕ, List, Some, Ok, Err, is_some, if◌then◌else◌}
use Rattle.std.specs.Option.{option_map_or}
use Rattle.nddl_ast.specs.declared.kind.TextKind.TheVariants as faults
use Rattle.nddl_ast.specs.declared.expression.Expr.{Expr}
use Rattle.nddl_ast.specs.declared.name.Name.{Name}
use Rattle.nddl_ast.specs.declared.statement.Call.{Call}
use Rattle.nddl_symbols.specs.declared.fault.Fault.{Fault}
use Rattle.nddl_symbols.specs.Finding.{faults_here}
use Rattle.nddl_ast.specs.Path.{last_name, path_before}
use Rattle.nddl_hierarchy.specs.Facts.{Facts}
use Rattle.nddl_resolve.specs.Paths.{Surroundings, path_denoted}
use Rattle.nddl_resolve.specs.Following.{Understood}
use Rattle.nddl_rule_check.specs.Arguments.{constraint_faults}
use Rattle.nddl_rule_check.specs.Constraints.{constraint_named, relation_named}
use Rattle.nddl_rule_check.specs.Slots.{relation_faults}

-- ---- acts, which no rule has

-- what is wrong behind what stands before an act: what is wrong with that, or the act, which isn't there
abbrev pub no_act_faults : ℕ → Name → Understood → List Fault
no_act_faults decl act (Ok meant) = faults_here decl act.at (Some faults.Unknown)
no_act_faults decl act (Err fault) = faults_here decl fault.at (Some fault.kind)

-- ---- calls

-- what is wrong with a constraint of this name, or with the name
abbrev pub constraint_call_faults : Facts → Surroundings → ℕ → Name → List Expr → List Fault
constraint_call_faults facts around decl name exprs =
    option_map_or (λ kind. constraint_faults facts around decl kind name.at exprs) (constraint_named name.text)
    (faults_here decl name.at (Some faults.Unknown))

-- the same, where a relation may stand too
abbrev pub named_call_faults : Facts → Surroundings → ℕ → Name → List Expr → List Fault
named_call_faults facts around decl name exprs =
    if is_some (relation_named name.text) then relation_faults facts around decl name.at exprs
    else constraint_call_faults facts around decl name exprs

-- What is wrong with a call in a rule: with a relation or a constraint, which have one name, or that it is an act.
abbrev pub rule_call_faults : Facts → Surroundings → ℕ → Call → List Fault
rule_call_faults facts around decl call =
    option_map_or (λ front. no_act_faults decl (last_name call.path) (path_denoted facts around front)) (path_before call.path)
    (named_call_faults facts around decl call.path.first call.arguments)

-- what is wrong with a call in the body of a predicate, which has no relations
abbrev pub body_call_faults : Facts → Surroundings → ℕ → Call → List Fault
body_call_faults facts around decl call =
    option_map_or (λ front. no_act_faults decl (last_name call.path) (path_denoted facts around front)) (path_before call.path)
    (constraint_call_faults facts around decl call.path.first call.arguments)
