use Rattle.std.proofs.Common.{◌≡◌, drop}
use Rattle.std.specs.List.{list_any}
use Rattle.nddl_problem_check.specs.Fitness.{is_void_base}
use Rattle.nddl_problem_check.proofs.fitness.has_void.Given as goal

-- one of those that are left has nothing where one of all has
abbrev pub invariant-loop-param : goal.invariant-loop-param
invariant-loop-param l =
    list_any (λ param. is_void_base param.shape.base) (drop l.param-index l.params)
    ≡ list_any (λ param. is_void_base param.shape.base) l.params
