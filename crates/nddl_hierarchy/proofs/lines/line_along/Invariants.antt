use Rattle.std.proofs.Common.{◌≡◌, ◌++◌, ◌-◌, length}
use Rattle.eu_forest.specs.Ancestors.{line_from, ancestry}
use Rattle.nddl_hierarchy.proofs.lines.line_along.Given as goal

-- the line so far and what it goes on with are all
abbrev pub invariant-loop : goal.invariant-loop
invariant-loop l =
    l.line.items ++ line_from (length l.parents - l.counter) l.parents l.next ≡ ancestry l.parents l.number
