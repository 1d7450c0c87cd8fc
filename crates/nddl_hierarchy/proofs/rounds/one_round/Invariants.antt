use Rattle.std.proofs.Common.{◌-◌, length}
use Rattle.eu_forest.specs.Ancestors.{ancestry}
use Rattle.nddl_hierarchy.proofs.Circling.{IsSoFar}
use Rattle.nddl_hierarchy.proofs.rounds.one_round.Given as goal

-- the line so far and what it goes on with
abbrev pub invariant-loop : goal.invariant-loop
invariant-loop l =
    IsSoFar l.parents (length l.parents - l.counter) (ancestry l.parents l.number) l.line.items l.first l.next
