use Rattle.std.proofs.Common.{◌≡◌, ◌++◌, drop, map}
use Rattle.eu_forest.specs.Members.{is_owner}
use Rattle.eu_forest.proofs.marks.own_marked.Given as goal

-- those so far and those that are left are all
abbrev pub invariant-loop-owner : goal.invariant-loop-owner
invariant-loop-owner l = l.marks ++ map (is_owner l.thing) (drop l.owner-index l.owners) ≡ map (is_owner l.thing) l.owners
