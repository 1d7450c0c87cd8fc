use Rattle.std.proofs.Common.{◌≡◌, ◌++◌, drop}
use Rattle.nddl_unroll.specs.Weighing.{weighed_trees}
use Rattle.nddl_unroll.proofs.weighing.weigh.Given as goal

-- the rules so far and those of the texts that are left are all
abbrev pub invariant-loop-tree : goal.invariant-loop-tree
invariant-loop-tree l =
    l.rules.items ++ weighed_trees l.lexicon (drop l.tree-index l.trees) ≡ weighed_trees l.lexicon l.trees
