use Rattle.std.proofs.Common.{◌≡◌, ◌++◌, drop}
use Rattle.nddl_unroll.specs.Rules.{tree_rules}
use Rattle.nddl_unroll.proofs.rules.unroll.Given as goal

-- the rules so far and those of the texts that are left are all
abbrev pub invariant-loop-tree : goal.invariant-loop-tree
invariant-loop-tree l =
    l.rules.items ++ tree_rules l.lexicon l.objects (drop l.tree-index l.trees) ≡ tree_rules l.lexicon l.objects l.trees
