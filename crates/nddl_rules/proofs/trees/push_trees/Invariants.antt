use Rattle.std.proofs.Common.{◌≡◌, ◌++◌, drop}
use Rattle.std.specs.List.{flat_map}
use Rattle.nddl_rules.specs.Collected.{texts_of, tree_at}
use Rattle.nddl_rules.proofs.trees.push_trees.Given as goal

-- the trees so far and those of the places that are left are all
abbrev pub invariant-loop-place : goal.invariant-loop-place
invariant-loop-place l =
    l.trees ++ flat_map (tree_at (texts_of l.texts) l.number l.pred) (drop l.place-index l.places)
    ≡ l.initial.trees ++ flat_map (tree_at (texts_of l.texts) l.number l.pred) l.places
