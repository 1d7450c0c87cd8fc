use Rattle.std.proofs.Common.{◌≡◌, ◌++◌, drop}
use Rattle.nddl_rules.specs.Collected.{texts_of, trees_from}
use Rattle.nddl_rules.proofs.trees.push_all_trees.Given as goal

-- the trees so far and those of the predicates that are left are all
abbrev pub invariant-loop-number : goal.invariant-loop-number
invariant-loop-number l =
    l.trees ++ trees_from (texts_of l.texts) l.above l.written l.number (drop l.number l.preds)
    ≡ l.initial.trees ++ trees_from (texts_of l.texts) l.above l.written 0 l.preds
