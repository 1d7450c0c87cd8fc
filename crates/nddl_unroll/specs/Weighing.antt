-- The rules of texts with how much they have.
use Rattle.std.specs.Prelude.{List, map}
use Rattle.nddl_symbols.specs.declared.fault.Fault.{Fault}
use Rattle.nddl_terms.specs.PlainTree.{PlainTree}
use Rattle.nddl_terms.specs.declared.lexicon.Lexicon.{Lexicon}
use Rattle.nddl_unroll.specs.declared.limits.Weighed.{Weighed}
use Rattle.nddl_unroll.specs.Counting.{tree_amounts}
use Rattle.nddl_unroll.specs.Limits.{limits_passed, no_rules}

-- the rule of this text, where it is and how much it has
abbrev pub weighed_tree : Lexicon → PlainTree → Weighed
weighed_tree lexicon tree = record { pred = tree.pred; place = tree.place; amounts = tree_amounts lexicon tree }

-- the rules of these texts
abbrev pub weighed_trees : Lexicon → List PlainTree → List Weighed
weighed_trees lexicon trees = map (weighed_tree lexicon) trees

-- all limits that the rules of these texts pass, which go by predicate
abbrev pub tree_limits : Lexicon → List PlainTree → List Fault
tree_limits lexicon trees = limits_passed 0 no_rules (weighed_trees lexicon trees)
