use Rattle.std.proofs.Common.{[]}
use Rattle.nddl_terms.specs.Growth.{no_growth}
use Rattle.nddl_unroll.specs.Blocks.{unrolled}
use Rattle.nddl_unroll.specs.Rules.{tree_readings}
use Rattle.nddl_unroll.proofs.Steps.{rule_known}
use Rattle.nddl_unroll.proofs.rules.unroll_tree.Goals as goal

pub returns : goal.returns
returns c =
    rule_known (unrolled (tree_readings c.args.lexicon.now c.args.objects.now c.args.tree.now) [] c.args.tree.now.body) no_growth
    c.new-growth.result c.fill-done.new.growth c.fill-done.result c.rule_behind.result c.new-growth.ensures c.rule_behind.ensures
    c.fill-done.ensures
