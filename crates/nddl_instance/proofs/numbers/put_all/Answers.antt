use Rattle.nddl_instance.specs.Putting.{with_rule_numbers}
use Rattle.nddl_instance.proofs.Putting.{put_end, put_step}
use Rattle.nddl_instance.proofs.numbers.put_all.Goals as goal

pub loop-number-preserved : goal.loop-number-preserved
loop-number-preserved c =
    put_step c.args.trees.now c.loop-number.number _ c.loop-number.lists.items c.put_tree.new.lists.items
    (with_rule_numbers 0 0 c.args.trees.now c.args.lists.now.items) c.loop-number-test.true c.index-trees-number.is
    c.in_ok-put_tree.ensures c.loop-number.invariant

pub returns : goal.returns
returns c =
    put_end c.args.trees.now c.loop-number.number c.loop-number.lists.items
    (with_rule_numbers 0 0 c.args.trees.now c.args.lists.now.items) c.loop-number-test.false c.loop-number.invariant
