use Rattle.std.proofs.Common.{◌≡◌, ◌+◌, ◌-◌, suc, true, ◌∙◌, arith}
use Rattle.nddl_grammar.specs.Readers.{begins}
use Rattle.nddl_grammar.proofs.Walking.{onward_start, onward_step}
use Rattle.nddl_grammar.proofs.list.many.Goals as goal

pub loop-turn-init : goal.loop-turn-init
loop-turn-init g c =
    let some : c.len-turn-end.result - 0 ≡ c.len-turn-end.result = omega arith in
    rw c.new-items.ensures (onward_start g.T.Item.first g.T.Item.reader (c.len-turn-end.result - 0) c.args.cursor.now (some ∙ c.len-turn-end.ensures))

pub loop-turn-preserved : goal.loop-turn-preserved
loop-turn-preserved g c =
    let one : c.len-turn-end.result - c.loop-turn.turn ≡ suc (c.len-turn-end.result - (c.loop-turn.turn + 1)) = omega arith in
    let starts : begins g.T.Item.first c.loop-turn.cursor ≡ true = cc in
    onward_step _ _ _ _ _ _ _ _ c.in_ok-item.item _ c.loop-turn.invariant one starts c.in_ok-item.ensures c.in_ok-push.ensures.ok
