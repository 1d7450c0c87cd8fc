use Rattle.std.proofs.Common.{◌≡◌, ◌+◌, ◌-◌, suc, true, ◌∙◌, arith}
use Rattle.nddl_grammar.specs.Readers.{begins, is}
use Rattle.nddl_grammar.proofs.Walking.{onward_from, onward_step}
use Rattle.nddl_grammar.proofs.list.with_following.Goals as goal

pub loop-turn-init : goal.loop-turn-init
loop-turn-init g c =
    let some : c.len-turn-end.result - 0 ≡ c.len-turn-end.result = omega arith in
    onward_from _ _ _ _ _ (some ∙ c.len-turn-end.ensures)

pub loop-turn-preserved : goal.loop-turn-preserved
loop-turn-preserved g c =
    let one : c.len-turn-end.result - c.loop-turn.turn ≡ suc (c.len-turn-end.result - (c.loop-turn.turn + 1)) = omega arith in
    let starts : begins (is c.args.separator) c.loop-turn.cursor ≡ true = cc in
    onward_step _ _ _ _ _ _ _ _ c.in_ok-item.item _ c.loop-turn.invariant one starts c.in_ok-item.ensures c.in_ok-push.ensures.ok
