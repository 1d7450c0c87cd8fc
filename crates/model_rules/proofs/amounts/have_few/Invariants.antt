use Rattle.std.specs.Prelude.{◌≡◌, ◌+◌, take, sum_by}
use Rattle.model_rules.specs.Amounts.{size_in}
use Rattle.model_rules.proofs.amounts.have_few.Given as goal

abbrev pub invariant-loop-rule : goal.invariant-loop-rule
invariant-loop-rule l = l.left + sum_by (λ rule. size_in l.sort rule.now) (take l.rule-index l.rules) ≡ l.room
