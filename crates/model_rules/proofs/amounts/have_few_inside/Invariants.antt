use Rattle.std.specs.Prelude.{◌≡◌, ◌+◌, take, sum_by}
use Rattle.model_rules.specs.Amounts.{amount_of}
use Rattle.model_rules.proofs.amounts.have_few_inside.Given as goal

abbrev pub invariant-loop-rule : goal.invariant-loop-rule
invariant-loop-rule l = l.left + sum_by (λ rule. amount_of l.amount rule.now.top) (take l.rule-index l.rules) ≡ l.room
