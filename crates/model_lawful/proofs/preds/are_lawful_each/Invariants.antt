use Rattle.std.specs.Prelude.{take, All}
use Rattle.model_core.specs.Lawful.{IsLawfulRule}
use Rattle.model_lawful.proofs.preds.are_lawful_each.Given as goal

abbrev pub invariant-loop-rule : goal.invariant-loop-rule
invariant-loop-rule l = All (λ rule. IsLawfulRule l.model l.number rule.now) (take l.rule-index l.rules)
