use Rattle.std.specs.Prelude.{take, map}
use Rattle.model_lawful.specs.Preds.{AreRules}
use Rattle.model_lawful.proofs.preds.rules_at.Given as goal

abbrev pub invariant-loop-place : goal.invariant-loop-place
invariant-loop-place l = AreRules l.model (take l.place-index l.places) (map (λ rule. rule.now) l.rules.items)
