use Rattle.std.proofs.Common.{◌≡◌, ℕ, ◌<◌}
use Rattle.model_core.specs.declared.model.Root.{Root}
use Rattle.model_core.specs.Tokens.{IsRoot}
use Rattle.model_core.proofs.model.Model.root_labelled.Given as goal

-- no root before this one has the label
abbrev pub invariant-loop-number : goal.invariant-loop-number
invariant-loop-number l =
    (l.root-items ≡ l.self.problem.roots) × ((number : ℕ) (root : Root) → number < l.number → IsRoot l.self number root → root.label ≡ l.label → ⊥)
