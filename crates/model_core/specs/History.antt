-- The lists of decisions that undo can bring back.
use Rattle.std.specs.Prelude.{List, [], ◌∷◌, ◌++◌}
use Rattle.model_core.specs.declared.decision.Decision.{Decision}

-- a stack of lists of decisions, the standing one first
abbrev pub History : Type 0
History = List (List Decision)

-- the decisions that stand
abbrev pub standing : History → List Decision
standing [] = []
standing (decisions ∷ former) = decisions

-- the history after one more decision was taken
abbrev pub accepted : History → Decision → History
accepted history decision = (standing history ++ decision ∷ []) ∷ history
