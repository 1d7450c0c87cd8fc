-- What the look-ups of a model find.
use Rattle.std.specs.Prelude.{◌≡◌, ℕ, ◌+◌, List, [], ◌∷◌, Option, Some, None, if◌then◌else◌, bytes_eq}
use Rattle.eu_name.specs.declared.name.Step.{Step}
use Rattle.model_core.specs.declared.model.Model.{Model}
use Rattle.model_core.specs.declared.rule.Slot.{Slot}
use Rattle.model_core.specs.declared.variable.VarDecl.{VarDecl}
use Rattle.model_core.specs.Tokens.{LeadsToSlot}

-- the number of the first variable of this name, counted from here on
abbrev pub first_named : ℕ → List ℕ → List VarDecl → Option ℕ
first_named number name [] = None
first_named number name (variable ∷ variables) =
    if bytes_eq variable.name name then Some number else first_named (number + 1) name variables

-- the number of the global of this name
abbrev pub global_named : Model → List ℕ → Option ℕ
global_named model name = first_named 0 name model.problem.globals

-- the steps lead from a token of the one predicate to one of the other
abbrev pub LeadsOn : Model → ℕ → List Step → ℕ → Type 0
LeadsOn model pred [] reached = reached ≡ pred
LeadsOn model pred (step ∷ steps) reached =
    (slot : Slot) × LeadsToSlot model pred step slot × LeadsOn model slot.pred steps reached
