-- What is printed of a decision can be read again.
use Rattle.std.specs.Prelude.{⊤, ℕ, ◌≤◌, List, length, map, Contains, Ok}
use Rattle.model_core.specs.declared.decision.Decision.{Decision}
use Rattle.model_core.specs.declared.decision.Decision.TheVariants.{Constrain}
use Rattle.model_core.specs.declared.model.Model.{Model}
use Rattle.model_core.specs.Lawful.{IsLawful}
use Rattle.model_core.specs.Naming.{full_name}
use Rattle.script_lang.specs.declared.command.Command.{Command}
use Rattle.script_lang.specs.Line.{ReadsLine}
use Rattle.session_replies.specs.Lines.{IsDecisionLine}
use Rattle.script_lang.specs.Naming.{AsksDecision}

-- where an object is called `r.f`, another one is called `r`, as the text of a problem makes them
abbrev pub HasOuterObjects : Model → Type 0
HasOuterObjects model =
    (outer name : List ℕ) → Contains (map (λ object. object.name) model.objects) (full_name outer name)
    → Contains (map (λ object. object.name) model.objects) outer

-- no value of the decision is written as a variable is; only `r.f` could be, as the name of an object and of a token's parameter
abbrev pub IsToldApart : Model → Decision → Type 0
IsToldApart model (Constrain kind arguments) = HasOuterObjects model
IsToldApart model decision = ⊤

-- a line of a decision of a lawful model, if it isn't too long, is read as a command that asks for this decision
abbrev pub DecisionLinesAreReadBack : Type 0
DecisionLinesAreReadBack =
    (model : Model) (decision : Decision) (line : List ℕ)
    → IsLawful model → IsToldApart model decision → IsDecisionLine model decision line → length line ≤ 4096
    → (command : Command) × (ReadsLine line (Ok command) × AsksDecision model command decision)
