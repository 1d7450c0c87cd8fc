-- Laws of what commands ask for.
use Rattle.std.specs.Prelude.{◌≡◌, ◌⊎◌, List, Contains}
use Rattle.model_core.specs.declared.decision.Decision.{Decision}
use Rattle.model_core.specs.declared.model.Model.{Model}
use Rattle.model_core.specs.Lawful.{IsLawful}
use Rattle.plan_defs.specs.Refusals.{IsRefused, IsAdmissible}
use Rattle.plan_defs.specs.Settling.{IsSettled}
use Rattle.model_core.specs.declared.refusal.Refusal.{Refusal}
use Rattle.script_lang.specs.declared.command.Command.{Command}
use Rattle.script_lang.specs.Naming.{AsksDecision, StandsForDecision}

-- in a lawful model a command asks for one decision at most
abbrev pub AsksOneDecision : Type 0
AsksOneDecision =
    (model : Model) (command : Command) (one other : Decision)
    → IsLawful model → AsksDecision model command one → AsksDecision model command other → one ≡ other

-- where a decision is refused after a settled list, the one that it stands for is refused for the same reason
abbrev pub IsRefusedAsAsked : Type 0
IsRefusedAsAsked =
    (model : Model) (decisions : List Decision) (decision asked : Decision) (reason : Refusal)
    → IsLawful model → IsSettled model decisions → StandsForDecision decision asked
    → IsRefused model decisions decision reason → IsRefused model decisions asked reason

-- where it is admissible, it is the one that it stands for
abbrev pub IsAdmittedAsAsked : Type 0
IsAdmittedAsAsked =
    (model : Model) (decisions : List Decision) (decision asked : Decision)
    → IsLawful model → StandsForDecision decision asked → IsAdmissible model decisions decision → decision ≡ asked

-- where one of the two stands in a settled list, the other is the same
abbrev pub IsStandingAsAsked : Type 0
IsStandingAsAsked =
    (model : Model) (decisions : List Decision) (decision asked : Decision)
    → IsLawful model → IsSettled model decisions → StandsForDecision decision asked
    → Contains decisions decision ⊎ Contains decisions asked → decision ≡ asked
