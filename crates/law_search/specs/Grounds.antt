-- What least states and settled lists have: nothing but what stands under activated tokens.
use Rattle.std.specs.Prelude.{List, Contains}
use Rattle.domain_core.specs.Domain.{Domain}
use Rattle.eu_name.specs.declared.name.TokenName.{TokenName}
use Rattle.eu_name.specs.declared.name.VarName.{VarName}
use Rattle.model_core.specs.declared.decision.Decision.{Decision}
use Rattle.model_core.specs.declared.model.Model.{Model}
use Rattle.model_core.specs.State.{State, Gives}
use Rattle.plan_defs.specs.Closure.{IsLeast}
use Rattle.plan_defs.specs.Settling.{IsSettled}
use Rattle.law_search.specs.SwapLaws.{StandsUnderActive, IsOfActive, IsGrounded}

-- each token of the least state of a settled list stands under tokens that the list activates
abbrev pub LeastTokensStandUnderActive : Type 0
LeastTokensStandUnderActive =
    (model : Model) (decisions : List Decision) (state : State) (token : TokenName)
    → IsSettled model decisions → IsLeast model decisions state → Contains state.tokens token
    → StandsUnderActive decisions token

-- and so does each variable's token, and a local is one of an activated token
abbrev pub LeastVariablesAreOfActive : Type 0
LeastVariablesAreOfActive =
    (model : Model) (decisions : List Decision) (state : State) (name : VarName) (domain : Domain)
    → IsSettled model decisions → IsLeast model decisions state → Gives state name domain → IsOfActive decisions name

-- each decision of a settled list names what is there by the list, and what has to be active is so
abbrev pub SettledListsAreGrounded : Type 0
SettledListsAreGrounded =
    (model : Model) (decisions : List Decision) (decision : Decision)
    → IsSettled model decisions → Contains decisions decision → IsGrounded model decisions decision
