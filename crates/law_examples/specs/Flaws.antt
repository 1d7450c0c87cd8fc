-- States that leave something open, and what can be decided of it.
use Rattle.std.specs.Prelude.{◌≡◌, ◌↔◌, ℕ, pos, List, [], ◌∷◌}
use Rattle.domain_core.specs.Domain.{Domain}
use Rattle.eu_name.specs.declared.name.Part.TheVariants.{Start, End, Duration, Object, Param}
use Rattle.eu_name.specs.declared.name.TokenName.{TokenName}
use Rattle.eu_name.specs.declared.name.VarName.TheVariants.{Token}
use Rattle.model_core.specs.declared.decision.Decision.{Decision}
use Rattle.model_core.specs.declared.decision.Decision.TheVariants.{Specify}
use Rattle.model_core.specs.declared.model.Model.{Model}
use Rattle.model_core.specs.State.{State, VarDomain}
use Rattle.plan_defs.specs.Flaws.{Flaw}
use Rattle.law_search.specs.Choices.{AreChoices}
use Rattle.law_examples.specs.Globals.{up_to}
use Rattle.law_examples.specs.Scenes.{the_object, exactly}
use Rattle.law_examples.specs.Swaps.{g, gg}
use Rattle.law_examples.specs.Worlds.{between}

-- a token on the first object that lasts for 1 and begins at 0, 1 or 2
abbrev pub loose : TokenName → List VarDomain → List VarDomain
loose token more =
    record { name = Token token Object; domain = the_object }
    ∷ record { name = Token token Start; domain = up_to 2 }
    ∷ record { name = Token token End; domain = between 1 3 }
    ∷ record { name = Token token Duration; domain = exactly 1 }
    ∷ record { name = Token token (Param 0); domain = exactly 0 }
    ∷ more

-- two such tokens
abbrev pub loose_pair : State
loose_pair = record { tokens = g ∷ gg ∷ []; blocks = []; entries = loose g (loose gg []) }

-- g may start at what is in this domain, and nothing else is told
abbrev pub starting : Domain → State
starting domain = record { tokens = g ∷ []; blocks = []; entries = record { name = Token g Start; domain = domain } ∷ [] }

-- it starts then
abbrev pub start_is : ℕ → Decision
start_is number = Specify (Token g Start) (pos number)

-- these are the choices of the flaw, and no other list is
abbrev pub HasChoices : Model → List Decision → State → ℕ → Flaw → List Decision → Type 0
HasChoices model decisions state bound flaw choices =
    (found : List Decision) → AreChoices model decisions state bound flaw found ↔ (found ≡ choices)
