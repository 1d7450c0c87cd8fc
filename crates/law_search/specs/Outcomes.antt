-- What can't be missing of a search: a first flaw or none, its choices, and an outcome.
use Rattle.std.specs.Prelude.{◌≡◌, ℕ, ◌≤◌, ◌⊎◌, List}
use Rattle.model_core.specs.declared.decision.Decision.{Decision}
use Rattle.model_core.specs.declared.model.Model.{Model}
use Rattle.model_core.specs.Lawful.{IsLawful}
use Rattle.model_core.specs.State.{State, IsState}
use Rattle.plan_defs.specs.Flaws.{Flaw, IsFlaw, HasFlaw}
use Rattle.plan_defs.specs.Settling.{IsSettled}
use Rattle.law_states.specs.Undeniable.{Undeniable}
use Rattle.law_search.specs.Choices.{IsFirstFlaw, AreChoices}
use Rattle.law_search.specs.Search.{SearchOutcome, Stops, Searches}

-- a state has no flaw, or one that comes first
abbrev pub StatesHaveAFirstFlawOrNone : Type 0
StatesHaveAFirstFlawOrNone =
    (model : Model) (decisions : List Decision) (state : State)
    → IsState model state
    → Undeniable ((HasFlaw model decisions state → ⊥) ⊎ ((flaw : Flaw) × IsFirstFlaw model decisions state flaw))

-- each flaw of a state has its choices
abbrev pub FlawsHaveChoices : Type 0
FlawsHaveChoices =
    (model : Model) (decisions : List Decision) (state : State) (bound : ℕ) (flaw : Flaw)
    → IsState model state → IsFlaw model decisions state flaw
    → Undeniable ((choices : List Decision) × AreChoices model decisions state bound flaw choices)

-- the search has this outcome, which leaves no more units than there were, and none where a visit was due for which there is none
pub record HasOutcome (model : Model) (bound units : ℕ) (decisions : List Decision) : Type 0 where
  pub outcome : SearchOutcome
  pub searches : Searches model bound units decisions outcome
  pub few : outcome.left ≤ units
  pub spent : outcome.ending ≡ Stops → outcome.left ≡ 0

-- the search from a settled list has an outcome
abbrev pub SearchesHaveOutcomes : Type 0
SearchesHaveOutcomes =
    (model : Model) (bound units : ℕ) (decisions : List Decision)
    → IsLawful model → bound ≤ 512 → IsSettled model decisions → Undeniable (HasOutcome model bound units decisions)
