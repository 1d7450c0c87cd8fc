-- How the log keeps the lists that stood: the standing one, and the steps back from it.
use Rattle.std.specs.Prelude.{◌≡◌, ℕ, ◌-◌, ◌<◌, ◌≤◌, ⊤, List, [], ◌∷◌, length, take, insert}
use Rattle.model_core.specs.declared.decision.Decision.{Decision}
use Rattle.model_core.specs.History.{History}
use Rattle.decision_log.specs.declared.steps.Step.{Step}
use Rattle.decision_log.specs.declared.steps.Step.TheVariants.{Push, Take}
use Rattle.decision_log.specs.declared.steps.TakenOut.{TakenOut}

-- the list with these decisions back at their places; the one of the greatest place comes first here, and is put back last
abbrev pub put_back : List TakenOut → List Decision → List Decision
put_back [] decisions = decisions
put_back (taken ∷ more) decisions = insert (put_back more decisions) taken.place taken.decision

-- the list before the step that led to this one
abbrev pub list_before : Step → List Decision → List Decision
list_before Push decisions = take (length decisions - 1) decisions
list_before (Take taken) decisions = put_back taken.items decisions

-- the lists that stood, from the standing one back along the steps, the last of which comes first
abbrev pub lists_of : List Decision → List Step → History
lists_of decisions [] = decisions ∷ []
lists_of decisions (step ∷ older) = decisions ∷ lists_of (list_before step decisions) older

-- they have lower places than this one
abbrev pub AreBelow : ℕ → List TakenOut → Type 0
AreBelow place [] = ⊤
AreBelow place (taken ∷ more) = (taken.place < place) × AreBelow place more

-- each place is one of the list into which the decision is put back, and those of the decisions behind it here are lower
abbrev pub HavePlaces : List TakenOut → List Decision → Type 0
HavePlaces [] decisions = ⊤
HavePlaces (taken ∷ more) decisions =
    (taken.place ≤ length (put_back more decisions)) × (AreBelow taken.place more × HavePlaces more decisions)

-- the step can have led to the list
abbrev pub CanLeadTo : Step → List Decision → Type 0
CanLeadTo Push decisions = 0 < length decisions
CanLeadTo (Take taken) decisions = (0 < length taken.items) × HavePlaces taken.items decisions

-- each step can have led to its list, at the bottom nothing is decided, and there is room for each of the lists
abbrev pub AreLogSteps : ℕ → List Decision → List Step → Type 0
AreLogSteps room decisions [] = decisions ≡ []
AreLogSteps room decisions (step ∷ older) =
    CanLeadTo step decisions × (length decisions ≤ room) × AreLogSteps room (list_before step decisions) older
