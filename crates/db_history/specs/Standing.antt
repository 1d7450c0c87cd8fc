-- What is kept of the list of decisions that stands.
use Rattle.std.specs.Prelude.{◌≡◌, ℕ, ◌<◌, Bool, true, false, List, [], length, take, Some, slice_get}
use Rattle.model_core.specs.declared.decision.Decision.{Decision}
use Rattle.model_core.specs.declared.model.Model.{Model}
use Rattle.constraint_net.specs.Networks.{IsIdle}
use Rattle.plan_defs.specs.Closure.{IsCollapsed}
use Rattle.db_store.specs.declared.store.Mark.{Mark}
use Rattle.db_store.specs.Stores.{Stored, Snapshot, snapshot_of}
use Rattle.db_store.specs.StoreMarks.{IsStoreMark, IsMarkBefore, IsIdleMark}
use Rattle.db_history.specs.declared.footing.Footing.{Footing}
use Rattle.db_history.specs.declared.footing.Footing.TheVariants.{Rest, Fallen, Void}
use Rattle.db_history.specs.Advancing.{IsLeastOf, but_last}

-- at the mark the store had the least state of these decisions, and nothing waited
abbrev pub IsMarkOf : Model → List Decision → Stored → Mark → Type 0
IsMarkOf model decisions stored mark =
    (snapshot : Snapshot) × IsStoreMark stored mark snapshot × IsLeastOf model decisions snapshot × IsIdleMark mark

-- the store has the least state of the decisions, in which nothing waits, and before each of them a mark was set
pub record StandsForList (model : Model) (decisions : List Decision) (stored : Stored) (marks : List Mark) : Type 0 where
  pub here : IsLeastOf model decisions (snapshot_of stored)
  pub idle : IsIdle stored.net
  pub count : length marks ≡ length decisions
  pub marked : (number : ℕ) (mark : Mark)
      → slice_get marks number ≡ Some mark → IsMarkOf model (take number decisions) stored mark
  pub order : (one other : ℕ) (mark later : Mark)
      → one < other → slice_get marks one ≡ Some mark → slice_get marks other ≡ Some later → IsMarkBefore mark later

-- the store with the marks, and how the list stands
pub record Stood : Type 0 where
  pub stored : Stored
  pub marks : List Mark
  pub footing : Footing

-- the store stands for the whole list; or the list collapses, and the store stands for all but the last decision; or there is
-- no decision, and nothing is left even so
abbrev pub KeepsListOn : Model → List Decision → Stored → List Mark → Footing → Type 0
KeepsListOn model decisions stored marks Rest = StandsForList model decisions stored marks
KeepsListOn model decisions stored marks Fallen =
    StandsForList model (but_last decisions) stored marks × (0 < length decisions) × IsCollapsed model decisions
KeepsListOn model decisions stored marks Void = (decisions ≡ []) × IsCollapsed model decisions

-- the same of what is kept
abbrev pub KeepsList : Model → List Decision → Stood → Type 0
KeepsList model decisions stood = KeepsListOn model decisions stood.stored stood.marks stood.footing

-- going on by the last of the decisions: the store stands for them all, or for all but that one
abbrev pub GoesOnTo : Model → List Decision → Bool → Stored → List Mark → Type 0
GoesOnTo model decisions true stored marks = StandsForList model decisions stored marks
GoesOnTo model decisions false stored marks = StandsForList model (but_last decisions) stored marks × IsCollapsed model decisions
