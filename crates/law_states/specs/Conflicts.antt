-- What the conflict of a list is: a list that leaves nothing, and of which none can go.
use Rattle.std.specs.Prelude.{◌≡◌, List, ◌∷◌, ◌++◌}
use Rattle.model_core.specs.declared.decision.Decision.{Decision}
use Rattle.model_core.specs.declared.model.Model.{Model}
use Rattle.model_core.specs.Lawful.{IsLawful}
use Rattle.plan_defs.specs.Closure.{IsCollapsed}
use Rattle.plan_defs.specs.Settling.{Settles, IsSettled, IsConflict}

-- nothing of the list has to go as it is settled, and it leaves nothing; but without any one of its decisions, what can be kept of
-- it leaves something
pub record IsMinimal (model : Model) (conflict : List Decision) : Type 0 where
  pub settled : IsSettled model conflict
  pub collapses : IsCollapsed model conflict
  pub needed : (front : List Decision) (decision : Decision) (back left : List Decision)
      → conflict ≡ front ++ decision ∷ back → Settles model (front ++ back) left → IsCollapsed model left → ⊥

-- the conflict of a settled list that leaves nothing is such a list
abbrev pub ConflictsAreMinimal : Type 0
ConflictsAreMinimal =
    (model : Model) (decisions conflict : List Decision)
    → IsLawful model → IsSettled model decisions → IsCollapsed model decisions → IsConflict model decisions conflict
    → IsMinimal model conflict

-- a list has one conflict at most
abbrev pub ConflictIsOne : Type 0
ConflictIsOne =
    (model : Model) (decisions one other : List Decision)
    → IsConflict model decisions one → IsConflict model decisions other → one ≡ other
