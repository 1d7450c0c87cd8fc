-- What undo brings back.
use Rattle.std.specs.Prelude.{◌≡◌, List, ◌∷◌, length, Option, Some, None, Result, Ok, Err}
use Rattle.model_core.specs.declared.decision.Decision.{Decision}
use Rattle.model_core.specs.History.{History, standing, accepted}
use Rattle.decision_log.specs.declared.LogFault.{LogFault}
use Rattle.decision_log.specs.declared.LogFault.TheVariants.{Nothing, Memory}

-- the list before the standing one
abbrev pub IsFormer : History → List Decision → Type 0
IsFormer history decisions = (below : History) × (history ≡ standing history ∷ decisions ∷ below)

-- the standing list goes, and the one before it stands; where there is none, nothing changes
abbrev pub Undoes : History → Result (Unit {0}) LogFault → History → Type 0
Undoes old (Ok done) new = (below : List Decision) × (rest : History) × (new ≡ below ∷ rest) × (old ≡ standing old ∷ new)
Undoes old (Err Nothing) new = (new ≡ old) × (length old ≡ 1)
Undoes old (Err Memory) new = ⊥

-- the last decision is taken out, where the last step put one in
abbrev pub Pops : History → Option Decision → History → Type 0
Pops old (Some decision) new = old ≡ accepted new decision
Pops old None new = (new ≡ old) × ((before : History) (decision : Decision) → old ≡ accepted before decision → ⊥)

-- the list before the standing one is copied, if there is one; memory is wanted only where there is
abbrev pub CopiesFormer : History → Result (List Decision) LogFault → Type 0
CopiesFormer history (Ok decisions) = IsFormer history decisions
CopiesFormer history (Err Nothing) = length history ≡ 1
CopiesFormer history (Err Memory) = (former : List Decision) × IsFormer history former
