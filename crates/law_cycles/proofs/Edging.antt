-- The list that stands in a sound database has time edges, read from the least state that it leaves without its last decision.
use Rattle.std.proofs.Common.{◌≡◌, ℕ, ◌-◌, ◌<◌, ◌⊎◌, inl, inr, List, [], ◌∷◌, ◌++◌, length, take, refl, sym, ap, subst, arith}
use Rattle.model_core.specs.declared.decision.Decision.{Decision}
use Rattle.model_core.specs.declared.model.Model.{Model}
use Rattle.model_core.specs.History.{standing}
use Rattle.model_core.specs.Lawful.{IsLawful}
use Rattle.model_core.specs.State.{State}
use Rattle.plan_defs.specs.Closure.{IsLeast}
use Rattle.plan_defs.specs.Refusals.{IsAdmissible}
use Rattle.plan_defs.specs.Settling.{IsSettled}
use Rattle.plan_defs.proofs.Histories.{standing_settled}
use Rattle.law_states.specs.Undeniable.{Undeniable}
use Rattle.db_edges.specs.declared.edge.NamedEdge.{NamedEdge}
use Rattle.db_edges.specs.Whole.{AreTimeEdges}
use Rattle.db_history.specs.Advancing.{but_last}
use Rattle.db_history.proofs.Fronts.{next_admissible}
use Rattle.law_cycles.specs.Existence.{DatabasesHaveEdges}
use Rattle.law_cycles.proofs.Listed.{time_edges}

-- the last of a list, behind all others
last_of : (first : Decision) (rest : List Decision) → (last : Decision) × (first ∷ rest ≡ take (length rest) (first ∷ rest) ++ last ∷ [])
last_of first [] = (first, refl)
last_of first (next ∷ rest) = let found = last_of next rest in (found.0, ap (λ (list : List Decision). first ∷ list) found.1)

-- the edges of the list, as those of a database whose list stands
abbrev AreEdgesOf : Model → List Decision → List NamedEdge → Type 0
AreEdgesOf model decisions edges =
    ((decisions ≡ []) × (edges ≡ []))
    ⊎ ((0 < length decisions) × ((before : State) × IsLeast model (but_last decisions) before × AreTimeEdges model decisions before edges))

list_has : (model : Model) (decisions : List Decision) → IsLawful model → IsSettled model decisions → Undeniable ((edges : List NamedEdge) × AreEdgesOf model decisions edges)
list_has model [] lawful settled none = none ([], inl (refl, refl))
list_has model (first ∷ rest) lawful settled none =
    let last = last_of first rest in
    let admissible : IsAdmissible model (take (length rest) (first ∷ rest)) last.0 = next_admissible model (first ∷ rest) settled (take (length rest) (first ∷ rest)) last.0 [] last.1 in
    let count : length (first ∷ rest) - 1 ≡ length rest = omega arith in
    let least : IsLeast model (but_last (first ∷ rest)) admissible.state = subst (λ (n : ℕ). IsLeast model (take n (first ∷ rest)) admissible.state) (sym count) admissible.least in
    time_edges model (first ∷ rest) lawful admissible.state admissible.least.closed.consistent.is_state (λ found.
    none (found.0, inr (omega arith, (admissible.state, least, found.1))))

pub databases_have_edges : DatabasesHaveEdges
databases_have_edges database sound none =
    list_has database.model (standing database.history) sound.lawful (standing_settled database.model database.history sound.history) none
