use Rattle.law_states.proofs.Reducing.{conflict_minimal}
use Rattle.law_states.proofs.conflicts.conflicts_are_minimal.Goals as goal

pub returns : goal.returns
returns c = λ model decisions conflict lawful settled collapsed is.
    let known = c.least_states_are_well_founded.ensures in
    conflict_minimal model
    (λ list state other list_settled least fits. known.above model list state other lawful list_settled least fits)
    (λ list state token list_settled least there. (known.founded model list state lawful list_settled least).tokens token there)
    decisions settled conflict collapsed is
