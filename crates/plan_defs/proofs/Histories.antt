-- Lists that stood, one after the other.
use Rattle.std.proofs.Common.{[], ◌∷◌, inl, refl}
use Rattle.eu_name.proofs.Ordered.{contains_head}
use Rattle.model_core.specs.declared.decision.Decision.{Decision}
use Rattle.model_core.specs.declared.model.Model.{Model}
use Rattle.model_core.specs.History.{History, standing, accepted}
use Rattle.plan_defs.specs.History.{IsHistory}
use Rattle.plan_defs.specs.Refusals.{IsAdmissible}
use Rattle.plan_defs.specs.Settling.{IsSettled}
use Rattle.plan_defs.proofs.Settling.{history_settled}

-- a further decision that is admissible makes a history
pub accepted_is : (model : Model) (history : History) (decision : Decision) → IsHistory model history → IsAdmissible model (standing history) decision → IsHistory model (accepted history decision)
accepted_is model [] decision is admissible = absurd is
accepted_is model (decisions ∷ former) decision is admissible = (inl (decision, admissible, refl), is)

-- the standing list of a history is settled
pub standing_settled : (model : Model) (history : History) → IsHistory model history → IsSettled model (standing history)
standing_settled model [] is = absurd is
standing_settled model (decisions ∷ former) is = history_settled model (decisions ∷ former) decisions is (contains_head decisions former)
