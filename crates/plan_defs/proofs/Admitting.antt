-- Each decision of a settled list was admissible after some of the others, so what it names was there.
use Rattle.std.proofs.Common.{◌≡◌, List, [], ◌∷◌, ◌++◌, ◌⊎◌, sym, subst, inl, inr}
use Rattle.std.specs.Prelude.{Contains}
use Rattle.std.proofs.lemmas.List.Elements.{Contains-push_cases, Contains-append_left}
use Rattle.eu_name.specs.declared.name.TokenName.{TokenName}
use Rattle.eu_name.proofs.Members.{get_all, get_from_contains}
use Rattle.model_core.specs.declared.decision.Decision.{Decision}
use Rattle.model_core.specs.declared.decision.Decision.TheVariants.{Merge}
use Rattle.model_core.specs.declared.model.Model.{Model}
use Rattle.model_core.specs.declared.rule.Slot.{Slot}
use Rattle.model_core.specs.Lawful.{IsToken}
use Rattle.model_core.specs.State.{State, IsState}
use Rattle.model_core.specs.Tokens.{HasToken}
use Rattle.plan_defs.specs.Refusals.{IsAdmissible}
use Rattle.model_core.specs.declared.refusal.Refusal.TheVariants.{Unknown}
use Rattle.plan_defs.specs.Settling.{SettlesAfter, IsSettled}
use Rattle.plan_defs.proofs.Knowing.{token_or_not}
use Rattle.eu_name.proofs.Ordered.{contains_none}

-- the decision was admissible after others of the list
pub record IsAdmitted (model : Model) (decisions : List Decision) (decision : Decision) : Type 0 where
  pub front : List Decision
  pub admissible : IsAdmissible model front decision
  pub before : (other : Decision) → Contains front other → Contains decisions other

further : (model : Model) (kept : List Decision) (new decision : Decision) → IsAdmissible model kept new
    → ((d : Decision) → Contains kept d → IsAdmitted model kept d) → Contains kept decision ⊎ (new ≡ decision) → IsAdmitted model (kept ++ new ∷ []) decision
further model kept new decision admissible all (inl old) =
    let is = all decision old in
    record { front = is.front; admissible = is.admissible; before = λ other there. Contains-append_left kept (new ∷ []) other (is.before other there) }
further model kept new decision admissible all (inr same) = record {
  front = kept;
  admissible = subst (λ d. IsAdmissible model kept d) same admissible;
  before = λ other there. Contains-append_left kept (new ∷ []) other there;
}

admitted_from : (model : Model) (kept decisions settled : List Decision) → ((d : Decision) → Contains kept d → IsAdmitted model kept d)
    → SettlesAfter model kept decisions settled → (d : Decision) → Contains settled d → IsAdmitted model settled d
admitted_from model kept [] settled all is = subst (λ list. (d : Decision) → Contains list d → IsAdmitted model list d) (sym is) all
admitted_from model kept (decision ∷ decisions) settled all (inl (admissible, rest)) =
    admitted_from model (kept ++ decision ∷ []) decisions settled
    (λ d there. further model kept decision d admissible all (Contains-push_cases kept decision d there)) rest
admitted_from model kept (decision ∷ decisions) settled all (inr (not, rest)) = admitted_from model kept decisions settled all rest

pub admitted : (model : Model) (decisions : List Decision) (decision : Decision) → IsSettled model decisions → Contains decisions decision → IsAdmitted model decisions decision
admitted model decisions decision settled there =
    admitted_from model [] decisions decisions (λ d none. absurd (contains_none d none)) settled decision there

pub token_of_state : (model : Model) (state : State) (token : TokenName) → IsState model state → Contains state.tokens token → IsToken model token
token_of_state model state token is there =
    let at = get_from_contains state.tokens token there in
    get_all (λ t. (slot : Slot) × HasToken model t slot) state.tokens at.0 token is.tokens at.1

-- the target of a merge is a token of the model
pub target_of_model : (model : Model) (decisions : List Decision) (token target : TokenName) → IsSettled model decisions → Contains decisions (Merge token target) → IsToken model target
target_of_model model decisions token target settled there =
    let is = (admitted model decisions (Merge token target) settled there).admissible in
    elim (token_or_not is.state.tokens target) [
      | inl known ↦ token_of_state model is.state target is.least.closed.consistent.is_state known
      | inr not ↦ absurd (is.free Unknown (λ known. not known.1))
    ]
