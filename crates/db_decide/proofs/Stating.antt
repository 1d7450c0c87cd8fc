-- The states of tokens after one more decision.
use Rattle.std.proofs.Common.{◌≡◌, ℕ, zero, suc, ◌<◌, List, [], ◌∷◌, ◌++◌, length, Some, ◌⊎◌, inl, inr, refl, sym, ap, subst, arith}
use Rattle.std.specs.Prelude.{◌≢◌, slice_get}
use Rattle.std.proofs.lemmas.List.Elements.{Contains-append_left}
use Rattle.eu_name.specs.declared.name.TokenName.{TokenName}
use Rattle.model_core.specs.declared.decision.Decision.{Decision}
use Rattle.model_core.specs.declared.model.Model.{Model}
use Rattle.model_core.specs.declared.view.TokenState.{TokenState}
use Rattle.model_core.specs.declared.view.TokenState.TheVariants.{Inactive, Active, Fact, Merged, Rejected}
use Rattle.model_core.specs.State.{State}
use Rattle.model_core.specs.TokenStates.{HasTokenState}
use Rattle.token_store.specs.Tokens.{TokenList, tokens_now, token_names, token_preds, token_states, with_state, IsNamedAt}
use Rattle.token_store.proofs.Past.{length-with_state}
use Rattle.plan_defs.specs.Refusals.{IsAlreadyDecided}
use Rattle.eu_name.proofs.Members.{get_same}
use Rattle.model_core.specs.Content.{Content, shown}
use Rattle.db_refine.specs.Progress.{IsJustified, MissesNothing}
use Rattle.db_refine.proofs.Justifying.{longer_justified}
use Rattle.db_store.specs.Stores.{Stored, Snapshot, snapshot_of, IsSnapshot, named_content}
use Rattle.db_store.proofs.Naming.{states_are_left_out}
use Rattle.db_store.proofs.Snapshots.{names_state}
use Rattle.db_posting.specs.Counting.{AreTokenStates}
use Rattle.db_posting.specs.Origins.{content_now}
use Rattle.db_posting.specs.Underway.{AreWatched, IsStoreUnderway}
use Rattle.db_posting.specs.Wanted.{ArePreds}
use Rattle.model_core.proofs.Distinct.{place_once}
use Rattle.db_decide.proofs.Longer.{DecidesOf, decided_before, rejected_longer}

-- the state of a token only speaks of the places of tokens
pub state_same : (model : Model) (one other : State) → one.tokens ≡ other.tokens → (decisions : List Decision) (token : TokenName) (found : TokenState)
    → HasTokenState model one decisions token found → HasTokenState model other decisions token found
state_same model one other same decisions token Inactive is = is
state_same model one other same decisions token Active is = is
state_same model one other same decisions token Fact is = is
state_same model one other same decisions token (Merged place) is =
    (is.0, subst (λ (list : List TokenName). slice_get list place ≡ Some is.0) same is.1, is.2)
state_same model one other same decisions token Rejected is = is

-- of other tokens the decision says nothing
pub state_longer : (model : Model) (state : State) (decisions : List Decision) (decision : Decision) (token : TokenName) → (DecidesOf decision token → ⊥) → (found : TokenState)
    → HasTokenState model state decisions token found → HasTokenState model state (decisions ++ decision ∷ []) token found
state_longer model state decisions decision token other Inactive is = λ decided. is (decided_before model decisions decision token other decided)
state_longer model state decisions decision token other Active is = Contains-append_left decisions (decision ∷ []) _ is
state_longer model state decisions decision token other Fact is = is
state_longer model state decisions decision token other (Merged place) is = (is.0, is.1, Contains-append_left decisions (decision ∷ []) _ is.2)
state_longer model state decisions decision token other Rejected is = Contains-append_left decisions (decision ∷ []) _ is

-- a decision that decides of no token leaves the states
pub quiet_states : (model : Model) (decisions : List Decision) (decision : Decision) (old new : Snapshot) → old.tokens ≡ new.tokens
    → (IsAlreadyDecided model decisions decision → ⊥) → ((token : TokenName) → DecidesOf decision token → ⊥)
    → AreTokenStates model decisions old → AreTokenStates model (decisions ++ decision ∷ []) new
quiet_states model decisions decision old new same undecided quiet are = record {
  states = λ place token found named stated.
      state_same model (shown (named_content old)) (shown (named_content new)) (ap token_names same) (decisions ++ decision ∷ []) token found
      (state_longer model (shown (named_content old)) decisions decision token (quiet token) found
      (are.states place token found (subst (λ (tokens : TokenList). slice_get (token_names tokens) place ≡ Some token) (sym same) named)
      (subst (λ (tokens : TokenList). slice_get (token_states tokens) place ≡ Some found) (sym same) stated)));
  rejected = rejected_longer model decisions decision undecided are.rejected;
}

-- ---- a token in another state

pub stated_cases : (tokens : TokenList) (place : ℕ) (state : TokenState) (k : ℕ) (found : TokenState) → slice_get (token_states (with_state tokens place state)) k ≡ Some found
    → ((k ≡ place) × (found ≡ state)) ⊎ ((k ≢ place) × (slice_get (token_states tokens) k ≡ Some found))
stated_cases [] place state k found at = absurd (cc)
stated_cases (token ∷ tokens) zero state zero found at = inl (refl, (cc))
stated_cases (token ∷ tokens) zero state (suc k) found at = inr (λ e. cc, at)
stated_cases (token ∷ tokens) (suc place) state zero found at = inr (λ e. cc, at)
stated_cases (token ∷ tokens) (suc place) state (suc k) found at = elim (stated_cases tokens place state k found at) [
  | inl here ↦ inl (ap suc here.0, here.1)
  | inr other ↦ inr (λ e. other.0 (cc), other.1)
]

preds_state : (tokens : TokenList) (place : ℕ) (state : TokenState) → token_preds (with_state tokens place state) ≡ token_preds tokens
preds_state [] place state = refl
preds_state (token ∷ tokens) zero state = refl
preds_state (token ∷ tokens) (suc place) state = ap (λ (list : List ℕ). token.1.pred ∷ list) (preds_state tokens place state)

module _ (model : Model) (old : Stored) (sound : IsSnapshot (snapshot_of old)) (place : ℕ) (state : TokenState) where
  abbrev pub stated : Stored
  stated = record old { past = with_state (tokens_now old.past) place state ∷ old.past }

  pub content_stated : content_now stated ≡ content_now old
  content_stated = states_are_left_out (snapshot_of old) place state

  names_stated : token_names (tokens_now stated.past) ≡ token_names (tokens_now old.past)
  names_stated = names_state (tokens_now old.past) place state

  preds_stated : ArePreds model (tokens_now old.past) → ArePreds model (tokens_now stated.past)
  preds_stated preds k token slot named has =
      subst (λ (list : List ℕ). slice_get list k ≡ Some slot.pred) (sym (preds_state (tokens_now old.past) place state))
      (preds k token slot (subst (λ (list : List TokenName). slice_get list k ≡ Some token) names_stated named) has)

  module _ (decisions : List Decision) (decision : Decision) (token : TokenName) (named : IsNamedAt (tokens_now old.past) place token)
      (undecided : IsAlreadyDecided model decisions decision → ⊥) (only : (other : TokenName) → DecidesOf decision other → other ≡ token)
      (has : HasTokenState model (shown (content_now old)) (decisions ++ decision ∷ []) token state) where
    state_at : (k : ℕ) (other : TokenName) (found : TokenState) → IsNamedAt (tokens_now old.past) k other → AreTokenStates model decisions (snapshot_of old)
        → ((k ≡ place) × (found ≡ state)) ⊎ ((k ≢ place) × (slice_get (token_states (tokens_now old.past)) k ≡ Some found))
        → HasTokenState model (shown (content_now old)) (decisions ++ decision ∷ []) other found
    state_at k other found there are (inl here) =
        let same : token ≡ other = get_same (token_names (tokens_now old.past)) place token other named
        (subst (λ (n : ℕ). slice_get (token_names (tokens_now old.past)) n ≡ Some other) here.0 there) in
        subst (λ (s : TokenState). HasTokenState model (shown (content_now old)) (decisions ++ decision ∷ []) other s) (sym here.1)
        (subst (λ (t : TokenName). HasTokenState model (shown (content_now old)) (decisions ++ decision ∷ []) t state) same has)
    state_at k other found there are (inr apart) =
        state_longer model (shown (content_now old)) decisions decision other
        (λ decides. apart.0 (place_once (token_names (tokens_now old.past)) sound.tokens_once k place token
        (subst (λ (t : TokenName). slice_get (token_names (tokens_now old.past)) k ≡ Some t) (only other decides) there) named))
        found (are.states k other found there apart.1)

    pub states_stated : AreTokenStates model decisions (snapshot_of old) → AreTokenStates model (decisions ++ decision ∷ []) (snapshot_of stated)
    states_stated are = record {
      states = λ k other found there at.
          state_same model (shown (content_now old)) (shown (content_now stated)) (sym names_stated) (decisions ++ decision ∷ []) other found
          (state_at k other found (subst (λ (list : List TokenName). slice_get list k ≡ Some other) names_stated there) are
          (stated_cases (tokens_now old.past) place state k found at));
      rejected = rejected_longer model decisions decision undecided are.rejected;
    }

    -- underway for the longer list, of which the decisions before are followed
    pub stated_underway : (unfolded : ℕ) (due : List ℕ) → IsStoreUnderway model decisions decisions old unfolded due
        → IsStoreUnderway model decisions (decisions ++ decision ∷ []) stated unfolded due
    stated_underway unfolded due under = record {
      justified = subst (IsJustified model (decisions ++ decision ∷ []) old.net.tables old.net.constraints) (sym content_stated)
          (longer_justified model decisions (decision ∷ []) old.net.tables old.net.constraints (content_now old) under.justified);
      complete = subst (λ (content : Content). MissesNothing model decisions old.net.constraints content unfolded due) (sym content_stated) under.complete;
      states = states_stated under.states;
      preds = preds_stated under.preds;
      watched = subst (λ (content : Content). AreWatched model content old.watches unfolded) (sym content_stated) under.watched;
      within = under.within;
    }

-- a decision that decides of no token changes nothing
pub quiet_underway : (model : Model) (decisions : List Decision) (decision : Decision) (stored : Stored) → (IsAlreadyDecided model decisions decision → ⊥)
    → ((token : TokenName) → DecidesOf decision token → ⊥) → (unfolded : ℕ) (due : List ℕ) → IsStoreUnderway model decisions decisions stored unfolded due
    → IsStoreUnderway model decisions (decisions ++ decision ∷ []) stored unfolded due
quiet_underway model decisions decision stored undecided quiet unfolded due under = record {
  justified = longer_justified model decisions (decision ∷ []) stored.net.tables stored.net.constraints (content_now stored) under.justified;
  complete = under.complete;
  states = quiet_states model decisions decision (snapshot_of stored) (snapshot_of stored) refl undecided quiet under.states;
  preds = under.preds;
  watched = under.watched;
  within = under.within;
}

-- places stay places
pub stated_below : (old store : Stored) (place : ℕ) (state : TokenState) → store ≡ record old { past = with_state (tokens_now old.past) place state ∷ old.past }
    → (k : ℕ) → k < length (tokens_now old.past) → k < length (tokens_now store.past)
stated_below old store place state is k below =
    subst (λ (s : Stored). k < length (tokens_now s.past)) (sym is) (omega (arith, below, length-with_state (tokens_now old.past) place state))
