use Rattle.std.proofs.Common.{◌≡◌, ◌≤◌, length, Some, None, sym, subst}
use Rattle.std.specs.Prelude.{slice_get}
use Rattle.eu_name.specs.declared.name.TokenName.{TokenName}
use Rattle.model_core.specs.TokenStates.{HasTokenState}
use Rattle.model_core.specs.Views.{IsTokenAt}
use Rattle.token_store.specs.Tokens.{TokenPast, tokens_now, token_names, token_states}
use Rattle.db_store.specs.Stores.{snapshot_of}
use Rattle.db_refusals.specs.Seeing.{Seen, seen_state, FindsRank, IsStateBelow, IsRankedState}
use Rattle.db_refusals.proofs.Seen.{count_told, state_somewhere, state_at_below, state_at_told}
use Rattle.db_refusals.proofs.view.StoreViewView.state_at.Goals as goal

pub returns-in_default : goal.returns-in_default
returns-in_default c =
    let store = c.self.inside.store.now in
    subst (λ (seen : Seen). length (seen_state seen.stored).tokens ≤ c.args.place) c.self.view_is
    (count_told c.self.inside.model.now c.self.inside.decisions.now (snapshot_of store) c.is_sound.ensures c.self.invariant c.args.place
    (subst (λ (past : TokenPast). FindsRank (token_names (tokens_now past)) c.args.place None) c.tokens-tokens.ensures c.in_default.ensures))

pub returns-in_default-state : goal.returns-in_default-state
returns-in_default-state c =
    let store = c.self.inside.store.now in
    absurd (state_somewhere c.self.inside.model.now c.self.inside.decisions.now (snapshot_of store) c.is_sound.ensures c.self.invariant c.args.place c.in-Some.found
    (subst (λ (past : TokenPast). FindsRank (token_names (tokens_now past)) c.args.place (Some c.in-Some.found)) c.tokens-tokens.ensures c.in-Some.ensures)
    (subst (λ (past : TokenPast). None ≡ slice_get (token_states (tokens_now past)) c.in-Some.found) c.tokens-tokens.ensures c.in_default-state.ensures))

pub ranked_state-requires : goal.ranked_state-requires
ranked_state-requires c =
    let store = c.self.inside.store.now in
    subst (λ (past : TokenPast). IsStateBelow (length (tokens_now past)) c.in-Some-state.state) (sym c.tokens-tokens.ensures)
    (state_at_below c.self.inside.model.now c.self.inside.decisions.now (snapshot_of store) c.is_sound.ensures c.self.invariant c.args.place c.in-Some.found
    (subst (λ (past : TokenPast). FindsRank (token_names (tokens_now past)) c.args.place (Some c.in-Some.found)) c.tokens-tokens.ensures c.in-Some.ensures)
    c.in-Some-state.state
    (sym (subst (λ (past : TokenPast). Some c.in-Some-state.state ≡ slice_get (token_states (tokens_now past)) c.in-Some.found) c.tokens-tokens.ensures c.in-Some-state.ensures)))

pub returns : goal.returns
returns c =
    let store = c.self.inside.store.now in
    subst (λ (seen : Seen). (token : TokenName) × IsTokenAt (seen_state seen.stored) c.args.place token
    × HasTokenState seen.model (seen_state seen.stored) seen.decisions token c.ranked_state.result) c.self.view_is
    (state_at_told c.self.inside.model.now c.self.inside.decisions.now (snapshot_of store) c.is_sound.ensures c.self.invariant c.args.place c.in-Some.found
    (subst (λ (past : TokenPast). FindsRank (token_names (tokens_now past)) c.args.place (Some c.in-Some.found)) c.tokens-tokens.ensures c.in-Some.ensures)
    c.in-Some-state.state c.ranked_state.result
    (sym (subst (λ (past : TokenPast). Some c.in-Some-state.state ≡ slice_get (token_states (tokens_now past)) c.in-Some.found) c.tokens-tokens.ensures c.in-Some-state.ensures))
    (subst (λ (past : TokenPast). IsRankedState (token_names (tokens_now past)) c.in-Some-state.state c.ranked_state.result) c.tokens-tokens.ensures c.ranked_state.ensures))
