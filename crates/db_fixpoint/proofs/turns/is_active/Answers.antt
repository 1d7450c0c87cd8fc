use Rattle.std.proofs.Common.{slice_get, sym, ap, ◌∙◌}
use Rattle.token_store.specs.Tokens.{tokens_now, token_states, TokenPast}
use Rattle.db_fixpoint.proofs.Sharing.{active_said}
use Rattle.db_fixpoint.proofs.turns.is_active.Goals as goal

pub returns : goal.returns
returns c =
    active_said c.args.store.now c.args.place c.in-Some.state c.takes_place.result c.requires
    (ap (λ (past : TokenPast). slice_get (token_states (tokens_now past)) c.args.place) (sym c.tokens.ensures) ∙ sym c.state.ensures ∙ c.in-Some.is) c.takes_place.ensures
