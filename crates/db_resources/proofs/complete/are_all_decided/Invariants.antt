use Rattle.std.proofs.Common.{◌≡◌, ℕ, ◌<◌, Some}
use Rattle.std.specs.Prelude.{slice_get}
use Rattle.model_core.specs.declared.view.TokenState.TheVariants.{Inactive}
use Rattle.token_store.specs.Tokens.{tokens_now, token_states}
use Rattle.db_resources.proofs.complete.are_all_decided.Given as goal

abbrev pub invariant-loop-place : goal.invariant-loop-place
invariant-loop-place l = (n : ℕ) → n < l.place → slice_get (token_states (tokens_now l.tokens)) n ≡ Some Inactive → ⊥
