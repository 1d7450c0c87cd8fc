use Rattle.std.proofs.Common.{◌≡◌, ◌≤◌, take}
use Rattle.std.specs.Prelude.{sum_by}
use Rattle.token_store.specs.Tokens.{tokens_now, token_states}
use Rattle.db_refusals.specs.Judging.{one_if_active}
use Rattle.db_refusals.proofs.tokens.count_active.Given as goal

abbrev pub invariant-loop-place : goal.invariant-loop-place
invariant-loop-place l = (l.active ≡ sum_by one_if_active (take l.place (token_states (tokens_now l.tokens)))) × (l.active ≤ l.place)
