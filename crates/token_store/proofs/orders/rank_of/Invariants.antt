use Rattle.std.proofs.Common.{ℕ, ◌-◌, ◌<◌, ◌≤◌, length, slice_index_or}
use Rattle.eu_name.specs.NameOrder.{IsTokenBefore}
use Rattle.token_store.specs.Tokens.{token_names}
use Rattle.token_store.specs.Orders.{name_at}
use Rattle.token_store.proofs.orders.rank_of.Given as goal

-- before the low rank all come before the name, and from the high one on none does
abbrev pub invariant-loop-low : goal.invariant-loop-low
invariant-loop-low l = record {
  apart : l.low ≤ l.high;
  within : l.high ≤ length l.by_rank;
  lower : (other : ℕ) → other < l.low → IsTokenBefore (name_at (token_names l.initial.tokens.entries) (slice_index_or l.by_rank other 0)) l.initial.name;
  upper : (other : ℕ) → l.high ≤ other → other < length l.by_rank → IsTokenBefore (name_at (token_names l.initial.tokens.entries) (slice_index_or l.by_rank other 0)) l.initial.name → ⊥;
}

abbrev pub decreases-loop-low : goal.decreases-loop-low
decreases-loop-low l = l.high - l.low
