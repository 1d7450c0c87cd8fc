use Rattle.token_store.proofs.Ranks.{one_rank, one_at_rank}
use Rattle.token_store.proofs.laws.ranks_are_inverse.Goals as goal

pub returns : goal.returns
returns c = record {
  rank = one_rank c.names_are_in_order.ensures.tokens;
  place = one_at_rank c.names_are_in_order.ensures.tokens;
}
