use Rattle.token_store.specs.Orders.{name_at}
use Rattle.token_store.specs.Tokens.{tokens_now, token_names}
use Rattle.db_opening.proofs.blocks.bring_block.Given as goal

abbrev pub ghost-bring_locals : goal.ghost-bring_locals
ghost-bring_locals a = name_at (token_names (tokens_now a.store.now.past)) a.at.token
