use Rattle.std.proofs.Common.{◌≡◌, ℕ, ◌<◌, [], Ok}
use Rattle.std.specs.Prelude.{Contains}
use Rattle.model_core.specs.Decided.{IsActivated}
use Rattle.token_store.specs.Orders.{name_at}
use Rattle.model_core.specs.Blocks.{block_at}
use Rattle.db_store.specs.StoreMarks.{KeepStoreMarks}
use Rattle.db_posting.specs.Origins.{content_now}
use Rattle.db_posting.specs.Underway.{StaysUnderway, OnlyAdds}
use Rattle.db_decide.proofs.activate.open_rules.Given as goal

abbrev pub invariant-loop-rule : goal.invariant-loop-rule
invariant-loop-rule l = record {
  underway : StaysUnderway l.model (λ decisions. IsActivated decisions (name_at (content_now l.fn.store).tokens l.token)) l.fn.store (Ok tt) l.store;
  opens : ((rule : ℕ) → rule < l.rule → Contains (content_now l.store).blocks (block_at (name_at (content_now l.fn.store).tokens l.token) rule []));
  past : l.store.past ≡ l.fn.store.past;
  adds : OnlyAdds l.fn.store l.store;
  marks : KeepStoreMarks l.fn.store l.store;
}
