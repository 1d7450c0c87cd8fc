use Rattle.std.proofs.Common.{take}
use Rattle.std.specs.Prelude.{Contains}
use Rattle.token_store.specs.Orders.{name_at}
use Rattle.db_store.specs.StoreMarks.{KeepStoreMarks}
use Rattle.db_posting.specs.Origins.{content_now}
use Rattle.db_posting.specs.Posted.{PostsClaims, OnlyPosts, comparisons_claim}
use Rattle.db_posting.proofs.posting.post_comparisons.Given as goal

abbrev pub invariant-loop-comparison : goal.invariant-loop-comparison
invariant-loop-comparison l = record {
  posted : (let content = content_now l.fn.store in
      PostsClaims content.names (Contains (comparisons_claim (name_at content.tokens l.one) (name_at content.tokens l.other) (take l.comparison-index l.comparisons)))
      l.fn.store.net.constraints l.store.net.constraints);
  only : OnlyPosts l.fn.store l.store;
  marks : KeepStoreMarks l.fn.store l.store;
}
