use Rattle.db_store.specs.StoreMarks.{KeepStoreMarks}
use Rattle.db_posting.specs.Origins.{content_now}
use Rattle.db_posting.specs.Posted.{OnlyPosts}
use Rattle.db_decide.specs.RootItems.{SaysInBlocks, PostsSaid}
use Rattle.db_decide.proofs.begun.post_in_blocks.Given as goal

abbrev pub invariant-loop-number : goal.invariant-loop-number
invariant-loop-number l = record {
  posted : PostsSaid l.model (λ decisions. SaysInBlocks l.model decisions l.root (content_now l.fn.store) l.number) l.fn.store l.store;
  only : OnlyPosts l.fn.store l.store;
  marks : KeepStoreMarks l.fn.store l.store;
}
