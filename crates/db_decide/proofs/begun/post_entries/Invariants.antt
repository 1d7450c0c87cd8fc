use Rattle.std.proofs.Common.{take}
use Rattle.db_store.specs.StoreMarks.{KeepStoreMarks}
use Rattle.db_posting.specs.Origins.{content_now, origin_context}
use Rattle.db_posting.specs.Posted.{OnlyPosts}
use Rattle.db_decide.specs.RootItems.{EntrySays, PostsSaid}
use Rattle.db_decide.proofs.Saying.{SaidOf}
use Rattle.db_decide.proofs.begun.post_entries.Given as goal

abbrev pub invariant-loop-entry : goal.invariant-loop-entry
invariant-loop-entry l = record {
  posted : (let context = origin_context (content_now l.fn.store).tokens l.origin in
      PostsSaid l.model (SaidOf l.model (λ decisions. EntrySays l.model decisions l.root context) (take l.entry-index l.entries)) l.fn.store l.store);
  only : OnlyPosts l.fn.store l.store;
  marks : KeepStoreMarks l.fn.store l.store;
}
