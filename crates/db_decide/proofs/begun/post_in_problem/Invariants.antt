use Rattle.std.proofs.Common.{take}
use Rattle.plan_defs.specs.Terms.{InProblem}
use Rattle.db_store.specs.StoreMarks.{KeepStoreMarks}
use Rattle.db_posting.specs.Posted.{OnlyPosts}
use Rattle.db_decide.specs.RootItems.{SaysOfRoot, PostsSaid}
use Rattle.db_decide.proofs.Saying.{SaidOf}
use Rattle.db_decide.proofs.begun.post_in_problem.Given as goal

abbrev pub invariant-loop-item : goal.invariant-loop-item
invariant-loop-item l = record {
  posted : PostsSaid l.model (SaidOf l.model (λ decisions. SaysOfRoot l.model decisions l.root InProblem) (take l.item-index l.items)) l.fn.store l.store;
  only : OnlyPosts l.fn.store l.store;
  marks : KeepStoreMarks l.fn.store l.store;
}
