use Rattle.std.proofs.Common.{take}
use Rattle.db_posting.specs.Posted.{OnlyPosts}
use Rattle.db_opening.specs.Begun.{IsBegun}
use Rattle.db_opening.specs.Beginning.{AreItemsSaid}
use Rattle.db_opening.proofs.problem.post_problem.Given as goal

abbrev pub invariant-loop-item : goal.invariant-loop-item
invariant-loop-item l = record {
  begun : IsBegun l.model l.store;
  said : AreItemsSaid l.model (take l.item-index l.items) l.store;
  only : OnlyPosts l.initial.store l.store;
}
