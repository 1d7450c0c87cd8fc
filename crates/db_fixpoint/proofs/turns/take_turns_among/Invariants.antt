use Rattle.std.proofs.Common.{take}
use Rattle.db_store.specs.StoreMarks.{KeepStoreMarks}
use Rattle.db_posting.specs.Posted.{OnlyPosts}
use Rattle.db_fixpoint.specs.Turns.{TakesTurnsAmong}
use Rattle.db_fixpoint.proofs.turns.take_turns_among.Given as goal

abbrev pub invariant-loop-other : goal.invariant-loop-other
invariant-loop-other l = record {
  turns : TakesTurnsAmong l.model l.place (take l.other-index l.others) l.fn.store l.store;
  only : OnlyPosts l.fn.store l.store;
  marks : KeepStoreMarks l.fn.store l.store;
}
