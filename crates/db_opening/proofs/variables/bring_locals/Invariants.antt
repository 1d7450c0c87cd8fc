use Rattle.std.proofs.Common.{take}
use Rattle.db_store.specs.StoreMarks.{KeepStoreMarks}
use Rattle.db_opening.specs.Bringing.{BringsKeys}
use Rattle.db_posting.specs.Wanted.{WantsLocals}
use Rattle.db_opening.proofs.variables.bring_locals.Given as goal

abbrev pub invariant-loop-local : goal.invariant-loop-local
invariant-loop-local g l = record {
  brings : BringsKeys (WantsLocals l.model l.pred l.at.token l.at.rule g.owner (take l.local-index l.locals)) l.initial.store l.store;
  marks : KeepStoreMarks l.initial.store l.store;
}
