use Rattle.std.proofs.Common.{take}
use Rattle.db_store.specs.StoreMarks.{KeepStoreMarks}
use Rattle.db_opening.specs.Bringing.{BringsKeys}
use Rattle.db_opening.specs.Parts.{slot_asked, WantsParts}
use Rattle.db_opening.proofs.parts.bring_parts.Given as goal

abbrev pub invariant-loop-part : goal.invariant-loop-part
invariant-loop-part l = record {
  brings : BringsKeys (WantsParts l.model (slot_asked l.asked) l.place (take l.part-index l.parts)) l.initial.store l.store;
  marks : KeepStoreMarks l.initial.store l.store;
}
