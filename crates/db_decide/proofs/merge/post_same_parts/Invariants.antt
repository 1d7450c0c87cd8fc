use Rattle.std.proofs.Common.{take}
use Rattle.db_store.specs.StoreMarks.{KeepStoreMarks}
use Rattle.db_posting.specs.Origins.{content_now}
use Rattle.db_posting.specs.Posted.{PostsClaims, OnlyPosts}
use Rattle.db_decide.specs.Merging.{ClaimsSamePart}
use Rattle.db_decide.proofs.merge.post_same_parts.Given as goal

abbrev pub invariant-loop-part : goal.invariant-loop-part
invariant-loop-part l = record {
  posted : (let content = content_now l.fn.store in
      PostsClaims content.names (ClaimsSamePart content.tokens l.one l.other (take l.part-index l.parts)) l.fn.store.net.constraints l.store.net.constraints);
  only : OnlyPosts l.fn.store l.store;
  marks : KeepStoreMarks l.fn.store l.store;
}
