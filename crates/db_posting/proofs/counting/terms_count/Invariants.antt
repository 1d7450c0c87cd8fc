use Rattle.std.proofs.Common.{List, take}
use Rattle.std.specs.Prelude.{All}
use Rattle.model_core.specs.declared.decision.Decision.{Decision}
use Rattle.model_core.specs.Decided.{IsTaken}
use Rattle.db_store.specs.Stores.{snapshot_of}
use Rattle.db_posting.specs.Counting.{TermCounts, AreTokenStates}
use Rattle.db_posting.specs.Origins.{content_now, origin_context}
use Rattle.db_posting.proofs.counting.terms_count.Given as goal

abbrev pub invariant-loop-term : goal.invariant-loop-term
invariant-loop-term l =
    (decisions : List Decision) → AreTokenStates l.model decisions (snapshot_of l.store)
    → All (TermCounts l.model (IsTaken decisions) (origin_context (content_now l.store).tokens l.origin)) (take l.term-index l.terms)
