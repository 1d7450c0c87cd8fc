use Rattle.std.proofs.Common.{◌≡◌, ℕ, ◌<◌, List, Some}
use Rattle.std.specs.Prelude.{slice_get}
use Rattle.model_core.specs.declared.decision.ConArg.{ConArg}
use Rattle.model_core.specs.declared.decision.Decision.{Decision}
use Rattle.model_core.specs.Decided.{IsTaken}
use Rattle.plan_defs.specs.Claims.{argument_of}
use Rattle.plan_defs.specs.Terms.{ArgumentCounts}
use Rattle.db_store.specs.Stores.{Snapshot}
use Rattle.token_store.specs.Tokens.{tokens_now}
use Rattle.db_refusals.specs.Judging.{AreTold}
use Rattle.db_refusals.proofs.tokens.arguments_count.Given as goal

abbrev pub invariant-loop-argument : goal.invariant-loop-argument
invariant-loop-argument l =
    (decisions : List Decision) (snapshot : Snapshot) → snapshot.tokens ≡ tokens_now l.tokens → AreTold l.model decisions snapshot
    → (place : ℕ) (argument : ConArg) → place < l.argument-index → slice_get l.arguments place ≡ Some argument
    → ArgumentCounts l.model (IsTaken decisions) (argument_of argument)
