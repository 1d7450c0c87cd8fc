-- What a store at rest tells.
use Rattle.std.proofs.Common.{List, [], length, inl, inr}
use Rattle.model_core.specs.declared.decision.Decision.{Decision}
use Rattle.model_core.specs.declared.decision.Decision.TheVariants.{Activate, Merge}
use Rattle.model_core.specs.declared.model.Model.{Model}
use Rattle.narrow_core.specs.declared.field.Field.{Field}
use Rattle.db_posting.specs.Underway.{IsAtRest}
use Rattle.db_refine.proofs.Naming.{active_there}
use Rattle.db_store.specs.Stores.{Snapshot, named_content}
use Rattle.plan_defs.specs.Unordered.{AreDecidedOnce}
use Rattle.db_refusals.specs.Judging.{AreTold}

pub rest_told : (model : Model) (decisions : List Decision) (tables : List Field) (snapshot : Snapshot) → AreDecidedOnce model decisions
    → IsAtRest model decisions tables snapshot → AreTold model decisions snapshot
rest_told model decisions tables snapshot once rest =
    let misses = rest.underway.complete in
    record {
      states = rest.underway.states;
      once = once;
      taken = λ token taken. elim taken [
        | inl activated ↦ misses.known (Activate token) activated
        | inr merged ↦ (misses.known (Merge token merged.0) merged.1).0
      ];
      facts = λ token fact. active_there model decisions snapshot.posted (named_content snapshot) (length snapshot.blocks) [] misses token (inl fact);
      bases = λ name domain gives. let has = rest.underway.justified.in_base name domain gives in (has.0, has.1);
    }
