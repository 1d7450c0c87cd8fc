-- What is proved of stores that are underway.
use Rattle.std.specs.Prelude.{ℕ, ◌<◌, List}
use Rattle.model_core.specs.declared.decision.Decision.{Decision}
use Rattle.model_core.specs.declared.model.Model.{Model}
use Rattle.model_core.specs.Lawful.{IsLawful}
use Rattle.db_store.specs.Stores.{Stored}
use Rattle.db_posting.specs.Underway.{IsStoreUnderway}
use Rattle.db_fixpoint.specs.Reading.{CanReadAt}

-- each block that is unfolded can be read
abbrev pub UnfoldedBlocksCanBeRead : Type 0
UnfoldedBlocksCanBeRead =
    (model : Model) (followed decisions : List Decision) (stored : Stored) (unfolded number : ℕ) (due : List ℕ)
    → IsLawful model → IsStoreUnderway model followed decisions stored unfolded due → number < unfolded
    → CanReadAt model stored number
