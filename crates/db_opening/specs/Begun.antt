-- Where a store stands before any decision, on the way to what misses nothing.
use Rattle.std.specs.Prelude.{◌≡◌, [], ⊤, Result, Ok, Err}
use Rattle.eu_name.specs.declared.name.TokenName.{TokenName}
use Rattle.model_core.specs.declared.model.Model.{Model}
use Rattle.token_store.specs.Tokens.{tokens_now}
use Rattle.constraint_net.specs.declared.NetFault.{NetFault}
use Rattle.constraint_net.specs.declared.NetFault.TheVariants.{Collapsed, Memory}
use Rattle.plan_defs.specs.Claims.{Claim, IsOfToken}
use Rattle.plan_defs.specs.Situations.{situation_of}
use Rattle.plan_defs.specs.Support.{IsSupportedToken}
use Rattle.db_refine.specs.Claims.{IsPostedIn}
use Rattle.model_core.specs.Content.{shown}
use Rattle.db_refine.specs.Growth.{LeaveNothing}
use Rattle.db_refine.specs.Progress.{IsJustified}
use Rattle.db_store.specs.Stores.{Stored, snapshot_of}
use Rattle.db_posting.specs.Counting.{AreTokenStates}
use Rattle.db_posting.specs.Origins.{content_now}
use Rattle.db_posting.specs.Wanted.{ArePreds}

-- all that is so of a store before any decision, whatever of the problem is still missing: no block is open, and that each token
-- lasts is posted
pub record IsBegun (model : Model) (stored : Stored) : Type 0 where
  pub justified : IsJustified model [] stored.net.tables stored.net.constraints (content_now stored)
  pub states : AreTokenStates model [] (snapshot_of stored)
  pub preds : ArePreds model (tokens_now stored.past)
  pub no_blocks : stored.blocks ≡ []
  pub of_tokens : (claim : Claim)
      → IsOfToken (shown (content_now stored)) claim → IsPostedIn (content_now stored).names stored.net.constraints claim

-- what bringing a token to it answers and leaves, where the token is asked for whatever is decided
abbrev pub StaysBegun : Model → TokenName → Stored → Result (Unit {0}) NetFault → Stored → Type 0
StaysBegun model token old (Ok done) new =
    IsBegun model old → IsSupportedToken model (situation_of [] (shown (content_now old))) token → IsBegun model new
StaysBegun model token old (Err Collapsed) new =
    IsBegun model old → IsSupportedToken model (situation_of [] (shown (content_now old))) token → LeaveNothing model []
StaysBegun model token old (Err Memory) new = ⊤
