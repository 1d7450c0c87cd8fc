-- What resources tell of a store that went on from one of which they were told.
use Rattle.std.specs.Prelude.{◌≡◌, ◌⊎◌, ℕ, ◌<◌, ⊤, List, [], ◌∷◌, ◌++◌, length, Some, slice_get}
use Rattle.cell_store.specs.Cells.{domain_at}
use Rattle.eu_name.specs.declared.name.Part.{Part}
use Rattle.eu_name.specs.declared.name.TokenName.{TokenName}
use Rattle.model_core.specs.declared.class.Pred.{Pred}
use Rattle.model_core.specs.declared.class.PredKind.{PredKind}
use Rattle.model_core.specs.declared.class.PredKind.TheVariants.{Uses, Produce, Consume}
use Rattle.model_core.specs.declared.decision.Decision.{Decision}
use Rattle.model_core.specs.declared.decision.Decision.TheVariants.{Activate, Specify, Order, Constrain, Relate}
use Rattle.model_core.specs.declared.model.Model.{Model}
use Rattle.model_core.specs.declared.view.TokenState.{TokenState}
use Rattle.token_store.specs.Tokens.{TokenList, tokens_now, token_names, token_preds, token_states}
use Rattle.plan_defs.specs.Unordered.{TakesPlace}
use Rattle.plan_defs.specs.Closure.{IsLeast}
use Rattle.db_posting.specs.Underway.{IsAtRest}
use Rattle.db_store.specs.declared.key.VarKey.TheVariants as key
use Rattle.db_store.specs.declared.store.Mark.{Mark}
use Rattle.db_store.specs.Stamps.{StampsGoOn}
use Rattle.db_store.specs.StoreMarks.{IsStoreMark}
use Rattle.db_store.specs.Stores.{Stored, Snapshot, snapshot_of}
use Rattle.db_refusals.specs.Seeing.{seen_state}
use Rattle.db_resources.specs.declared.touched.Resources.{Resources}
use Rattle.db_resources.specs.declared.touched.Resources.TheVariants.{Reusables, Reservoirs}

-- tokens of a predicate of this kind act on these resources
abbrev pub ActsOn : Resources → PredKind → Type 0
ActsOn Reusables Uses = ⊤
ActsOn Reservoirs Produce = ⊤
ActsOn Reservoirs Consume = ⊤
ActsOn resources kind = ⊥

-- the token at the place isn't kept with a predicate that does
abbrev pub IsNoActorAt : Resources → Model → TokenList → ℕ → Type 0
IsNoActorAt resources model tokens place =
    (pred : ℕ) (predicate : Pred)
    → slice_get (token_preds tokens) place ≡ Some pred → slice_get model.preds pred ≡ Some predicate
    → ActsOn resources predicate.kind → ⊥

-- if it takes place
abbrev pub IsIdleAt : Resources → Model → TokenList → ℕ → Type 0
IsIdleAt resources model tokens place =
    (state : TokenState)
    → slice_get (token_states tokens) place ≡ Some state → TakesPlace state → IsNoActorAt resources model tokens place

-- the variable of this number is a part of no token that takes place and acts on the resources
abbrev pub IsOfIdle : Resources → Model → Stored → ℕ → Type 0
IsOfIdle resources model stored number =
    (place : ℕ) (part : Part)
    → slice_get stored.keys number ≡ Some (key.Part place part) → IsIdleAt resources model (tokens_now stored.past) place

-- the decision doesn't let a token take place that acts on the resources
abbrev pub BeginsNone : Resources → Model → Stored → Decision → Type 0
BeginsNone resources model stored decision =
    (token : TokenName) (place : ℕ)
    → decision ≡ Activate token → slice_get (token_names (tokens_now stored.past)) place ≡ Some token
    → IsNoActorAt resources model (tokens_now stored.past) place

-- tokens that take place and act on the resources did so already, and their variables have the domains that they had
pub record AreActorsAsBefore (resources : Resources) (model : Model) (stored : Stored) (decision : Decision) (there : Snapshot)
    : Type 0 where
  pub begun : BeginsNone resources model stored decision
  pub parts : (number : ℕ) → number < length stored.keys
      → ((number < length there.keys) × (domain_at stored.net.domains number ≡ domain_at there.domains number))
      ⊎ IsOfIdle resources model stored number

-- the decision doesn't decide what becomes of a token
abbrev pub DecidesNoToken : Decision → Type 0
DecidesNoToken (Specify name value) = ⊤
DecidesNoToken (Order first second) = ⊤
DecidesNoToken (Constrain kind arguments) = ⊤
DecidesNoToken (Relate relation first second) = ⊤
DecidesNoToken decision = ⊥

-- no token was decided, as many blocks are open as were at the mark, and all that change levels are as they were
pub record AreLevelsAsBefore (model : Model) (stored : Stored) (decision : Decision) (mark : Mark) (opened : ℕ) : Type 0 where
  pub undecided : DecidesNoToken decision
  pub blocks : length stored.blocks ≡ opened
  pub actors : (there : Snapshot) → IsStoreMark stored mark there → AreActorsAsBefore Reservoirs model stored decision there

-- at the mark the store was at rest for all decisions but the last, whose least state was in it, and so many blocks were open
pub record FittedAt (model : Model) (decisions : List Decision) (last : Decision) (stored : Stored) (mark : Mark) (opened : ℕ)
    : Type 0 where
  pub former : Stored
  pub marked : IsStoreMark stored mark (snapshot_of former)
  pub goes_on : StampsGoOn former stored
  pub blocks : opened ≡ length former.blocks
  pub earlier : List Decision
  pub longer : decisions ≡ earlier ++ last ∷ []
  pub rest : IsAtRest model earlier former.net.tables (snapshot_of former)
  pub least : IsLeast model earlier (seen_state former)
