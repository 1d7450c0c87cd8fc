-- What is proved of the state of a content.
use Rattle.std.specs.Prelude.{◌≡◌}
use Rattle.model_core.specs.declared.model.Model.{Model}
use Rattle.model_core.specs.State.{State, AreInOrder, IsState}
use Rattle.model_core.specs.Content.{Content, shown, IsContent, AreAlike}
use Rattle.db_store.specs.StoreLaws.{HasEachOnce}
use Rattle.db_refusals.specs.InOrder.{state_of}

-- the state of a content is in order and like the content
pub record IsPutInOrder (content : Content) : Type 0 where
  pub alike : AreAlike (shown content) (state_of content)
  pub order : AreInOrder (state_of content)

abbrev pub ContentsArePutInOrder : Type 0
ContentsArePutInOrder = (content : Content) → HasEachOnce content → IsPutInOrder content

-- of a content of a model it is a state of the model
abbrev pub ContentsHaveStates : Type 0
ContentsHaveStates = (model : Model) (content : Content) → IsContent model content → IsState model (state_of content)

-- and every state in order that is like the content is this one
abbrev pub ContentsHaveOneState : Type 0
ContentsHaveOneState =
    (content : Content) (state : State)
    → HasEachOnce content → AreInOrder state → AreAlike (shown content) state → state ≡ state_of content
