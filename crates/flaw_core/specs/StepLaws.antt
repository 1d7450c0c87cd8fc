-- What is proved of the search by a rule.
use Rattle.std.specs.Prelude.{ℕ, List}
use Rattle.model_core.specs.declared.decision.Decision.{Decision}
use Rattle.model_core.specs.declared.model.Model.{Model}
use Rattle.law_search.specs.Search.{SearchOutcome, Searches}
use Rattle.flaw_core.specs.Rules.{IsFirstAt, AreChoicesAt}
use Rattle.flaw_core.specs.ByRule.{SearchesBy}

-- by the rule of the stated order, the search is the stated one
abbrev pub PlainSearchesAreSearches : Type 0
PlainSearchesAreSearches =
    (model : Model) (bound units : ℕ) (decisions : List Decision) (outcome : SearchOutcome)
    → SearchesBy IsFirstAt AreChoicesAt model bound units decisions outcome
    → Searches model bound units decisions outcome
