-- What is proved of items that are posted.
use Rattle.std.specs.Prelude.{◌↔◌, ℕ, ⊤, List, Contains}
use Rattle.domain_core.specs.declared.kind.Kind.{Kind}
use Rattle.eu_name.specs.declared.name.TokenName.{TokenName}
use Rattle.model_core.specs.declared.decision.ConArg.{ConArg}
use Rattle.model_core.specs.declared.decision.Decision.{Decision}
use Rattle.eu_name.specs.declared.name.VarName.{VarName}
use Rattle.model_core.specs.declared.item.Item.{Item}
use Rattle.model_core.specs.declared.item.Term.{Term}
use Rattle.model_core.specs.declared.model.Model.{Model}
use Rattle.model_core.specs.declared.variable.ValueKind.{ValueKind}
use Rattle.model_core.specs.Arguments.{IsInType, Takes}
use Rattle.model_core.specs.Decided.{IsTaken}
use Rattle.model_core.specs.Kinds.{Scope, OfProblem, OfRule, IsOfKind}
use Rattle.model_core.specs.Lawful.{IsLawful, IsLawfulItem}
use Rattle.model_core.specs.Tokens.{HasRule}
use Rattle.narrow_core.specs.declared.field.Field.{Field}
use Rattle.plan_defs.specs.Claims.{Claim, ItemSays}
use Rattle.plan_defs.specs.Terms.{Context, InProblem, InRule, Variable, Means}
use Rattle.model_core.specs.Content.{Content, IsContent}
use Rattle.db_refine.specs.Coming.{IsItemThere, IsTermThere}
use Rattle.db_store.specs.Keys.{named_variable}
use Rattle.db_store.specs.Stores.{Stored}
use Rattle.db_store.specs.declared.key.VarKey.{VarKey}
use Rattle.db_posting.specs.Counting.{ItemCounts, AreRootsThere}
use Rattle.db_posting.specs.Origins.{content_now}
use Rattle.db_posting.specs.Postable.{CanPostItem, CanPostArguments, IsItemNamed}
use Rattle.db_posting.specs.Posted.{Asserts}
use Rattle.db_posting.specs.Tables.{HaveTables}
use Rattle.db_posting.specs.Terms.{CanStand}

-- an item says just what it asserts, where all that it is about counts, and else nothing
abbrev pub WhatCountsIsSaid : Type 0
WhatCountsIsSaid =
    (model : Model) (decisions : List Decision) (context : Context) (item : Item) (claim : Claim)
    → ItemSays model (IsTaken decisions) context item claim
    ↔ (Asserts context item claim × ItemCounts model (IsTaken decisions) context item)

-- what stands in the problem, or in this rule of a token, is in this scope
abbrev pub IsInScope : Model → Context → Scope → Type 0
IsInScope model InProblem OfProblem = ⊤
IsInScope model (InRule token number) (OfRule pred rule) = HasRule model pred number rule
IsInScope model context scope = ⊥

-- what is lawful there is a value or has a name
abbrev pub LawfulTermsCanStand : Type 0
LawfulTermsCanStand =
    (model : Model) (context : Context) (scope : Scope) (kind : ValueKind) (term : Term)
    → IsLawful model → IsInScope model context scope → IsOfKind model scope kind term → CanStand context term

-- each lawful item can be posted where there is a table for each field
abbrev pub LawfulItemsCanBePosted : Type 0
LawfulItemsCanBePosted =
    (model : Model) (tables : List Field) (context : Context) (scope : Scope) (item : Item)
    → IsLawful model → HaveTables model tables → IsInScope model context scope → IsLawfulItem model scope item
    → CanPostItem tables context item

-- a constraint that has arguments as it takes them can be posted, even if they only can't be said to be none such
abbrev pub ArgumentsCanBePosted : Type 0
ArgumentsCanBePosted =
    (model : Model) (kind : Kind) (arguments : List ConArg)
    → IsLawful model → ((Takes (IsInType model) kind arguments → ⊥) → ⊥) → CanPostArguments kind arguments

-- the variables of an item are there where all that it is about is
abbrev pub WhatIsThereIsNamed : Type 0
WhatIsThereIsNamed =
    (model : Model) (content : Content) (token : TokenName) (rule : ℕ) (item : Item)
    → IsContent model content → Contains content.tokens token → IsItemThere content token rule item
    → IsItemNamed content (InRule token rule) item

-- and so it is with the items of the problem, where each root is there
abbrev pub ItemsOfProblemAreNamed : Type 0
ItemsOfProblemAreNamed =
    (model : Model) (content : Content) (item : Item)
    → IsContent model content → AreRootsThere model content → IsLawfulItem model OfProblem item
    → IsItemNamed content InProblem item

-- a variable whose key is there is there by its name
abbrev pub KeysAreNamed : Type 0
KeysAreNamed =
    (stored : Stored) (key : VarKey) → Contains stored.keys key
    → let content = content_now stored in Contains content.names (named_variable content.tokens key)

-- a term is there where the variable is that it means
abbrev pub NamedTermsAreThere : Type 0
NamedTermsAreThere =
    (content : Content) (context : Context) (term : Term) (name : VarName)
    → Means context term (Variable name) → Contains content.names name → IsTermThere content context term
