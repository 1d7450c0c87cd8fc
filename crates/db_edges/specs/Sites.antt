-- Where terms are read, and which of them are parts of tokens.
use Rattle.std.specs.Prelude.{List, ⊤, All, ◌<◌, ◌^◌}
use Rattle.eu_name.specs.declared.name.VarName.TheVariants.{Token}
use Rattle.model_core.specs.declared.decision.Decision.{Decision}
use Rattle.model_core.specs.declared.item.Item.{Item}
use Rattle.model_core.specs.declared.item.Item.TheVariants.{Constraint, Relation}
use Rattle.model_core.specs.declared.item.Term.{Term}
use Rattle.model_core.specs.declared.item.Term.TheVariants as terms
use Rattle.model_core.specs.declared.model.Model.{Model}
use Rattle.plan_defs.specs.Terms.{Context, InProblem, InRule, Argument, Variable, Means}
use Rattle.db_edges.specs.declared.edge.Point.{Point}
use Rattle.db_edges.specs.declared.comparing.NamedPart.{NamedPart}
use Rattle.db_edges.specs.declared.comparing.Site.{Site}
use Rattle.db_edges.specs.declared.comparing.Site.TheVariants as site
use Rattle.db_edges.specs.Points.{IsArgumentPoint}

-- what terms mean there
abbrev pub context_at : Site → Context
context_at site.Problem = InProblem
context_at (site.Rule token rule) = InRule token.now rule

-- the slot's number is one of 16 bits
abbrev pub HasShortSlot : Term → Type 0
HasShortSlot (terms.Slot number part) = number < 2 ^ 16
HasShortSlot term = ⊤

-- each slot that the item names has such a number
abbrev pub HasShortSlots : Item → Type 0
HasShortSlots (Constraint kind listed) = All HasShortSlot listed
HasShortSlots (Relation rel slot) = slot < 2 ^ 16

-- the term means this part of this token
abbrev pub IsNamedPart : Context → Term → NamedPart → Type 0
IsNamedPart context term named = Means context term (Variable (Token named.token named.part))

-- the term means what is this point
abbrev pub IsTermPoint : Model → List Decision → Context → Term → Point → Type 0
IsTermPoint model decisions context term point =
    (argument : Argument) × Means context term argument × IsArgumentPoint model decisions argument point
