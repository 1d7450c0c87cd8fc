-- The time edges of a list of decisions, read from the list and from the state that its decisions but the last leave.
use Rattle.std.specs.Prelude.{◌≡◌, ◌⊎◌, ℕ, ◌-◌, ℤ, pos, ◌-ℤ◌, List, [], ◌∷◌, ◌++◌, Some, length}
use Rattle.std.specs.Prelude.{slice_get, Contains}
use Rattle.domain_core.specs.Domain.{Domain, least, greatest}
use Rattle.eu_name.specs.declared.name.Part.{Part}
use Rattle.eu_name.specs.declared.name.Part.TheVariants as part
use Rattle.eu_name.specs.declared.name.TokenName.{TokenName}
use Rattle.eu_name.specs.declared.name.VarName.TheVariants.{Token}
use Rattle.model_core.specs.declared.decision.Decision.{Decision}
use Rattle.model_core.specs.declared.decision.Decision.TheVariants.{Specify, Order, Constrain, Relate}
use Rattle.model_core.specs.declared.item.Item.{Item}
use Rattle.model_core.specs.declared.item.Item.TheVariants.{Constraint, Relation}
use Rattle.domain_core.specs.declared.kind.Kind.{Kind}
use Rattle.domain_core.specs.declared.kind.Kind.TheVariants.{Eq, Lt, Leq}
use Rattle.model_core.specs.declared.model.Model.{Model}
use Rattle.model_core.specs.declared.model.Problem.{Problem}
use Rattle.model_core.specs.Decided.{IsActive, IsTaken}
use Rattle.model_core.specs.State.{State, Gives}
use Rattle.model_core.specs.Tokens.{slot_token}
use Rattle.plan_defs.specs.Claims.{Claim, ItemSays, relates, posted_claim}
use Rattle.plan_defs.specs.Terms.{Context, Argument}
use Rattle.db_edges.specs.declared.edge.NamedEdge.{NamedEdge}
use Rattle.db_edges.specs.declared.edge.Point.{Point}
use Rattle.db_edges.specs.declared.edge.Point.TheVariants.{Origin, Start, End}
use Rattle.db_edges.specs.Points.{IsPointOf, IsArgumentPoint}

-- the one point comes at least this long before the other
abbrev pub edge_from : Point → ℤ → Point → NamedEdge
edge_from one gap other = record { from = one; gap = gap; to = other }

-- what the things have, one after another
abbrev pub AppendsEach : {X Y : Type 0} → (X → List Y → Type 0) → List X → List Y → Type 0
AppendsEach Has [] found = found ≡ []
AppendsEach {X} {Y} Has (thing ∷ things) found =
    (first rest : List Y) × Has thing first × AppendsEach Has things rest × (found ≡ first ++ rest)

-- the decision is the last of the list
abbrev pub IsLastOf : List Decision → Decision → Type 0
IsLastOf decisions decision = slice_get decisions (length decisions - 1) ≡ Some decision

-- the least and the greatest duration of the token: what the last decision says it is, or else what the state leaves of it
abbrev pub LastsBetween : State → List Decision → TokenName → ℤ → ℤ → Type 0
LastsBetween state decisions token low high =
    (IsLastOf decisions (Specify (Token token part.Duration) low) × (high ≡ low))
    ⊎ (((value : ℤ) → IsLastOf decisions (Specify (Token token part.Duration) value) → ⊥)
    × ((domain : Domain) × Gives state (Token token part.Duration) domain × (low ≡ least domain) × (high ≡ greatest domain)))

-- a token that takes place by itself lies within the horizon, and its end follows its start by its duration
abbrev pub lasting_edges : Problem → TokenName → ℤ → ℤ → List NamedEdge
lasting_edges problem token low high =
    edge_from Origin problem.start (Start token)
    ∷ edge_from (End token) (pos 0 -ℤ problem.end) Origin
    ∷ edge_from (Start token) low (End token)
    ∷ edge_from (End token) (pos 0 -ℤ high) (Start token)
    ∷ []

-- the edges of a token by itself
abbrev pub HasLastingEdges : Model → State → List Decision → TokenName → List NamedEdge → Type 0
HasLastingEdges model state decisions token edges =
    (IsActive model decisions token
    × ((low high : ℤ) × LastsBetween state decisions token low high × (edges ≡ lasting_edges model.problem token low high)))
    ⊎ ((IsActive model decisions token → ⊥) × (edges ≡ []))

-- the decisions give the part of the token the value, and it is this point
abbrev pub IsGivenPoint : Model → List Decision → TokenName → Part → ℤ → Point → Type 0
IsGivenPoint model decisions token which value point =
    Contains decisions (Specify (Token token which) value) × IsPointOf model decisions token which point

-- the edges of a part of a token that is given a value: it is that long after the origin
abbrev pub HasGivenEdges : Model → List Decision → TokenName → Part → List NamedEdge → Type 0
HasGivenEdges model decisions token which edges =
    ((value : ℤ) × (point : Point) × IsGivenPoint model decisions token which value point
    × (edges ≡ edge_from Origin value point ∷ edge_from point (pos 0 -ℤ value) Origin ∷ []))
    ⊎ (((value : ℤ) (point : Point) → IsGivenPoint model decisions token which value point → ⊥) × (edges ≡ []))

-- those of its start, and then those of its end
abbrev pub HasTimesGiven : Model → List Decision → TokenName → List NamedEdge → Type 0
HasTimesGiven model decisions token edges =
    (starts ends : List NamedEdge) × HasGivenEdges model decisions token part.Start starts
    × HasGivenEdges model decisions token part.End ends × (edges ≡ starts ++ ends)

-- the edges of two points that are compared
abbrev pub comparing_edges : Kind → Point → Point → List NamedEdge
comparing_edges Leq one other = edge_from one (pos 0) other ∷ []
comparing_edges Lt one other = edge_from one (pos 1) other ∷ []
comparing_edges Eq one other = edge_from one (pos 0) other ∷ edge_from other (pos 0) one ∷ []
comparing_edges kind one other = []

-- the claim compares the two points
abbrev pub ComparesPoints : Model → List Decision → Claim → Point → Point → Type 0
ComparesPoints model decisions claim from to =
    (one other : Argument) × (claim.arguments ≡ one ∷ other ∷ [])
    × IsArgumentPoint model decisions one from × IsArgumentPoint model decisions other to

-- the edges of a claim, if it compares points
abbrev pub HasClaimEdges : Model → List Decision → Claim → List NamedEdge → Type 0
HasClaimEdges model decisions claim edges =
    ((from to : Point) × ComparesPoints model decisions claim from to × (edges ≡ comparing_edges claim.kind from to))
    ⊎ (((from to : Point) → ComparesPoints model decisions claim from to → ⊥) × (edges ≡ []))

-- the edges of an item of a rule, if it is a relation
abbrev pub HasRelationEdges : Model → List Decision → TokenName → ℕ → Item → List NamedEdge → Type 0
HasRelationEdges model decisions token rule (Relation rel slot) edges =
    AppendsEach (HasClaimEdges model decisions) (relates rel token (slot_token token rule slot)) edges
HasRelationEdges model decisions token rule (Constraint kind terms) edges = edges ≡ []

-- the constraint says the claim, where all that it is about counts, and the claim compares the two points
abbrev pub SaysOfPoints : Model → List Decision → Context → Item → Claim → Point → Point → Type 0
SaysOfPoints model decisions context item claim from to =
    ItemSays model (IsTaken decisions) context item claim × ComparesPoints model decisions claim from to

-- the edges of an item, if it is a constraint
abbrev pub HasConstraintEdges : Model → List Decision → Context → Item → List NamedEdge → Type 0
HasConstraintEdges model decisions context (Constraint kind terms) edges =
    ((claim : Claim) × (from to : Point) × SaysOfPoints model decisions context (Constraint kind terms) claim from to
    × (edges ≡ comparing_edges kind from to))
    ⊎ (((claim : Claim) (from to : Point) → SaysOfPoints model decisions context (Constraint kind terms) claim from to → ⊥)
    × (edges ≡ []))
HasConstraintEdges model decisions context (Relation rel slot) edges = edges ≡ []

-- the edge of an order
abbrev pub HasOrderEdges : Decision → List NamedEdge → Type 0
HasOrderEdges (Order one other) edges = edges ≡ edge_from (End one) (pos 0) (Start other) ∷ []
HasOrderEdges decision edges = edges ≡ []

-- the edges of a decision that posts something: a constraint, or all that a relation says; what is said of points counts
abbrev pub HasPostedEdges : Model → List Decision → Decision → List NamedEdge → Type 0
HasPostedEdges model decisions (Constrain kind arguments) edges = HasClaimEdges model decisions (posted_claim kind arguments) edges
HasPostedEdges model decisions (Relate relation one other) edges =
    AppendsEach (HasClaimEdges model decisions) (relates relation one other) edges
HasPostedEdges model decisions decision edges = edges ≡ []
