-- When points in time can be as edges between them have it, and the cycle of edges that is told where they can't.
use Rattle.std.specs.Prelude.{◌≡◌, ◌≢◌, ◌⊎◌, ◌↔◌, ℤ, pos, ◌+ℤ◌}
use Rattle.std.specs.Prelude.{◌≤ℤ◌, ◌<ℤ◌, List, [], ◌∷◌, ◌++◌, Contains, AllPairs}
use Rattle.eu_name.specs.declared.name.Part.TheVariants as part
use Rattle.eu_name.specs.declared.name.VarName.{VarName}
use Rattle.eu_name.specs.declared.name.VarName.TheVariants.{Global, Token}
use Rattle.eu_name.specs.NameOrder.{IsVarBefore}
use Rattle.db_edges.specs.declared.edge.NamedEdge.{NamedEdge}
use Rattle.db_edges.specs.declared.edge.Point.{Point}
use Rattle.db_edges.specs.declared.edge.Point.TheVariants.{Origin, Start, End}

-- each point has a time, the origin 0, and each edge's second point comes no sooner than the gap after the first
pub record IsTiming (edges : List NamedEdge) (time : Point → ℤ) : Type 0 where
  pub origin : time Origin ≡ pos 0
  pub keeps : (edge : NamedEdge) → Contains edges edge → (time edge.from +ℤ edge.gap) ≤ℤ time edge.to

-- no times are so
abbrev pub HasNoTiming : List NamedEdge → Type 0
HasNoTiming edges = (time : Point → ℤ) → IsTiming edges time → ⊥

-- what is left when, after the edges that are kept, each further one in order goes without which the others still have no timing
abbrev pub LeavesBy : List NamedEdge → List NamedEdge → List NamedEdge → Type 0
LeavesBy kept [] left = left ≡ kept
LeavesBy kept (edge ∷ edges) left =
    (HasNoTiming (kept ++ edges) × LeavesBy kept edges left)
    ⊎ ((HasNoTiming (kept ++ edges) → ⊥) × LeavesBy (kept ++ edge ∷ []) edges left)

-- the edges lead from one point to the other, each from where the one before it ends
abbrev pub LeadsAlong : Point → List NamedEdge → Point → Type 0
LeadsAlong from [] to = from ≡ to
LeadsAlong from (edge ∷ edges) to = (edge.from ≡ from) × LeadsAlong edge.to edges to

-- there is an edge, and they lead back to where the first begins
abbrev pub LeadsRound : List NamedEdge → Type 0
LeadsRound [] = ⊥
LeadsRound (edge ∷ edges) = LeadsAlong edge.to edges edge.from

-- no two of the edges begin at one point
abbrev pub PassesOnce : List NamedEdge → Type 0
PassesOnce edges = AllPairs (λ one later. later.from ≢ one.from) edges

-- the sum of the gaps of the edges
abbrev pub gaps_of : List NamedEdge → ℤ
gaps_of [] = pos 0
gaps_of (edge ∷ edges) = edge.gap +ℤ gaps_of edges

-- the variable in whose place the point stands in the order: a token's start and end in their own, and the origin before them all
abbrev pub ranks_as : Point → VarName
ranks_as Origin = Global 0
ranks_as (Start token) = Token token part.Start
ranks_as (End token) = Token token part.End

-- the one point comes before the other: the origin first, and then the starts and ends in the order of variables
abbrev pub IsPointBefore : Point → Point → Type 0
IsPointBefore one other = IsVarBefore (ranks_as one) (ranks_as other)

-- the first of the edges begins at no later point than any other
abbrev pub BeginsFirst : List NamedEdge → Type 0
BeginsFirst [] = ⊥
BeginsFirst (edge ∷ edges) =
    (other : NamedEdge) → Contains edges other → (edge.from ≡ other.from) ⊎ IsPointBefore edge.from other.from

-- the edges that are left, in the order of a simple cycle from its first point on, whose gaps sum to more than 0
pub record IsCanonicalRound (edges round : List NamedEdge) : Type 0 where
  pub left : List NamedEdge
  pub leaves : LeavesBy [] edges left
  pub same : (edge : NamedEdge) → Contains round edge ↔ Contains left edge
  pub leads : LeadsRound round
  pub once : PassesOnce round
  pub positive : pos 0 <ℤ gaps_of round
  pub first : BeginsFirst round

-- there are such times, and no cycle; or there are none, and it is the canonical one
abbrev pub IsTimeCycle : List NamedEdge → List NamedEdge → Type 0
IsTimeCycle edges cycle =
    (((time : Point → ℤ) × IsTiming edges time) × (cycle ≡ []))
    ⊎ (HasNoTiming edges × IsCanonicalRound edges cycle)
