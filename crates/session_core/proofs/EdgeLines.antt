-- Where decisions leave nothing, the cycle of their time edges can be told: the model has the token of each point of an edge.
use Rattle.std.proofs.Common.{◌⊎◌, ℕ, pos, ◌-ℤ◌, inl, inr, List, [], ◌∷◌, ◌++◌, refl, sym, subst}
use Rattle.std.specs.Prelude.{Contains, All, codes}
use Rattle.std.specs.List.{AllZip}
use Rattle.std.proofs.lemmas.List.Elements.{All-contains, Contains-append_cases, Contains-push_cases}
use Rattle.domain_core.specs.declared.kind.Kind.{Kind}
use Rattle.domain_core.specs.declared.kind.Kind.TheVariants.{Eq, Lt, Leq}
use Rattle.eu_name.specs.declared.name.Part.{Part}
use Rattle.eu_name.specs.declared.name.Part.TheVariants as part
use Rattle.eu_name.specs.declared.name.Step.{Step}
use Rattle.eu_name.specs.declared.name.TokenName.{TokenName}
use Rattle.eu_name.specs.declared.name.VarName.TheVariants.{Token}
use Rattle.eu_name.proofs.Ordered.{contains_head, contains_later, contains_cases, contains_none}
use Rattle.model_core.specs.declared.decision.Decision.{Decision}
use Rattle.model_core.specs.declared.decision.Decision.TheVariants.{Specify, Activate, Merge, Reject, Order, Constrain, Relate}
use Rattle.model_core.specs.declared.item.Item.{Item}
use Rattle.model_core.specs.declared.item.Item.TheVariants.{Constraint, Relation}
use Rattle.model_core.specs.declared.model.Model.{Model}
use Rattle.model_core.specs.History.{standing}
use Rattle.model_core.specs.Lawful.{IsLawful, IsToken}
use Rattle.model_core.specs.State.{State}
use Rattle.model_core.specs.Tokens.{IsFact, Reaches, slot_of, slot_token}
use Rattle.plan_defs.specs.Claims.{Claim, posted_claim, relates}
use Rattle.plan_defs.specs.Terms.{Context, InProblem, InRule, Argument, Variable}
use Rattle.plan_db.specs.Database.{Database, IsSound}
use Rattle.plan_db.specs.Edges.{AreStandingEdges}
use Rattle.db_edges.specs.declared.edge.NamedEdge.{NamedEdge}
use Rattle.db_edges.specs.declared.edge.Point.{Point}
use Rattle.db_edges.specs.declared.edge.Point.TheVariants.{Origin, Start, End}
use Rattle.db_edges.specs.declared.walking.Sort.{Sort}
use Rattle.db_edges.specs.declared.walking.Sort.TheVariants.{Relations, Constraints}
use Rattle.db_edges.specs.Edges.{AppendsEach, HasLastingEdges, HasGivenEdges, HasTimesGiven, edge_from, comparing_edges}
use Rattle.db_edges.specs.Edges.{ComparesPoints, HasClaimEdges, HasRelationEdges, HasConstraintEdges, HasOrderEdges, HasPostedEdges}
use Rattle.db_edges.specs.Points.{ActsAs, IsMoment, IsPointOf, IsArgumentPoint}
use Rattle.db_edges.specs.TimeCycle.{LeavesBy, IsTimeCycle}
use Rattle.db_edges.specs.Whole.{TokenItem, items_of_rules, HasSortEdges, HasOpenEdges, HasTokenEdges, AreTimeEdges}
use Rattle.law_cycles.proofs.Cycling.{edges_have_cycles}
use Rattle.law_cycles.proofs.Edging.{databases_have_edges}
use Rattle.session_replies.specs.Lines.{counted_lines, IsEdgeLine}
use Rattle.session_replies.specs.Writable.{IsWritable, IsPointWritable, IsEdgeWritable}
use Rattle.session_replies.proofs.Existing.{edges_have_lines}
use Rattle.session_replies.proofs.Settled.{standing_writable}
use Rattle.session_core.specs.Existence.{CollapsesHaveCycles}

-- each of the edges can be written
abbrev AreWritable : Model → List NamedEdge → Type 0
AreWritable model edges = (edge : NamedEdge) → Contains edges edge → IsEdgeWritable model edge

module _ (model : Model) where
  -- ---- lists of edges

  none_are : AreWritable model []
  none_are edge there = absurd (contains_none edge there)

  first_are : (first : NamedEdge) (edges : List NamedEdge) → IsEdgeWritable model first → AreWritable model edges → AreWritable model (first ∷ edges)
  first_are first edges is rest edge there = elim (contains_cases first edge edges there) [
    | inl same ↦ subst (IsEdgeWritable model) same is
    | inr later ↦ rest edge later
  ]

  both_are : (one other : List NamedEdge) → AreWritable model one → AreWritable model other → AreWritable model (one ++ other)
  both_are one other first second edge there = elim (Contains-append_cases one other edge there) [
    | inl here ↦ first edge here
    | inr later ↦ second edge later
  ]

  all_are : {X : Type 0} (Has : X → List NamedEdge → Type 0) (xs : List X) (edges : List NamedEdge)
      → ((x : X) (found : List NamedEdge) → Contains xs x → Has x found → AreWritable model found) → AppendsEach Has xs edges → AreWritable model edges
  all_are Has [] edges each is = subst (AreWritable model) (sym is) none_are
  all_are Has (x ∷ xs) edges each (first, rest, has, more, is) =
      subst (AreWritable model) (sym is) (both_are first rest (each x first (contains_head x xs) has)
      (all_are Has xs rest (λ other found there. each other found (contains_later x other xs there)) more))

  module _ (decisions : List Decision) (writable : All (IsWritable model) decisions) where
    decided : (decision : Decision) → Contains decisions decision → IsWritable model decision
    decided decision there = All-contains (IsWritable model) decisions decision writable there

    -- ---- points

    fact_there : (token : TokenName) → IsFact model token → IsToken model token
    fact_there token fact =
        let slot = slot_of fact.1.0 in
        (slot, record { root = fact.1.0; is_root = fact.1.1; reached = subst (λ (steps : List Step). Reaches model slot steps slot) (sym fact.0) refl })

    acts_there : (token other : TokenName) → ActsAs model decisions token other → IsToken model other
    acts_there token other (inl (inl fact, same)) = subst (IsToken model) (sym same) (fact_there token fact)
    acts_there token other (inl (inr activated, same)) = subst (IsToken model) (sym same) (decided (Activate token) activated)
    acts_there token other (inr merged) = (decided (Merge token other) merged).1

    moment_there : (which : Part) (token : TokenName) (point : Point) → IsToken model token → IsMoment which token point → IsPointWritable model point
    moment_there part.Start token point is same = subst (IsPointWritable model) (sym same) is
    moment_there part.End token point is same = subst (IsPointWritable model) (sym same) is
    moment_there which token point is same = absurd same

    point_there : (token : TokenName) (which : Part) (point : Point) → IsPointOf model decisions token which point → IsPointWritable model point
    point_there token which point (other, acts, moment) = moment_there which other point (acts_there token other acts) moment

    argument_there : (argument : Argument) (point : Point) → IsArgumentPoint model decisions argument point → IsPointWritable model point
    argument_there (Variable (Token token which)) point is = point_there token which point is
    argument_there argument point is = absurd is

    -- ---- claims

    compared_are : (kind : Kind) (one other : Point) → IsPointWritable model one → IsPointWritable model other → AreWritable model (comparing_edges kind one other)
    compared_are Leq one other first second = first_are (edge_from one (pos 0) other) [] (first, second) none_are
    compared_are Lt one other first second = first_are (edge_from one (pos 1) other) [] (first, second) none_are
    compared_are Eq one other first second =
        first_are (edge_from one (pos 0) other) (edge_from other (pos 0) one ∷ []) (first, second)
        (first_are (edge_from other (pos 0) one) [] (second, first) none_are)
    compared_are kind one other first second = none_are

    compares_are : (kind : Kind) (claim : Claim) (from to : Point) → ComparesPoints model decisions claim from to → AreWritable model (comparing_edges kind from to)
    compares_are kind claim from to (one, other, is, first, second) = compared_are kind from to (argument_there one from first) (argument_there other to second)

    claim_are : (claim : Claim) (edges : List NamedEdge) → HasClaimEdges model decisions claim edges → AreWritable model edges
    claim_are claim edges (inl (from, to, compares, is)) = subst (AreWritable model) (sym is) (compares_are claim.kind claim from to compares)
    claim_are claim edges (inr (none, is)) = subst (AreWritable model) (sym is) none_are

    relation_are : (token : TokenName) (rule : ℕ) (item : Item) (edges : List NamedEdge) → HasRelationEdges model decisions token rule item edges → AreWritable model edges
    relation_are token rule (Relation rel slot) edges is =
        all_are (HasClaimEdges model decisions) (relates rel token (slot_token token rule slot)) edges (λ claim found there has. claim_are claim found has) is
    relation_are token rule (Constraint kind terms) edges is = subst (AreWritable model) (sym is) none_are

    constraint_are : (context : Context) (item : Item) (edges : List NamedEdge) → HasConstraintEdges model decisions context item edges → AreWritable model edges
    constraint_are context (Constraint kind terms) edges (inl (claim, from, to, says, is)) = subst (AreWritable model) (sym is) (compares_are kind claim from to says.1)
    constraint_are context (Constraint kind terms) edges (inr (none, is)) = subst (AreWritable model) (sym is) none_are
    constraint_are context (Relation rel slot) edges is = subst (AreWritable model) (sym is) none_are

    -- ---- decisions

    order_are : (decision : Decision) (edges : List NamedEdge) → Contains decisions decision → HasOrderEdges decision edges → AreWritable model edges
    order_are (Order one other) edges there is =
        subst (AreWritable model) (sym is) (first_are (edge_from (End one) (pos 0) (Start other)) [] (decided (Order one other) there) none_are)
    order_are (Specify name value) edges there is = subst (AreWritable model) (sym is) none_are
    order_are (Activate token) edges there is = subst (AreWritable model) (sym is) none_are
    order_are (Merge token target) edges there is = subst (AreWritable model) (sym is) none_are
    order_are (Reject token) edges there is = subst (AreWritable model) (sym is) none_are
    order_are (Constrain kind arguments) edges there is = subst (AreWritable model) (sym is) none_are
    order_are (Relate relation one other) edges there is = subst (AreWritable model) (sym is) none_are

    posted_are : (decision : Decision) (edges : List NamedEdge) → HasPostedEdges model decisions decision edges → AreWritable model edges
    posted_are (Constrain kind arguments) edges is = claim_are (posted_claim kind arguments) edges is
    posted_are (Relate relation one other) edges is =
        all_are (HasClaimEdges model decisions) (relates relation one other) edges (λ claim found there has. claim_are claim found has) is
    posted_are decision edges is = subst (AreWritable model) (sym is) none_are

    given_are : (token : TokenName) (which : Part) (edges : List NamedEdge) → HasGivenEdges model decisions token which edges → AreWritable model edges
    given_are token which edges (inl (value, point, given, is)) =
        let written = point_there token which point given.1 in
        subst (AreWritable model) (sym is)
        (first_are (edge_from Origin value point) (edge_from point (pos 0 -ℤ value) Origin ∷ []) (tt, written)
        (first_are (edge_from point (pos 0 -ℤ value) Origin) [] (written, tt) none_are))
    given_are token which edges (inr (none, is)) = subst (AreWritable model) (sym is) none_are

    times_are : (token : TokenName) (edges : List NamedEdge) → HasTimesGiven model decisions token edges → AreWritable model edges
    times_are token edges (starts, ends, has_start, has_end, is) =
        subst (AreWritable model) (sym is) (both_are starts ends (given_are token part.Start starts has_start) (given_are token part.End ends has_end))

    -- ---- a state

    module _ (state : State) (is_token : (token : TokenName) → Contains state.tokens token → IsToken model token) where
      lasting_are : (token : TokenName) (edges : List NamedEdge) → Contains state.tokens token → HasLastingEdges model state decisions token edges → AreWritable model edges
      lasting_are token edges there (inl (active, (low, high, lasts, is))) =
          let own = is_token token there in
          let first = edge_from Origin model.problem.start (Start token) in
          let last = edge_from (End token) (pos 0 -ℤ model.problem.end) Origin in
          let short = edge_from (Start token) low (End token) in
          let long = edge_from (End token) (pos 0 -ℤ high) (Start token) in
          subst (AreWritable model) (sym is)
          (first_are first (last ∷ short ∷ long ∷ []) (tt, own)
          (first_are last (short ∷ long ∷ []) (own, tt)
          (first_are short (long ∷ []) (own, own)
          (first_are long [] (own, own) none_are))))
      lasting_are token edges there (inr (none, is)) = subst (AreWritable model) (sym is) none_are

      sort_are : (sort : Sort) (token : TokenName) (rule : ℕ) (item : Item) (edges : List NamedEdge) → HasSortEdges sort model decisions token rule item edges → AreWritable model edges
      sort_are Relations token rule item edges is = relation_are token rule item edges is
      sort_are Constraints token rule item edges is = constraint_are (InRule token rule) item edges is

      open_are : (sort : Sort) (token : TokenName) (each : TokenItem) (edges : List NamedEdge) → HasOpenEdges sort model decisions state token each edges → AreWritable model edges
      open_are sort token each edges (inl (is_open, is)) = sort_are sort token each.rule each.placed.item edges is
      open_are sort token each edges (inr (shut, is)) = subst (AreWritable model) (sym is) none_are

      token_are : (sort : Sort) (token : TokenName) (edges : List NamedEdge) → HasTokenEdges sort model decisions state token edges → AreWritable model edges
      token_are sort token edges (rules, are, appends) =
          all_are (HasOpenEdges sort model decisions state token) (items_of_rules 0 rules) edges (λ each found among has. open_are sort token each found has) appends

      time_edges_are : (edges : List NamedEdge) → AreTimeEdges model decisions state edges → AreWritable model edges
      time_edges_are edges is =
          let lasting = all_are (HasLastingEdges model state decisions) state.tokens is.lasting lasting_are is.lasting_are in
          let given = all_are (HasTimesGiven model decisions) state.tokens is.given (λ token found among has. times_are token found has) is.given_are in
          let related = all_are (HasTokenEdges Relations model decisions state) state.tokens is.related (λ token found among has. token_are Relations token found has) is.related_are in
          let problem = all_are (HasConstraintEdges model decisions InProblem) model.problem.items is.problem (λ item found among has. constraint_are InProblem item found has) is.problem_are in
          let constrained = all_are (HasTokenEdges Constraints model decisions state) state.tokens is.constrained (λ token found among has. token_are Constraints token found has) is.constrained_are in
          let ordered = all_are HasOrderEdges decisions is.ordered order_are is.ordered_are in
          let posted = all_are (HasPostedEdges model decisions) decisions is.posted (λ decision found among has. posted_are decision found has) is.posted_are in
          subst (AreWritable model) (sym is.all)
          (both_are is.lasting (is.given ++ (is.related ++ (is.problem ++ (is.constrained ++ (is.ordered ++ is.posted))))) lasting
          (both_are is.given (is.related ++ (is.problem ++ (is.constrained ++ (is.ordered ++ is.posted)))) given
          (both_are is.related (is.problem ++ (is.constrained ++ (is.ordered ++ is.posted))) related
          (both_are is.problem (is.constrained ++ (is.ordered ++ is.posted)) problem
          (both_are is.constrained (is.ordered ++ is.posted) constrained
          (both_are is.ordered is.posted ordered posted))))))

-- ---- a database

standing_are : (database : Database) → IsSound database → (edges : List NamedEdge) → AreStandingEdges database edges → AreWritable database.model edges
standing_are database sound edges (inl (none, is)) = subst (AreWritable database.model) (sym is) (none_are database.model)
standing_are database sound edges (inr (some, (state, least, are))) =
    time_edges_are database.model (standing database.history) (standing_writable database.model database.history sound.history) state
    (λ token there. All-contains (IsToken database.model) state.tokens token least.closed.consistent.is_state.tokens there) edges are

-- what is left was there
left_was_there : (kept edges left : List NamedEdge) → LeavesBy kept edges left → (edge : NamedEdge) → Contains left edge → Contains kept edge ⊎ Contains edges edge
left_was_there kept [] left same edge there = inl (subst (λ (list : List NamedEdge). Contains list edge) same there)
left_was_there kept (first ∷ edges) left (inl goes) edge there = elim (left_was_there kept edges left goes.1 edge there) [
  | inl old ↦ inl old
  | inr later ↦ inr (contains_later first edge edges later)
]
left_was_there kept (first ∷ edges) left (inr stays) edge there = elim (left_was_there (kept ++ first ∷ []) edges left stays.1 edge there) [
  | inl in_front ↦ elim (Contains-push_cases kept first edge in_front) [
    | inl old ↦ inl old
    | inr same ↦ inr (subst (Contains (first ∷ edges)) same (contains_head first edges))
  ]
  | inr later ↦ inr (contains_later first edge edges later)
]

-- so a cycle is of edges that were there
cycle_are : (model : Model) (edges cycle : List NamedEdge) → IsTimeCycle edges cycle → AreWritable model edges → AreWritable model cycle
cycle_are model edges cycle (inl (times, none)) are = subst (AreWritable model) (sym none) (none_are model)
cycle_are model edges cycle (inr (untimed, round)) are = λ edge there. elim (left_was_there [] edges round.left round.leaves edge ((round.same edge).0 there)) [
  | inl nowhere ↦ absurd (contains_none edge nowhere)
  | inr among ↦ are edge among
]

edge_lines : (model : Model) → IsLawful model → (edges : List NamedEdge) → AreWritable model edges → (lines : List (List ℕ)) × AllZip (IsEdgeLine model) edges lines
edge_lines model lawful [] are = ([], tt)
edge_lines model lawful (edge ∷ edges) are =
    let first = edges_have_lines model edge lawful (are edge (contains_head edge edges)) in
    let rest = edge_lines model lawful edges (λ other there. are other (contains_later edge other edges there)) in
    (first.0 ∷ rest.0, (first.1, rest.1))

pub collapses_have_cycles : CollapsesHaveCycles
collapses_have_cycles database sound collapsed none =
    databases_have_edges database sound (λ edges.
    edges_have_cycles edges.0 (λ cycle.
    let lines = edge_lines database.model sound.lawful cycle.0 (cycle_are database.model edges.0 cycle.0 cycle.1 (standing_are database sound edges.0 edges.1)) in
    none (counted_lines (codes "cycle") lines.0, (edges.0, cycle.0, lines.0, (edges.1, cycle.1, lines.1, refl)))))
