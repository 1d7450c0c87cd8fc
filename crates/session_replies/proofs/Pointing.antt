-- The points of time edges are of tokens that the model has.
use Rattle.std.proofs.Common.{◌≡◌, inl, inr, ℕ, ℤ, pos, ◌-ℤ◌, List, [], ◌∷◌, ◌++◌, Contains, refl, sym, subst}
use Rattle.std.specs.Prelude.{All}
use Rattle.std.proofs.lemmas.List.Elements.{All-nil, All-head, All-tail, All-push, All-append, All-contains, All-from_recursion}
use Rattle.eu_name.specs.declared.name.Part.{Part}
use Rattle.eu_name.specs.declared.name.Part.TheVariants as part
use Rattle.eu_name.specs.declared.name.Step.{Step}
use Rattle.eu_name.specs.declared.name.TokenName.{TokenName}
use Rattle.eu_name.specs.declared.name.VarName.TheVariants as variables
use Rattle.model_core.specs.declared.decision.Decision.{Decision}
use Rattle.model_core.specs.declared.decision.Decision.TheVariants.{Specify, Activate, Merge, Reject, Order, Constrain, Relate}
use Rattle.model_core.specs.declared.item.Item.{Item}
use Rattle.model_core.specs.declared.item.Item.TheVariants.{Constraint, Relation}
use Rattle.domain_core.specs.declared.kind.Kind.{Kind}
use Rattle.domain_core.specs.declared.kind.Kind.TheVariants.{Eq, Lt, Leq}
use Rattle.model_core.specs.declared.model.Model.{Model}
use Rattle.model_core.specs.Decided.{IsActive}
use Rattle.model_core.specs.Lawful.{IsToken}
use Rattle.model_core.specs.State.{State}
use Rattle.model_core.specs.Tokens.{IsFact, Reaches, slot_of, slot_token}
use Rattle.plan_defs.specs.Claims.{Claim, relates, posted_claim}
use Rattle.plan_defs.specs.Terms.{Context, InProblem, InRule, Argument, Variable}
use Rattle.plan_defs.proofs.Members.{all_from_get}
use Rattle.eu_name.proofs.Members.{contains_from_get}
use Rattle.eu_name.proofs.Ordered.{contains_head, contains_later}
use Rattle.db_edges.specs.declared.edge.NamedEdge.{NamedEdge}
use Rattle.db_edges.specs.declared.edge.Point.{Point}
use Rattle.db_edges.specs.declared.edge.Point.TheVariants.{Origin, Start, End}
use Rattle.db_edges.specs.declared.walking.Sort.{Sort}
use Rattle.db_edges.specs.declared.walking.Sort.TheVariants.{Relations, Constraints}
use Rattle.db_edges.specs.Edges.{AppendsEach, HasLastingEdges, HasGivenEdges, HasTimesGiven, HasClaimEdges, HasRelationEdges, HasConstraintEdges, HasOrderEdges, HasPostedEdges, comparing_edges, lasting_edges, edge_from, ComparesPoints}
use Rattle.db_edges.specs.Points.{ActsAs, IsMoment, IsPointOf, IsArgumentPoint}
use Rattle.db_edges.specs.Whole.{TokenItem, items_of_rules, HasSortEdges, HasOpenEdges, HasTokenEdges, AreTimeEdges}
use Rattle.db_edges.specs.TimeCycle.{LeavesBy, IsTimeCycle}
use Rattle.session_replies.specs.Writable.{IsWritable, IsPointWritable, IsEdgeWritable}

-- what holds of all that each thing has holds of all together
appends_all : {X Y : Type 0} (Has : X → List Y → Type 0) (P : Y → Type 0) (things : List X) (found : List Y)
    → ((thing : X) (had : List Y) → Contains things thing → Has thing had → All P had) → AppendsEach Has things found → All P found
appends_all {Y = Y} Has P [] found each same = subst (λ (list : List Y). All P list) (sym same) (All-nil P)
appends_all {Y = Y} Has P (thing ∷ things) found each (first, rest, has, more, same) =
    subst (λ (list : List Y). All P list) (sym same) (All-append P first rest (each thing first (contains_head thing things) has)
    (appends_all Has P things rest (λ other had there. each other had (contains_later thing other things there)) more))

module _ (model : Model) where
  abbrev AreWritable : List NamedEdge → Type 0
  AreWritable edges = All (IsEdgeWritable model) edges

  fact_there : (token : TokenName) → IsFact model token → IsToken model token
  fact_there token (none, (root, is_root, kind)) =
      (slot_of root, record { root = root; is_root = is_root; reached = subst (λ (steps : List Step). Reaches model (slot_of root) steps (slot_of root)) (sym none) refl })

  both : (from to : Point) (gap : ℤ) → IsPointWritable model from → IsPointWritable model to → IsEdgeWritable model (record { from = from; gap = gap; to = to })
  both from to gap first second = (first, second)

  compared : (kind : Kind) (one other : Point) → IsPointWritable model one → IsPointWritable model other → AreWritable (comparing_edges kind one other)
  compared Leq one other first second = All-from_recursion (IsEdgeWritable model) (comparing_edges Leq one other) ((first, second), tt)
  compared Lt one other first second = All-from_recursion (IsEdgeWritable model) (comparing_edges Lt one other) ((first, second), tt)
  compared Eq one other first second = All-from_recursion (IsEdgeWritable model) (comparing_edges Eq one other) ((first, second), ((second, first), tt))
  compared kind one other first second = All-nil (IsEdgeWritable model)

  module _ (decisions : List Decision) (writable : All (IsWritable model) decisions) where
    decided : (decision : Decision) → Contains decisions decision → IsWritable model decision
    decided decision there = All-contains (IsWritable model) decisions decision writable there

    active_there : (token : TokenName) → IsActive model decisions token → IsToken model token
    active_there token (inl fact) = fact_there token fact
    active_there token (inr activated) = decided (Activate token) activated

    acting_there : (token other : TokenName) → ActsAs model decisions token other → IsToken model other
    acting_there token other (inl (active, same)) = subst (IsToken model) (sym same) (active_there token active)
    acting_there token other (inr merged) = (decided (Merge token other) merged).1

    moment_there : (which : Part) (token : TokenName) (point : Point) → IsMoment which token point → IsToken model token → IsPointWritable model point
    moment_there part.Start token point is there = subst (IsPointWritable model) (sym is) there
    moment_there part.End token point is there = subst (IsPointWritable model) (sym is) there
    moment_there other token point is there = absurd is

    point_there : (token : TokenName) (which : Part) (point : Point) → IsPointOf model decisions token which point → IsPointWritable model point
    point_there token which point (other, acts, is) = moment_there which other point is (acting_there token other acts)

    argument_there : (argument : Argument) (point : Point) → IsArgumentPoint model decisions argument point → IsPointWritable model point
    argument_there (Variable (variables.Token token which)) point is = point_there token which point is
    argument_there other point is = absurd is

    lasting_there : (state : State) (token : TokenName) (edges : List NamedEdge) → HasLastingEdges model state decisions token edges → AreWritable edges
    lasting_there state token edges (inl (active, (low, high, lasts, same))) =
        let there = active_there token active in
        subst AreWritable (sym same) (All-from_recursion (IsEdgeWritable model) (lasting_edges model.problem token low high) ((tt, there), ((there, tt), ((there, there), ((there, there), tt)))))
    lasting_there state token edges (inr (idle, same)) = subst AreWritable (sym same) (All-nil (IsEdgeWritable model))

    given_there : (token : TokenName) (which : Part) (edges : List NamedEdge) → HasGivenEdges model decisions token which edges → AreWritable edges
    given_there token which edges (inl (value, point, (given, of), same)) =
        let there = point_there token which point of in
        subst AreWritable (sym same) (All-from_recursion (IsEdgeWritable model) (edge_from Origin value point ∷ edge_from point (pos 0 -ℤ value) Origin ∷ []) ((tt, there), ((there, tt), tt)))
    given_there token which edges (inr (none, same)) = subst AreWritable (sym same) (All-nil (IsEdgeWritable model))

    times_there : (token : TokenName) (edges : List NamedEdge) → HasTimesGiven model decisions token edges → AreWritable edges
    times_there token edges (starts, ends, first, second, same) =
        subst AreWritable (sym same) (All-append (IsEdgeWritable model) starts ends (given_there token part.Start starts first) (given_there token part.End ends second))

    compares_there : (claim : Claim) (from to : Point) (kind : Kind) (edges : List NamedEdge) → ComparesPoints model decisions claim from to → edges ≡ comparing_edges kind from to → AreWritable edges
    compares_there claim from to kind edges (one, other, are, first, second) same =
        subst AreWritable (sym same) (compared kind from to (argument_there one from first) (argument_there other to second))

    claim_there : (claim : Claim) (edges : List NamedEdge) → HasClaimEdges model decisions claim edges → AreWritable edges
    claim_there claim edges (inl (from, to, compares, same)) = compares_there claim from to claim.kind edges compares same
    claim_there claim edges (inr (none, same)) = subst AreWritable (sym same) (All-nil (IsEdgeWritable model))

    relation_there : (token : TokenName) (rule : ℕ) (item : Item) (edges : List NamedEdge) → HasRelationEdges model decisions token rule item edges → AreWritable edges
    relation_there token rule (Relation rel slot) edges has =
        appends_all (HasClaimEdges model decisions) (IsEdgeWritable model) (relates rel token (slot_token token rule slot)) edges (λ claim had there. claim_there claim had) has
    relation_there token rule (Constraint kind terms) edges same = subst AreWritable (sym same) (All-nil (IsEdgeWritable model))

    constraint_there : (context : Context) (item : Item) (edges : List NamedEdge) → HasConstraintEdges model decisions context item edges → AreWritable edges
    constraint_there context (Constraint kind terms) edges (inl (claim, from, to, (says, compares), same)) = compares_there claim from to kind edges compares same
    constraint_there context (Constraint kind terms) edges (inr (none, same)) = subst AreWritable (sym same) (All-nil (IsEdgeWritable model))
    constraint_there context (Relation rel slot) edges same = subst AreWritable (sym same) (All-nil (IsEdgeWritable model))

    sort_there : (sort : Sort) (token : TokenName) (rule : ℕ) (item : Item) (edges : List NamedEdge) → HasSortEdges sort model decisions token rule item edges → AreWritable edges
    sort_there Relations token rule item edges has = relation_there token rule item edges has
    sort_there Constraints token rule item edges has = constraint_there (InRule token rule) item edges has

    open_there : (sort : Sort) (state : State) (token : TokenName) (each : TokenItem) (edges : List NamedEdge) → HasOpenEdges sort model decisions state token each edges → AreWritable edges
    open_there sort state token each edges (inl (stands, has)) = sort_there sort token each.rule each.placed.item edges has
    open_there sort state token each edges (inr (shut, same)) = subst AreWritable (sym same) (All-nil (IsEdgeWritable model))

    token_there : (sort : Sort) (state : State) (token : TokenName) (edges : List NamedEdge) → HasTokenEdges sort model decisions state token edges → AreWritable edges
    token_there sort state token edges (rules, are, each) =
        appends_all (HasOpenEdges sort model decisions state token) (IsEdgeWritable model) (items_of_rules 0 rules) edges (λ item had there. open_there sort state token item had) each

    order_there : (decision : Decision) (edges : List NamedEdge) → Contains decisions decision → HasOrderEdges decision edges → AreWritable edges
    order_there (Order one other) edges there same =
        let known = decided (Order one other) there in
        subst AreWritable (sym same) (All-from_recursion (IsEdgeWritable model) (edge_from (End one) (pos 0) (Start other) ∷ []) ((known.0, known.1), tt))
    order_there (Specify name value) edges there same = subst AreWritable (sym same) (All-nil (IsEdgeWritable model))
    order_there (Activate token) edges there same = subst AreWritable (sym same) (All-nil (IsEdgeWritable model))
    order_there (Merge token target) edges there same = subst AreWritable (sym same) (All-nil (IsEdgeWritable model))
    order_there (Reject token) edges there same = subst AreWritable (sym same) (All-nil (IsEdgeWritable model))
    order_there (Constrain kind arguments) edges there same = subst AreWritable (sym same) (All-nil (IsEdgeWritable model))
    order_there (Relate relation one other) edges there same = subst AreWritable (sym same) (All-nil (IsEdgeWritable model))

    posted_there : (decision : Decision) (edges : List NamedEdge) → HasPostedEdges model decisions decision edges → AreWritable edges
    posted_there (Constrain kind arguments) edges has = claim_there (posted_claim kind arguments) edges has
    posted_there (Relate relation one other) edges has =
        appends_all (HasClaimEdges model decisions) (IsEdgeWritable model) (relates relation one other) edges (λ claim had there. claim_there claim had) has
    posted_there (Specify name value) edges same = subst AreWritable (sym same) (All-nil (IsEdgeWritable model))
    posted_there (Activate token) edges same = subst AreWritable (sym same) (All-nil (IsEdgeWritable model))
    posted_there (Merge token target) edges same = subst AreWritable (sym same) (All-nil (IsEdgeWritable model))
    posted_there (Reject token) edges same = subst AreWritable (sym same) (All-nil (IsEdgeWritable model))
    posted_there (Order one other) edges same = subst AreWritable (sym same) (All-nil (IsEdgeWritable model))

    -- the edges of decisions that can be written can be written too
    pub edges_writable : (state : State) (edges : List NamedEdge) → AreTimeEdges model decisions state edges → All (IsEdgeWritable model) edges
    edges_writable state edges are =
        subst AreWritable (sym are.all)
        (joined are.lasting _ (appends_all (HasLastingEdges model state decisions) (IsEdgeWritable model) state.tokens are.lasting (λ token had there. lasting_there state token had) are.lasting_are)
        (joined are.given _ (appends_all (HasTimesGiven model decisions) (IsEdgeWritable model) state.tokens are.given (λ token had there. times_there token had) are.given_are)
        (joined are.related _ (appends_all (HasTokenEdges Relations model decisions state) (IsEdgeWritable model) state.tokens are.related (λ token had there. token_there Relations state token had) are.related_are)
        (joined are.problem _ (appends_all (HasConstraintEdges model decisions InProblem) (IsEdgeWritable model) model.problem.items are.problem (λ item had there. constraint_there InProblem item had) are.problem_are)
        (joined are.constrained _ (appends_all (HasTokenEdges Constraints model decisions state) (IsEdgeWritable model) state.tokens are.constrained (λ token had there. token_there Constraints state token had) are.constrained_are)
        (joined are.ordered are.posted (appends_all HasOrderEdges (IsEdgeWritable model) decisions are.ordered order_there are.ordered_are)
        (appends_all (HasPostedEdges model decisions) (IsEdgeWritable model) decisions are.posted (λ decision had there. posted_there decision had) are.posted_are)))))))
      where
        joined : (one other : List NamedEdge) → AreWritable one → AreWritable other → AreWritable (one ++ other)
        joined one other first second = All-append (IsEdgeWritable model) one other first second

  left_writable : (kept edges left : List NamedEdge) → LeavesBy kept edges left → AreWritable kept → AreWritable edges → AreWritable left
  left_writable kept [] left same first second = subst AreWritable (sym same) first
  left_writable kept (edge ∷ edges) left (inl (goes, leaves)) first second = left_writable kept edges left leaves first (All-tail (IsEdgeWritable model) edge edges second)
  left_writable kept (edge ∷ edges) left (inr (stays, leaves)) first second =
      left_writable (kept ++ edge ∷ []) edges left leaves (All-push (IsEdgeWritable model) kept edge first (All-head (IsEdgeWritable model) edge edges second)) (All-tail (IsEdgeWritable model) edge edges second)

  -- so can their cycle
  pub cycle_writable : (edges cycle : List NamedEdge) → IsTimeCycle edges cycle → All (IsEdgeWritable model) edges → All (IsEdgeWritable model) cycle
  cycle_writable edges cycle (inl (timing, none)) all = subst AreWritable (sym none) (All-nil (IsEdgeWritable model))
  cycle_writable edges cycle (inr (none, round)) all =
      let left = left_writable [] edges round.left round.leaves (All-nil (IsEdgeWritable model)) all in
      all_from_get (IsEdgeWritable model) cycle (λ k edge at. All-contains (IsEdgeWritable model) round.left edge left ((round.same edge).0 (contains_from_get cycle k edge at)))
