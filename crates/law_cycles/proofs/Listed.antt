-- A list of decisions has time edges, read from a state: at each step there is something to be read, or there isn't.
use Rattle.std.proofs.Common.{ℕ, ℤ, pos, ◌-ℤ◌, inl, inr, List, [], ◌∷◌, ◌++◌, refl}
use Rattle.std.specs.Prelude.{Contains}
use Rattle.std.proofs.lemmas.List.Elements.{All-contains}
use Rattle.domain_core.specs.Domain.{least, greatest}
use Rattle.eu_name.specs.declared.name.Part.{Part}
use Rattle.eu_name.specs.declared.name.Part.TheVariants as part
use Rattle.eu_name.specs.declared.name.TokenName.{TokenName}
use Rattle.eu_name.specs.declared.name.VarName.TheVariants.{Token}
use Rattle.eu_name.proofs.Ordered.{contains_head, contains_later}
use Rattle.model_core.specs.declared.decision.Decision.{Decision}
use Rattle.model_core.specs.declared.decision.Decision.TheVariants as decision
use Rattle.model_core.specs.declared.item.Item.{Item}
use Rattle.model_core.specs.declared.item.Item.TheVariants.{Constraint, Relation}
use Rattle.model_core.specs.declared.model.Model.{Model}
use Rattle.model_core.specs.declared.rule.Slot.{Slot}
use Rattle.model_core.specs.Decided.{IsActive}
use Rattle.model_core.specs.Lawful.{IsLawful}
use Rattle.model_core.specs.State.{State, IsState}
use Rattle.model_core.specs.Tokens.{HasToken, slot_token}
use Rattle.plan_defs.specs.Claims.{Claim, relates, posted_claim}
use Rattle.plan_defs.specs.Terms.{Context, InProblem, InRule}
use Rattle.law_states.specs.Undeniable.{Undeniable}
use Rattle.law_states.proofs.Denying.{is_or_not}
use Rattle.db_edges.specs.declared.edge.NamedEdge.{NamedEdge}
use Rattle.db_edges.specs.declared.edge.Point.{Point}
use Rattle.db_edges.specs.declared.edge.Point.TheVariants.{Origin, Start, End}
use Rattle.db_edges.specs.declared.walking.Sort.{Sort}
use Rattle.db_edges.specs.declared.walking.Sort.TheVariants.{Relations, Constraints}
use Rattle.db_edges.specs.Edges.{AppendsEach, IsLastOf, LastsBetween, HasLastingEdges, lasting_edges, IsGivenPoint, HasGivenEdges, HasTimesGiven}
use Rattle.db_edges.specs.Edges.{edge_from, comparing_edges, ComparesPoints, HasClaimEdges, HasRelationEdges, SaysOfPoints, HasConstraintEdges, HasOrderEdges, HasPostedEdges}
use Rattle.db_edges.specs.Whole.{TokenItem, items_of_rules, IsItemOpen, HasSortEdges, HasOpenEdges, HasTokenEdges, AreTimeEdges}
use Rattle.db_edges.proofs.Going.{has_rules}
use Rattle.db_edges.proofs.Joining.{have_durations}

-- what things have, one after another, can't be missing if none of them lacks it
each_appends : {X Y : Type 0} (Has : X → List Y → Type 0) (xs : List X) → ((x : X) → Contains xs x → Undeniable ((found : List Y) × Has x found))
    → Undeniable ((found : List Y) × AppendsEach Has xs found)
each_appends Has [] each none = none ([], refl)
each_appends Has (x ∷ xs) each none =
    each x (contains_head x xs) (λ first. each_appends Has xs (λ other there. each other (contains_later x other xs there)) (λ rest.
    none (first.0 ++ rest.0, (first.0, rest.0, first.1, rest.1, refl))))

module _ (model : Model) (decisions : List Decision) where
  -- ---- claims

  claim_has : (claim : Claim) → Undeniable ((edges : List NamedEdge) × HasClaimEdges model decisions claim edges)
  claim_has claim none = is_or_not ((from to : Point) × ComparesPoints model decisions claim from to) (λ which. elim which [
    | inl found ↦ none (comparing_edges claim.kind found.0 found.1, inl (found.0, found.1, found.2, refl))
    | inr not ↦ none ([], inr ((λ from to compares. not (from, to, compares)), refl))
  ])

  relation_has : (token : TokenName) (rule : ℕ) (item : Item) → Undeniable ((edges : List NamedEdge) × HasRelationEdges model decisions token rule item edges)
  relation_has token rule (Relation rel slot) none =
      each_appends (HasClaimEdges model decisions) (relates rel token (slot_token token rule slot)) (λ claim there. claim_has claim) none
  relation_has token rule (Constraint kind terms) none = none ([], refl)

  constraint_has : (context : Context) (item : Item) → Undeniable ((edges : List NamedEdge) × HasConstraintEdges model decisions context item edges)
  constraint_has context (Constraint kind terms) none =
      is_or_not ((claim : Claim) × (from to : Point) × SaysOfPoints model decisions context (Constraint kind terms) claim from to) (λ which. elim which [
        | inl found ↦ none (comparing_edges kind found.1 found.2, inl (found.0, found.1, found.2, found.3, refl))
        | inr not ↦ none ([], inr ((λ claim from to says. not (claim, from, to, says)), refl))
      ])
  constraint_has context (Relation rel slot) none = none ([], refl)

  sort_has : (sort : Sort) (token : TokenName) (rule : ℕ) (item : Item) → Undeniable ((edges : List NamedEdge) × HasSortEdges sort model decisions token rule item edges)
  sort_has Relations token rule item none = relation_has token rule item none
  sort_has Constraints token rule item none = constraint_has (InRule token rule) item none

  -- ---- decisions

  order_has : (each : Decision) → (edges : List NamedEdge) × HasOrderEdges each edges
  order_has (decision.Order one other) = (edge_from (End one) (pos 0) (Start other) ∷ [], refl)
  order_has (decision.Specify name value) = ([], refl)
  order_has (decision.Activate token) = ([], refl)
  order_has (decision.Merge token target) = ([], refl)
  order_has (decision.Reject token) = ([], refl)
  order_has (decision.Constrain kind arguments) = ([], refl)
  order_has (decision.Relate relation one other) = ([], refl)

  posted_has : (each : Decision) → Undeniable ((edges : List NamedEdge) × HasPostedEdges model decisions each edges)
  posted_has (decision.Constrain kind arguments) none = claim_has (posted_claim kind arguments) none
  posted_has (decision.Relate relation one other) none =
      each_appends (HasClaimEdges model decisions) (relates relation one other) (λ claim there. claim_has claim) none
  posted_has (decision.Specify name value) none = none ([], refl)
  posted_has (decision.Activate token) none = none ([], refl)
  posted_has (decision.Merge token target) none = none ([], refl)
  posted_has (decision.Reject token) none = none ([], refl)
  posted_has (decision.Order one other) none = none ([], refl)

  given_has : (token : TokenName) (which : Part) → Undeniable ((edges : List NamedEdge) × HasGivenEdges model decisions token which edges)
  given_has token which none = is_or_not ((value : ℤ) × (point : Point) × IsGivenPoint model decisions token which value point) (λ told. elim told [
    | inl found ↦
        none (edge_from Origin found.0 found.1 ∷ edge_from found.1 (pos 0 -ℤ found.0) Origin ∷ [], inl (found.0, found.1, found.2, refl))
    | inr not ↦ none ([], inr ((λ value point given. not (value, point, given)), refl))
  ])

  times_has : (token : TokenName) → Undeniable ((edges : List NamedEdge) × HasTimesGiven model decisions token edges)
  times_has token none = given_has token part.Start (λ starts. given_has token part.End (λ ends.
      none (starts.0 ++ ends.0, (starts.0, ends.0, starts.1, ends.1, refl))))

  -- ---- a state

  module _ (lawful : IsLawful model) (state : State) (is : IsState model state) where
    lasts_has : (token : TokenName) → Contains state.tokens token → Undeniable ((low high : ℤ) × LastsBetween state decisions token low high)
    lasts_has token there none = is_or_not ((value : ℤ) × IsLastOf decisions (decision.Specify (Token token part.Duration) value)) (λ which. elim which [
      | inl found ↦ none (found.0, found.0, inl (found.1, refl))
      | inr not ↦
          (let given = have_durations model state is token there in
          none (least given.0, greatest given.0, inr ((λ value last. not (value, last)), (given.0, given.1, refl, refl))))
    ])

    lasting_has : (token : TokenName) → Contains state.tokens token → Undeniable ((edges : List NamedEdge) × HasLastingEdges model state decisions token edges)
    lasting_has token there none = is_or_not (IsActive model decisions token) (λ which. elim which [
      | inl active ↦ lasts_has token there (λ lasts.
          none (lasting_edges model.problem token lasts.0 lasts.1, inl (active, (lasts.0, lasts.1, lasts.2, refl))))
      | inr not ↦ none ([], inr (not, refl))
    ])

    open_has : (sort : Sort) (token : TokenName) (each : TokenItem) → Undeniable ((edges : List NamedEdge) × HasOpenEdges sort model decisions state token each edges)
    open_has sort token each none = is_or_not (IsItemOpen state token each) (λ which. elim which [
      | inl is_open ↦ sort_has sort token each.rule each.placed.item (λ found. none (found.0, inl (is_open, found.1)))
      | inr shut ↦ none ([], inr (shut, refl))
    ])

    token_has : (sort : Sort) (token : TokenName) → Contains state.tokens token → Undeniable ((edges : List NamedEdge) × HasTokenEdges sort model decisions state token edges)
    token_has sort token there none =
        let slot = All-contains (λ (t : TokenName). (slot : Slot) × HasToken model t slot) state.tokens token is.tokens there in
        let rules = has_rules model lawful token slot.0 slot.1 in
        each_appends (HasOpenEdges sort model decisions state token) (items_of_rules 0 rules.0) (λ each among. open_has sort token each) (λ found.
        none (found.0, (rules.0, rules.1, found.1)))

    -- all that is read
    pub time_edges : Undeniable ((edges : List NamedEdge) × AreTimeEdges model decisions state edges)
    time_edges none =
        each_appends (HasLastingEdges model state decisions) state.tokens lasting_has (λ lasting.
        each_appends (HasTimesGiven model decisions) state.tokens (λ token there. times_has token) (λ given.
        each_appends (HasTokenEdges Relations model decisions state) state.tokens (token_has Relations) (λ related.
        each_appends (HasConstraintEdges model decisions InProblem) model.problem.items (λ item there. constraint_has InProblem item) (λ problem.
        each_appends (HasTokenEdges Constraints model decisions state) state.tokens (token_has Constraints) (λ constrained.
        each_appends HasOrderEdges decisions (λ each there some. some (order_has each)) (λ ordered.
        each_appends (HasPostedEdges model decisions) decisions (λ each there. posted_has each) (λ posted.
        none (
          lasting.0 ++ (given.0 ++ (related.0 ++ (problem.0 ++ (constrained.0 ++ (ordered.0 ++ posted.0))))),
          record {
            lasting = lasting.0;
            given = given.0;
            related = related.0;
            problem = problem.0;
            constrained = constrained.0;
            ordered = ordered.0;
            posted = posted.0;
            lasting_are = lasting.1;
            given_are = given.1;
            related_are = related.1;
            problem_are = problem.1;
            constrained_are = constrained.1;
            ordered_are = ordered.1;
            posted_are = posted.1;
            all = refl;
          },
        ))))))))
