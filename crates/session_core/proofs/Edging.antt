-- A list of decisions has one list of time edges.
use Rattle.std.proofs.Common.{◌≡◌, ℕ, suc, ◌-◌, ℤ, pos, ◌-ℤ◌, List, [], ◌∷◌, ◌++◌, length, Some, slice_get, refl, sym, ap, ◌∙◌, subst, inl, inr, arith}
use Rattle.std.specs.Prelude.{Contains}
use Rattle.domain_core.specs.Domain.{least, greatest}
use Rattle.eu_name.specs.declared.name.Part.{Part}
use Rattle.eu_name.specs.declared.name.Part.TheVariants as part
use Rattle.eu_name.specs.declared.name.TokenName.{TokenName}
use Rattle.eu_name.specs.declared.name.VarName.TheVariants.{Token}
use Rattle.model_core.specs.declared.decision.Decision.{Decision}
use Rattle.model_core.specs.declared.decision.Decision.TheVariants as decision
use Rattle.model_core.specs.declared.item.Item.{Item}
use Rattle.model_core.specs.declared.item.Item.TheVariants.{Constraint, Relation}
use Rattle.domain_core.specs.declared.kind.Kind.{Kind}
use Rattle.model_core.specs.declared.model.Model.{Model}
use Rattle.model_core.specs.declared.rule.Rule.{Rule}
use Rattle.model_core.specs.Decided.{IsActive}
use Rattle.model_core.specs.History.{standing}
use Rattle.model_core.specs.State.{State, AreInOrder}
use Rattle.model_core.specs.Tokens.{slot_token}
use Rattle.plan_db.specs.Database.{Database}
use Rattle.plan_db.specs.Edges.{AreStandingEdges}
use Rattle.plan_defs.specs.Claims.{Claim, posted_claim, relates}
use Rattle.plan_defs.specs.Settling.{IsSettled}
use Rattle.plan_defs.specs.Terms.{Context, InProblem, InRule, Argument, Variable, Means}
use Rattle.plan_defs.proofs.Meanings.{means_once}
use Rattle.eu_name.proofs.Members.{get_same}
use Rattle.plan_defs.proofs.Settling.{least_same}
use Rattle.plan_defs.proofs.States.{gives_same}
use Rattle.db_edges.specs.declared.edge.NamedEdge.{NamedEdge}
use Rattle.db_edges.specs.declared.edge.Point.{Point}
use Rattle.db_edges.specs.declared.edge.Point.TheVariants.{Origin}
use Rattle.db_edges.specs.declared.walking.Sort.{Sort}
use Rattle.db_edges.specs.declared.walking.Sort.TheVariants.{Relations, Constraints}
use Rattle.db_edges.specs.Edges.{AppendsEach, LastsBetween, HasLastingEdges, lasting_edges, HasGivenEdges, HasTimesGiven, comparing_edges, edge_from}
use Rattle.db_edges.specs.Edges.{ComparesPoints, HasClaimEdges, HasRelationEdges, HasConstraintEdges, HasOrderEdges, HasPostedEdges}
use Rattle.db_edges.specs.Points.{ActsAs, IsMoment, IsPointOf, IsArgumentPoint}
use Rattle.db_edges.specs.Whole.{TokenItem, items_of_rules, AreRulesOf, HasSortEdges, HasOpenEdges, HasTokenEdges, AreTimeEdges}
use Rattle.db_history.specs.Advancing.{but_last}
use Rattle.plan_defs.proofs.Deciding.{DecidesOnce, decides_once}
use Rattle.session_core.proofs.OneReset.{specified_one}
use Rattle.session_core.proofs.Words.{zip_one}

-- lists with the same items at the same places are one
gets_one : {X : Type 0} (xs ys : List X) → ((k : ℕ) (x : X) → slice_get xs k ≡ Some x → slice_get ys k ≡ Some x)
    → ((k : ℕ) (x : X) → slice_get ys k ≡ Some x → slice_get xs k ≡ Some x) → xs ≡ ys
gets_one [] [] forth back = refl
gets_one [] (y ∷ ys) forth back = let none = back 0 y refl in absurd (cc)
gets_one (x ∷ xs) [] forth back = let none = forth 0 x refl in absurd (cc)
gets_one (x ∷ xs) (y ∷ ys) forth back =
    let heads = forth 0 x refl in
    let same : y ≡ x = cc in
    let rest = gets_one xs ys (λ k z at. forth (suc k) z at) (λ k z at. back (suc k) z at) in
    λ i. sym same i ∷ rest i

-- what things have, one after another, is one where each has one
appends_one : {X Y : Type 0} (Has : X → List Y → Type 0) → ((x : X) (one other : List Y) → Has x one → Has x other → one ≡ other)
    → (xs : List X) (one other : List Y) → AppendsEach Has xs one → AppendsEach Has xs other → one ≡ other
appends_one Has each [] one other p q = p ∙ sym q
appends_one Has each (x ∷ xs) one other (first, rest, has, more, is) (first', rest', has', more', is') =
    let firsts = each x first first' has has' in
    let rests = appends_one Has each xs rest rest' more more' in
    let both : first ++ rest ≡ first' ++ rest' = λ i. firsts i ++ rests i in
    is ∙ (both ∙ sym is')

module _ (model : Model) (decisions : List Decision) (settled : IsSettled model decisions) where
  once : DecidesOnce model decisions
  once = decides_once model decisions settled

  not_merged : (token target : TokenName) → IsActive model decisions token → Contains decisions (decision.Merge token target) → ⊥
  not_merged token target (inl fact) there = once.facts token (decision.Merge token target) fact there refl
  not_merged token target (inr active) there =
      let same = once.one token (decision.Activate token) (decision.Merge token target) active there refl refl in
      let apart : ⊥ = cc in apart

  acts_one : (token one other : TokenName) → ActsAs model decisions token one → ActsAs model decisions token other → one ≡ other
  acts_one token one other (inl p) (inl q) = p.1 ∙ sym q.1
  acts_one token one other (inl p) (inr q) = absurd (not_merged token other p.0 q)
  acts_one token one other (inr p) (inl q) = absurd (not_merged token one q.0 p)
  acts_one token one other (inr p) (inr q) =
      let same = once.one token (decision.Merge token one) (decision.Merge token other) p q refl refl in
      let targets : one ≡ other = cc in targets

  -- ---- points

  moment_one : (which : Part) (token : TokenName) (one other : Point) → IsMoment which token one → IsMoment which token other → one ≡ other
  moment_one part.Start token one other p q = p ∙ sym q
  moment_one part.End token one other p q = p ∙ sym q
  moment_one which token one other p q = absurd p

  point_one : (token : TokenName) (which : Part) (one other : Point) → IsPointOf model decisions token which one → IsPointOf model decisions token which other → one ≡ other
  point_one token which one other (taken, acts, moment) (taken', acts', moment') =
      let tokens = acts_one token taken' taken acts' acts in
      moment_one which taken one other moment (subst (λ t. IsMoment which t other) tokens moment')

  argument_one : (argument : Argument) (one other : Point) → IsArgumentPoint model decisions argument one → IsArgumentPoint model decisions argument other → one ≡ other
  argument_one (Variable (Token token which)) one other p q = point_one token which one other p q
  argument_one argument one other p q = absurd p

  compares_one : (one other : Claim) (from to from' to' : Point) → one.arguments ≡ other.arguments → ComparesPoints model decisions one from to → ComparesPoints model decisions other from' to'
      → (from ≡ from') × (to ≡ to')
  compares_one one other from to from' to' same (a, b, is, first, second) (a', b', is', first', second') =
      let lists : a' ∷ b' ∷ [] ≡ a ∷ b ∷ [] = sym is' ∙ (sym same ∙ is) in
      let firsts : a' ≡ a = cc in
      let seconds : b' ≡ b = cc in (
        argument_one a from from' first (subst (λ x. IsArgumentPoint model decisions x from') firsts first'),
        argument_one b to to' second (subst (λ x. IsArgumentPoint model decisions x to') seconds second'),
      )

  comparing_same : (kind : Kind) (from to from' to' : Point) → (from ≡ from') × (to ≡ to') → comparing_edges kind from to ≡ comparing_edges kind from' to'
  comparing_same kind from to from' to' same = λ i. comparing_edges kind (same.0 i) (same.1 i)

  -- ---- edges

  claim_one : (claim : Claim) (one other : List NamedEdge) → HasClaimEdges model decisions claim one → HasClaimEdges model decisions claim other → one ≡ other
  claim_one claim one other (inl (from, to, compares, is)) (inl (from', to', compares', is')) =
      is ∙ (comparing_same claim.kind from to from' to' (compares_one claim claim from to from' to' refl compares compares') ∙ sym is')
  claim_one claim one other (inl p) (inr q) = absurd (q.0 p.0 p.1 p.2)
  claim_one claim one other (inr p) (inl q) = absurd (p.0 q.0 q.1 q.2)
  claim_one claim one other (inr p) (inr q) = p.1 ∙ sym q.1

  relation_one : (token : TokenName) (rule : ℕ) (item : Item) (one other : List NamedEdge) → HasRelationEdges model decisions token rule item one → HasRelationEdges model decisions token rule item other → one ≡ other
  relation_one token rule (Relation rel slot) one other p q =
      appends_one (HasClaimEdges model decisions) claim_one (relates rel token (slot_token token rule slot)) one other p q
  relation_one token rule (Constraint kind terms) one other p q = p ∙ sym q

  constraint_one : (context : Context) (item : Item) (one other : List NamedEdge) → HasConstraintEdges model decisions context item one → HasConstraintEdges model decisions context item other → one ≡ other
  constraint_one context (Constraint kind terms) one other (inl (claim, from, to, says, is)) (inl (claim', from', to', says', is')) =
      let arguments = zip_one (Means context) (means_once context) terms claim.arguments claim'.arguments says.0.means says'.0.means in
      is ∙ (comparing_same kind from to from' to' (compares_one claim claim' from to from' to' arguments says.1 says'.1) ∙ sym is')
  constraint_one context (Constraint kind terms) one other (inl p) (inr q) = absurd (q.0 p.0 p.1 p.2 p.3)
  constraint_one context (Constraint kind terms) one other (inr p) (inl q) = absurd (p.0 q.0 q.1 q.2 q.3)
  constraint_one context (Constraint kind terms) one other (inr p) (inr q) = p.1 ∙ sym q.1
  constraint_one context (Relation rel slot) one other p q = p ∙ sym q

  order_one : (which : Decision) (one other : List NamedEdge) → HasOrderEdges which one → HasOrderEdges which other → one ≡ other
  order_one (decision.Order first second) one other p q = p ∙ sym q
  order_one (decision.Specify name value) one other p q = p ∙ sym q
  order_one (decision.Activate token) one other p q = p ∙ sym q
  order_one (decision.Merge token target) one other p q = p ∙ sym q
  order_one (decision.Reject token) one other p q = p ∙ sym q
  order_one (decision.Constrain kind arguments) one other p q = p ∙ sym q
  order_one (decision.Relate relation first second) one other p q = p ∙ sym q

  posted_one : (which : Decision) (one other : List NamedEdge) → HasPostedEdges model decisions which one → HasPostedEdges model decisions which other → one ≡ other
  posted_one (decision.Constrain kind arguments) one other p q = claim_one (posted_claim kind arguments) one other p q
  posted_one (decision.Relate relation first second) one other p q =
      appends_one (HasClaimEdges model decisions) claim_one (relates relation first second) one other p q
  posted_one which one other p q = p ∙ sym q

  given_one : (token : TokenName) (which : Part) (one other : List NamedEdge) → HasGivenEdges model decisions token which one → HasGivenEdges model decisions token which other → one ≡ other
  given_one token which one other (inl (value, point, given, is)) (inl (value', point', given', is')) =
      let values = specified_one model decisions settled (Token token which) value value' given.0 given'.0 in
      let points = point_one token which point point' given.1 given'.1 in
      let both : edge_from Origin value point ∷ edge_from point (pos 0 -ℤ value) Origin ∷ [] ≡ edge_from Origin value' point' ∷ edge_from point' (pos 0 -ℤ value') Origin ∷ [] =
      λ i. edge_from Origin (values i) (points i) ∷ edge_from (points i) (pos 0 -ℤ values i) Origin ∷ [] in
      is ∙ (both ∙ sym is')
  given_one token which one other (inl p) (inr q) = absurd (q.0 p.0 p.1 p.2)
  given_one token which one other (inr p) (inl q) = absurd (p.0 q.0 q.1 q.2)
  given_one token which one other (inr p) (inr q) = p.1 ∙ sym q.1

  times_one : (token : TokenName) (one other : List NamedEdge) → HasTimesGiven model decisions token one → HasTimesGiven model decisions token other → one ≡ other
  times_one token one other (starts, ends, has, has_end, is) (starts', ends', has', has_end', is') =
      let first = given_one token part.Start starts starts' has has' in
      let second = given_one token part.End ends ends' has_end has_end' in
      let both : starts ++ ends ≡ starts' ++ ends' = λ i. first i ++ second i in
      is ∙ (both ∙ sym is')

  module _ (state : State) (order : AreInOrder state) where
    lasts_one : (token : TokenName) (low high low' high' : ℤ) → LastsBetween state decisions token low high → LastsBetween state decisions token low' high' → (low ≡ low') × (high ≡ high')
    lasts_one token low high low' high' (inl p) (inl q) =
        let same = get_same decisions (length decisions - 1) (decision.Specify (Token token part.Duration) low) (decision.Specify (Token token part.Duration) low') p.0 q.0 in
        let lows : low ≡ low' = cc in
        (lows, p.1 ∙ (lows ∙ sym q.1))
    lasts_one token low high low' high' (inl p) (inr q) = absurd (q.0 low p.0)
    lasts_one token low high low' high' (inr p) (inl q) = absurd (p.0 low' q.0)
    lasts_one token low high low' high' (inr (none, (domain, gives, is_low, is_high))) (inr (none', (domain', gives', is_low', is_high'))) =
        let same = gives_same state order (Token token part.Duration) domain domain' gives gives' in
        (is_low ∙ (ap least same ∙ sym is_low'), is_high ∙ (ap greatest same ∙ sym is_high'))

    lasting_one : (token : TokenName) (one other : List NamedEdge) → HasLastingEdges model state decisions token one → HasLastingEdges model state decisions token other → one ≡ other
    lasting_one token one other (inl (active, (low, high, lasts, is))) (inl (active', (low', high', lasts', is'))) =
        let both = lasts_one token low high low' high' lasts lasts' in
        let edges : lasting_edges model.problem token low high ≡ lasting_edges model.problem token low' high' = λ i. lasting_edges model.problem token (both.0 i) (both.1 i) in
        is ∙ (edges ∙ sym is')
    lasting_one token one other (inl p) (inr q) = absurd (q.0 p.0)
    lasting_one token one other (inr p) (inl q) = absurd (p.0 q.0)
    lasting_one token one other (inr p) (inr q) = p.1 ∙ sym q.1

    sort_one : (sort : Sort) (token : TokenName) (rule : ℕ) (item : Item) (one other : List NamedEdge) → HasSortEdges sort model decisions token rule item one → HasSortEdges sort model decisions token rule item other → one ≡ other
    sort_one Relations token rule item one other p q = relation_one token rule item one other p q
    sort_one Constraints token rule item one other p q = constraint_one (InRule token rule) item one other p q

    open_one : (sort : Sort) (token : TokenName) (each : TokenItem) (one other : List NamedEdge) → HasOpenEdges sort model decisions state token each one → HasOpenEdges sort model decisions state token each other → one ≡ other
    open_one sort token each one other (inl p) (inl q) = sort_one sort token each.rule each.placed.item one other p.1 q.1
    open_one sort token each one other (inl p) (inr q) = absurd (q.0 p.0)
    open_one sort token each one other (inr p) (inl q) = absurd (p.0 q.0)
    open_one sort token each one other (inr p) (inr q) = p.1 ∙ sym q.1

    rules_one : (token : TokenName) (one other : List Rule) → AreRulesOf model token one → AreRulesOf model token other → one ≡ other
    rules_one token one other p q = gets_one one other (λ k rule at. (q k rule).0 ((p k rule).1 at)) (λ k rule at. (p k rule).0 ((q k rule).1 at))

    token_edges_one : (sort : Sort) (token : TokenName) (one other : List NamedEdge) → HasTokenEdges sort model decisions state token one → HasTokenEdges sort model decisions state token other → one ≡ other
    token_edges_one sort token one other (rules, are, appends) (rules', are', appends') =
        let same = rules_one token rules' rules are' are in
        appends_one (HasOpenEdges sort model decisions state token) (open_one sort token) (items_of_rules 0 rules) one other appends
        (subst (λ (list : List Rule). AppendsEach (HasOpenEdges sort model decisions state token) (items_of_rules 0 list) other) same appends')

    time_edges_one : (one other : List NamedEdge) → AreTimeEdges model decisions state one → AreTimeEdges model decisions state other → one ≡ other
    time_edges_one one other p q =
        let lasting = appends_one (HasLastingEdges model state decisions) lasting_one state.tokens p.lasting q.lasting p.lasting_are q.lasting_are in
        let given = appends_one (HasTimesGiven model decisions) times_one state.tokens p.given q.given p.given_are q.given_are in
        let related = appends_one (HasTokenEdges Relations model decisions state) (token_edges_one Relations) state.tokens p.related q.related p.related_are q.related_are in
        let problem = appends_one (HasConstraintEdges model decisions InProblem) (constraint_one InProblem) model.problem.items p.problem q.problem p.problem_are q.problem_are in
        let constrained = appends_one (HasTokenEdges Constraints model decisions state) (token_edges_one Constraints) state.tokens p.constrained q.constrained p.constrained_are q.constrained_are in
        let ordered = appends_one HasOrderEdges order_one decisions p.ordered q.ordered p.ordered_are q.ordered_are in
        let posted = appends_one (HasPostedEdges model decisions) posted_one decisions p.posted q.posted p.posted_are q.posted_are in
        let both : p.lasting ++ (p.given ++ (p.related ++ (p.problem ++ (p.constrained ++ (p.ordered ++ p.posted))))) ≡ q.lasting ++ (q.given ++ (q.related ++ (q.problem ++ (q.constrained ++ (q.ordered ++ q.posted))))) =
        λ i. lasting i ++ (given i ++ (related i ++ (problem i ++ (constrained i ++ (ordered i ++ posted i))))) in
        p.all ∙ (both ∙ sym q.all)

-- so has a database
pub standing_edges_one : (database : Database) → IsSettled database.model (standing database.history) → (one other : List NamedEdge) → AreStandingEdges database one → AreStandingEdges database other → one ≡ other
standing_edges_one database settled one other (inl p) (inl q) = p.1 ∙ sym q.1
standing_edges_one database settled one other (inl p) (inr q) = absurd (omega (arith, ap length p.0, q.0))
standing_edges_one database settled one other (inr p) (inl q) = absurd (omega (arith, ap length q.0, p.0))
standing_edges_one database settled one other (inr (some, (state, least, are))) (inr (some', (state', least', are'))) =
    let states = least_same database.model (but_last (standing database.history)) state' state least' least in
    time_edges_one database.model (standing database.history) settled state least.closed.consistent.is_state.order one other are
    (subst (λ s. AreTimeEdges database.model (standing database.history) s other) states are')
