-- The plan of a state without a flaw keeps what is asked of values, roots, tokens, merges and timelines.
use Rattle.std.proofs.Common.{get_or, ◌≡◌, ℕ, ◌<◌, ℤ, ◌≤ℤ◌, ◌<ℤ◌, Bool, true, false, List, [], ◌∷◌, length, Some, ◌⊎◌, inl, inr, refl, sym, ap, ◌∙◌, subst, arith}
use Rattle.std.specs.Prelude.{Contains, slice_get}
use Rattle.std.proofs.lemmas.Bool.{cases_eq}
use Rattle.std.proofs.lemmas.Int.{ints, by_lt_z}
use Rattle.std.proofs.lemmas.List.{length-append}
use Rattle.std.proofs.lemmas.Option.{slice_get_within, get_or_from_slice_get}
use Rattle.std.proofs.lemmas.Slice.Zip.{AllZip-long}
use Rattle.domain_core.specs.Domain.{Domain, Has}
use Rattle.domain_core.proofs.Words.{single_least, single_greatest}
use Rattle.eu_name.specs.declared.name.Part.{Part}
use Rattle.eu_name.specs.declared.name.Part.TheVariants.{Start, End, Duration, Object}
use Rattle.eu_name.specs.declared.name.TokenName.{TokenName}
use Rattle.eu_name.specs.declared.name.VarName.{VarName}
use Rattle.eu_name.specs.declared.name.VarName.TheVariants as variables
use Rattle.eu_name.specs.NameOrder.{IsTokenBefore, ByToken, place_of}
use Rattle.eu_name.proofs.Members.{get_all, get_same, contains_from_get}
use Rattle.eu_name.proofs.Orders.{token_order}
use Rattle.model_core.specs.declared.decision.Decision.{Decision}
use Rattle.model_core.specs.declared.decision.Decision.TheVariants.{Specify, Activate, Merge, Reject, Order, Constrain, Relate}
use Rattle.model_core.specs.declared.item.Item.{Item}
use Rattle.model_core.specs.declared.item.Item.TheVariants.{Constraint, Relation}
use Rattle.domain_core.specs.declared.kind.Kind.{Kind}
use Rattle.domain_core.specs.declared.kind.Kind.TheVariants.{Eq, Neq, Lt, Leq, AddEq, MulEq, TestEq, TestLeq, AllDiff, Field}
use Rattle.model_core.specs.declared.item.Term.{Term}
use Rattle.model_core.specs.declared.model.Model.{Model}
use Rattle.model_core.specs.declared.model.Root.{Root}
use Rattle.model_core.specs.declared.model.RootKind.{RootKind}
use Rattle.model_core.specs.declared.model.RootKind.TheVariants.{Goal, Rejectable, Fact}
use Rattle.model_core.specs.declared.rule.Slot.{Slot}
use Rattle.model_core.specs.declared.variable.Base.{Base}
use Rattle.model_core.specs.declared.variable.Base.TheVariants.{Given, Void}
use Rattle.domain_core.specs.Constraints.{arity_of}
use Rattle.model_core.specs.Decided.{IsTaken, IsActive, IsRejected}
use Rattle.model_core.specs.Kinds.{Scope, OfProblem, AreArguments}
use Rattle.model_core.specs.Lawful.{IsLawfulItem}
use Rattle.model_core.specs.State.{State, Gives}
use Rattle.model_core.specs.Tokens.{IsRoot, IsFact, root_token}
use Rattle.model_core.specs.Variables.{HasBase, IsInBase}
use Rattle.model_core.proofs.Leading.{token_once}
use Rattle.plan_defs.specs.declared.plan.Line as the_line
use Rattle.plan_defs.specs.declared.plan.Line.TheVariants as lines
use Rattle.plan_defs.specs.declared.plan.Place.{Place}
use Rattle.plan_defs.specs.declared.plan.Place.TheVariants as places
use Rattle.plan_defs.specs.declared.plan.Plan.{Plan}
use Rattle.plan_defs.specs.Claims.{lasts, part_of}
use Rattle.plan_defs.specs.Plans.{IsTakenIn, HasPartValue, IsLineBefore}
use Rattle.plan_defs.specs.Refusals.{IsDeclared, HaveSamePredicate}
use Rattle.model_core.specs.declared.refusal.Refusal.TheVariants.{NotSamePredicate}
use Rattle.plan_defs.specs.Terms.{Argument, InProblem, Means}
use Rattle.plan_defs.specs.Valid.{HasDeclaredValue, HasDeclaredParts, IsLineAt, TakesPlaceAt, Becomes, IsLineOfSort, SuitsToken, SuitsMerge, SuitsIfToken, SuitsIfMerged, IsTrueItem, EndsBy, TakeTurns, KeepsGlobals, KeepsRoots, KeepsTokens, KeepsMerges, KeepsTimelines}
use Rattle.plan_defs.proofs.Lower.{says_further}
use Rattle.eu_name.proofs.Ordered.{contains_head, contains_later, contains_cases, contains_none}
use Rattle.plan_defs.specs.Flaws.{Unordered}
use Rattle.plan_defs.specs.StatePlans.{GivesOnly, TakesPlaceAs, IsTokenLine, IsLineIn}
use Rattle.plan_defs.proofs.Knowing.{same_token}
use Rattle.plan_defs.proofs.Admitting.{admitted}
use Rattle.plan_defs.proofs.Stating.{takes_not_rejected, merged_not_rejected}
use Rattle.law_states.specs.Soundness.{IsFlawlessPlan}
use Rattle.law_states.proofs.Agreeing.{agrees, surely_rejectable, all_kept}
use Rattle.law_states.proofs.Deciding.{Becoming, IsAFact, IsActivatedOne, IsMergedOne, IsRejectedOne, no_steps}
use Rattle.law_states.proofs.Having.{IsKept, is_state, token_has, domain_of, value_of, becomes_of, takes_line, active_line, target_active, active_not_merged, gives_value, claim_true}
use Rattle.plan_defs.specs.Unordered.{MayOverrun}

-- ---- what is on lists can be found out

ordered_or_not : (decisions : List Decision) (one other : TokenName) → Contains decisions (Order one other) ⊎ (Contains decisions (Order one other) → ⊥)
ordered_or_not [] one other = inr (λ none. contains_none (Order one other) none)
ordered_or_not (first ∷ decisions) one other = elim (is_order first) [
  | inl same ↦ inl (subst (λ d. Contains (first ∷ decisions) d) same (contains_head first decisions))
  | inr not ↦ elim (ordered_or_not decisions one other) [
    | inl later ↦ inl (contains_later first (Order one other) decisions later)
    | inr none ↦ inr (λ there. elim (contains_cases first (Order one other) decisions there) [ inl same ↦ not same | inr later ↦ none later ])
  ]
]
  where
    is_order : (d : Decision) → (d ≡ Order one other) ⊎ (d ≡ Order one other → ⊥)
    is_order (Specify name value) = inr (λ e. cc)
    is_order (Activate token) = inr (λ e. cc)
    is_order (Merge token target) = inr (λ e. cc)
    is_order (Reject token) = inr (λ e. cc)
    is_order (Constrain kind arguments) = inr (λ e. cc)
    is_order (Relate relation a b) = inr (λ e. cc)
    is_order (Order a b) = elim (same_token a one) [
      | inr not ↦ inr (λ e. let first_same : a ≡ one = cc in not first_same)
      | inl same_a ↦ elim (same_token b other) [
        | inr not ↦ inr (λ e. let second_same : b ≡ other = cc in not second_same)
        | inl same_b ↦ inl (cc)
      ]
    ]

-- a constraint of a lawful model has arguments
pub some_arguments : (model : Model) (scope : Scope) (kind : Kind) (terms : List Term) (arguments : List Argument) → length terms ≡ length arguments → length terms ≡ arity_of kind
    → AreArguments model scope kind terms → (first : Argument) × ((rest : List Argument) × (arguments ≡ first ∷ rest))
some_arguments model scope kind terms (first ∷ rest) same arity are = (first, (rest, refl))
some_arguments model scope kind terms [] same arity are = absurd (none kind terms (omega (arith, same)) arity are)
  where
    none : (k : Kind) (ts : List Term) → length ts ≡ 0 → length ts ≡ arity_of k → AreArguments model scope k ts → ⊥
    none Eq ts zero_long arity' are' = omega (arith, zero_long, arity')
    none Neq ts zero_long arity' are' = omega (arith, zero_long, arity')
    none Lt ts zero_long arity' are' = omega (arith, zero_long, arity')
    none Leq ts zero_long arity' are' = omega (arith, zero_long, arity')
    none AddEq ts zero_long arity' are' = omega (arith, zero_long, arity')
    none MulEq ts zero_long arity' are' = omega (arith, zero_long, arity')
    none TestEq ts zero_long arity' are' = omega (arith, zero_long, arity')
    none TestLeq ts zero_long arity' are' = omega (arith, zero_long, arity')
    none (Field number) ts zero_long arity' are' = omega (arith, zero_long, arity')
    none AllDiff ts zero_long arity' are' = are'

module _ (model : Model) (decisions : List Decision) (state : State) (plan : Plan) (is : IsFlawlessPlan model decisions state plan) where
  -- ---- values

  in_base : (domain : Domain) (base : Base) (value : ℤ) → IsInBase domain base → Has domain value → (inside : Domain) × (base ≡ Given inside) × Has inside value
  in_base domain (Given inside) value within has = (inside, refl, within.values value has)
  in_base domain Void value within has = absurd within

  pub declared : (name : VarName) (value : ℤ) → GivesOnly state name value → IsDeclared model name value
  declared name value has =
      let found = is.settled.consistent.in_base name has.0 has.1 in
      let base = in_base has.0 found.0 value found.2 has.2.has in
      (base.0, subst (λ b. HasBase model name b) base.1 found.1, base.2)

  pub declared_value : (name : VarName) (domain : Domain) → Gives state name domain → IsKept model decisions state plan is name → HasDeclaredValue model plan name
  declared_value name domain gives kept =
      let value = value_of model decisions state plan is name domain gives kept in
      let has : GivesOnly state name value.0 = (domain, gives, value.1) in
      (value.0, gives_value model decisions state plan is name value.0 has kept, declared name value.0 has)

  pub keeps_globals : (place : Place) → KeepsGlobals model plan place
  keeps_globals (places.Global number) = λ below.
      let given = ((is_state model decisions state plan is).variables (variables.Global number)).0 below in
      declared_value (variables.Global number) given.0 given.1 (λ rejected. rejected.1)
  keeps_globals (places.Root number) = tt
  keeps_globals (places.Line number) = tt
  keeps_globals (places.Slot line rule slot) = tt
  keeps_globals (places.Local line rule number) = tt
  keeps_globals (places.Problem number) = tt
  keeps_globals (places.Item line rule item) = tt
  keeps_globals (places.Pair one other) = tt
  keeps_globals (places.Instant object instant) = tt

  -- ---- lines

  pub said : (number : ℕ) (line : the_line.Line) → IsLineAt plan number line → IsLineIn model decisions state line
  said number line at = (is.is_plan.lines line).0 (contains_from_get plan.lines number line at)

  -- ---- roots

  pub root_there : (number : ℕ) (root : Root) → IsRoot model number root → Contains state.tokens (root_token number)
  root_there number root is_root = is.settled.consistent.tokens (root_token number) (record {
    root = root;
    is_root = is_root;
    asked = λ front step back same. absurd (omega (arith, ap length same, length-append front (step ∷ back)));
  })

  root_rejectable : (number : ℕ) (root : Root) → IsRoot model number root → IsRejected decisions (root_token number) → (root.kind ≡ Rejectable → ⊥) → ⊥
  root_rejectable number root is_root rejected not =
      surely_rejectable model decisions state plan is (root_token number) rejected (λ rejectable.
      not (ap (λ (r : Root). r.kind) (get_same model.problem.roots number root rejectable.1.0 is_root rejectable.1.1) ∙ rejectable.1.2))

  fact_kind : (number : ℕ) (root : Root) → IsRoot model number root → IsFact model (root_token number) → root.kind ≡ Fact
  fact_kind number root is_root fact = ap (λ (r : Root). r.kind) (get_same model.problem.roots number root fact.1.0 is_root fact.1.1) ∙ fact.1.2

  becomes_root : (number : ℕ) (root : Root) (kind : RootKind) → IsRoot model number root → root.kind ≡ kind → Contains state.tokens (root_token number)
      → Becoming model decisions (root_token number) → Becomes plan kind (root_token number)
  becomes_root number root Fact is_root same there b =
      let fact : IsFact model (root_token number) = (refl, (root, is_root, same)) in
      let line = takes_line model decisions state plan is true (root_token number) there fact in (line.0, line.1)
  becomes_root number root Goal is_root same there (IsAFact fact) = let e = fact_kind number root is_root fact in absurd (cc)
  becomes_root number root Goal is_root same there (IsActivatedOne activated) =
      let line = takes_line model decisions state plan is false (root_token number) there activated in inl (line.0, line.1)
  becomes_root number root Goal is_root same there (IsMergedOne target merged) = inr (target, (is.is_plan.lines (lines.Merged (root_token number) target)).1 (there, merged))
  becomes_root number root Goal is_root same there (IsRejectedOne rejected) = absurd (root_rejectable number root is_root rejected (λ e. cc))
  becomes_root number root Rejectable is_root same there (IsAFact fact) = let e = fact_kind number root is_root fact in absurd (cc)
  becomes_root number root Rejectable is_root same there (IsActivatedOne activated) =
      let line = takes_line model decisions state plan is false (root_token number) there activated in inl (inl (line.0, line.1))
  becomes_root number root Rejectable is_root same there (IsMergedOne target merged) =
      inl (inr (target, (is.is_plan.lines (lines.Merged (root_token number) target)).1 (there, merged)))
  becomes_root number root Rejectable is_root same there (IsRejectedOne rejected) = inr ((is.is_plan.lines (lines.Rejected (root_token number))).1 (there, rejected))

  rejected_root : (token : TokenName) → IsRejected decisions token → token.steps ≡ []
  rejected_root token rejected = elim (no_steps token.steps) [
    | inl none ↦ none
    | inr some ↦ absurd (surely_rejectable model decisions state plan is token rejected (λ rejectable. some rejectable.0))
  ]

  of_sort : (line : the_line.Line) → IsLineIn model decisions state line → IsLineOfSort line
  of_sort (lines.Token token true values) line = line.takes_place.0
  of_sort (lines.Token token false values) line = tt
  of_sort (lines.Merged token target) line = tt
  of_sort (lines.Rejected token) line = rejected_root token line.1
  of_sort (lines.Local name value) line = tt

  pub keeps_roots : (place : Place) → KeepsRoots model plan place
  keeps_roots (places.Root number) = λ root is_root.
      let there = root_there number root is_root in
      becomes_root number root root.kind is_root refl there (becomes_of model decisions state plan is (root_token number) there)
  keeps_roots (places.Line number) = λ line at. of_sort line (said number line at)
  keeps_roots (places.Global number) = tt
  keeps_roots (places.Slot line rule slot) = tt
  keeps_roots (places.Local line rule number) = tt
  keeps_roots (places.Problem number) = tt
  keeps_roots (places.Item line rule item) = tt
  keeps_roots (places.Pair one other) = tt
  keeps_roots (places.Instant object instant) = tt

  -- ---- tokens and merges

  pub part_kept : (token : TokenName) (part : Part) → (IsRejected decisions token → ⊥) → IsKept model decisions state plan is (variables.Token token part)
  part_kept token part kept rejected = kept (subst (λ t. IsRejected decisions t) (sym rejected.1) rejected.2)

  declared_parts : (token : TokenName) → Contains state.tokens token → (IsRejected decisions token → ⊥) → HasDeclaredParts model plan token
  declared_parts token there kept = λ part has.
      let given = ((is_state model decisions state plan is).variables (variables.Token token part)).0 (there, (has.2.0, (has.0, has.1, has.2.1))) in
      declared_value (variables.Token token part) given.0 given.1 (part_kept token part kept)

  suits_token : (fact : Bool) (token : TokenName) (values : List ℤ) → IsTokenLine model decisions state fact token values → SuitsToken model plan token
  suits_token fact token values line =
      let kept = takes_not_rejected model decisions state is.settled fact token line.takes_place in
      record {
        parts = declared_parts token line.there kept;
        lasts = claim_true model decisions state plan is (lasts token) (part_of token Start) (part_of token Duration ∷ part_of token End ∷ []) refl
            (part_kept token Start kept, (part_kept token Duration kept, (part_kept token End kept, tt)))
            (is.settled.consistent.claims (lasts token) (inr (inr (inl (record { token = token; there = line.there; says = refl })))));
      }

  suits_if_token : (line : the_line.Line) → IsLineIn model decisions state line → SuitsIfToken model plan line
  suits_if_token (lines.Token token fact values) line = suits_token fact token values line
  suits_if_token (lines.Merged token target) line = tt
  suits_if_token (lines.Rejected token) line = tt
  suits_if_token (lines.Local name value) line = tt

  pub keeps_tokens : (place : Place) → KeepsTokens model plan place
  keeps_tokens (places.Line number) = λ line at. suits_if_token line (said number line at)
  keeps_tokens (places.Global number) = tt
  keeps_tokens (places.Root number) = tt
  keeps_tokens (places.Slot line rule slot) = tt
  keeps_tokens (places.Local line rule number) = tt
  keeps_tokens (places.Problem number) = tt
  keeps_tokens (places.Item line rule item) = tt
  keeps_tokens (places.Pair one other) = tt
  keeps_tokens (places.Instant object instant) = tt

  pub same_predicate : (token target : TokenName) → Contains decisions (Merge token target) → HaveSamePredicate model token target
  same_predicate token target merged =
      let known = is.founded.known (Merge token target) merged in
      let one = token_has model decisions state plan is token known.0 in
      let other = token_has model decisions state plan is target known.1 in
      elim (cases_eq one.0.pred other.0.pred) [
        | inl same ↦ record { slot = one.0; other_slot = other.0; has_one = one.1; has_other = other.1; same = same }
        | inr apart ↦ absurd ((admitted model decisions (Merge token target) is.settled.settled merged).admissible.free NotSamePredicate (λ have.
            apart (ap (λ (s : Slot). s.pred) (token_once model token one.0 have.slot one.1 have.has_one) ∙ (have.same ∙ ap (λ (s : Slot). s.pred) (token_once model target have.other_slot other.0 have.has_other other.1)))))
      ]

  suits_merge : (token target : TokenName) → Contains state.tokens token → Contains decisions (Merge token target) → SuitsMerge model plan token target
  suits_merge token target there merged =
      let active = target_active model decisions state plan is token target merged in
      let line = active_line model decisions state plan is target (is.founded.known (Merge token target) merged).1 active in
      record {
        there = (line.0, line.1);
        apart = λ same. active_not_merged model decisions state plan is token target (subst (λ t. IsActive model decisions t) same active) merged;
        same = same_predicate token target merged;
        parts = declared_parts token there (merged_not_rejected model decisions state is.settled token target merged);
      }

  suits_if_merged : (line : the_line.Line) → IsLineIn model decisions state line → SuitsIfMerged model plan line
  suits_if_merged (lines.Token token fact values) line = tt
  suits_if_merged (lines.Merged token target) line = suits_merge token target line.0 line.1
  suits_if_merged (lines.Rejected token) line = tt
  suits_if_merged (lines.Local name value) line = tt

  pub keeps_merges : (place : Place) → KeepsMerges model plan place
  keeps_merges (places.Line number) = λ line at. suits_if_merged line (said number line at)
  keeps_merges (places.Global number) = tt
  keeps_merges (places.Root number) = tt
  keeps_merges (places.Slot line rule slot) = tt
  keeps_merges (places.Local line rule number) = tt
  keeps_merges (places.Problem number) = tt
  keeps_merges (places.Item line rule item) = tt
  keeps_merges (places.Pair one other) = tt
  keeps_merges (places.Instant object instant) = tt

  -- ---- items of the problem

  pub taken_down : (token : TokenName) → IsTakenIn plan token → IsTaken decisions token
  taken_down token (inl activated) = inl ((is.is_plan.lines (lines.Token token false activated.0)).0 activated.1).takes_place
  taken_down token (inr merged) = inr (merged.0, ((is.is_plan.lines (lines.Merged token merged.0)).0 merged.1).1)

  true_item : (item : Item) → Contains model.problem.items item → IsLawfulItem model OfProblem item → IsTrueItem model plan item
  true_item (Constraint kind terms) there lawful = λ claim says.
      let down = says_further model (IsTakenIn plan) (IsTaken decisions) taken_down InProblem (Constraint kind terms) claim says in
      let some = some_arguments model OfProblem kind terms claim.arguments (sym (AllZip-long (Means InProblem) terms claim.arguments down.means)) lawful.0 lawful.1 in
      claim_true model decisions state plan is claim some.0 some.1.0 some.1.1
      (all_kept model decisions state plan is claim.arguments down.counts)
      (is.settled.consistent.claims claim (inl (record { item = Constraint kind terms; stands = there; says = down })))
  true_item (Relation relation slot) there lawful = λ claim says. absurd says

  pub keeps_problem : (number : ℕ) (item : Item) → slice_get model.problem.items number ≡ Some item → IsTrueItem model plan item
  keeps_problem number item at =
      true_item item (contains_from_get model.problem.items number item at) (get_all (IsLawfulItem model OfProblem) model.problem.items number item is.settled.lawful.items at)

  -- ---- timelines

  pub line_active : (fact : Bool) (token : TokenName) → TakesPlaceAs model decisions fact token → IsActive model decisions token
  line_active true token takes = inl takes
  line_active false token takes = inr takes

  -- the value of a part of a token that takes place
  pub part_has : (token : TokenName) (part : Part) (value : ℤ) → HasPartValue plan token part value → GivesOnly state (variables.Token token part) value
  part_has token part value has =
      let line = (is.is_plan.lines (lines.Token token has.1.0 has.0)).0 has.1.1 in
      (line.values_are part value).0 has.2

  -- a token that takes place starts and ends
  record IsTimedToken (token : TokenName) : Type 0 where
    start : ℤ
    end : ℤ
    starts : GivesOnly state (variables.Token token Start) start
    ends : GivesOnly state (variables.Token token End) end
    kept : IsRejected decisions token → ⊥

  timed : (fact : Bool) (token : TokenName) (values : List ℤ) → IsTokenLine model decisions state fact token values → IsTimedToken token
  timed fact token values line =
      let kept = takes_not_rejected model decisions state is.settled fact token line.takes_place in
      let has = token_has model decisions state plan is token line.there in
      let start = ((is_state model decisions state plan is).variables (variables.Token token Start)).0 (line.there, (Given _, (has.0, has.1, refl))) in
      let end = ((is_state model decisions state plan is).variables (variables.Token token End)).0 (line.there, (Given _, (has.0, has.1, refl))) in
      let starts = value_of model decisions state plan is (variables.Token token Start) start.0 start.1 (part_kept token Start kept) in
      let ends = value_of model decisions state plan is (variables.Token token End) end.0 end.1 (part_kept token End kept) in
      record {
        start = starts.0;
        end = ends.0;
        starts = (start.0, start.1, starts.1);
        ends = (end.0, end.1, ends.1);
        kept = kept;
      }

  ends_by : (one other : TokenName) (a : IsTimedToken one) (b : IsTimedToken other) → a.end ≤ℤ b.start → EndsBy model plan one other
  ends_by one other a b less = record {
    values = a.end ∷ b.start ∷ [];
    have = (
      gives_value model decisions state plan is (variables.Token one End) a.end a.ends (part_kept one End a.kept),
      (gives_value model decisions state plan is (variables.Token other Start) b.start b.starts (part_kept other Start b.kept), tt),
    );
    holds = less;
  }

  overruns : (one other : TokenName) (a : IsTimedToken one) (b : IsTimedToken other) → b.start <ℤ a.end → MayOverrun state one other
  overruns one other a b late =
      let end_ok = domain_of model decisions state plan is (variables.Token one End) a.ends.0 a.ends.1 in
      let start_ok = domain_of model decisions state plan is (variables.Token other Start) b.starts.0 b.starts.1 in
      record {
        end = a.ends.0;
        start = b.starts.0;
        gives_end = a.ends.1;
        gives_start = b.starts.1;
        late = omega (arith, ints, late, single_greatest a.ends.0 a.end end_ok a.ends.2, single_least b.starts.0 b.start start_ok b.starts.2);
      }

  before_of : (one other : TokenName) → ByToken one other (place_of Start < place_of Start) → IsTokenBefore one other
  before_of one other (inl before) = before
  before_of one other (inr same) = absurd (omega (arith, same.1))

  turns : (first second : ℕ) → first < second → (one other : TokenName) → TakesPlaceAt plan first one → TakesPlaceAt plan second other → TakeTurns model plan one other
  turns first second less one other at at' = λ on.
      let line = said first (lines.Token one at.0 at.1.0) at.1.1 in
      let line' = said second (lines.Token other at'.0 at'.1.0) at'.1.1 in
      let a = timed at.0 one at.1.0 line in
      let b = timed at'.0 other at'.1.0 line' in
      let before = line_before in
      elim (ordered_or_not decisions one other) [
        | inl ordered ↦ inl (agrees model decisions state plan is (Order one other) ordered)
        | inr not ↦ elim (ordered_or_not decisions other one) [
          | inl ordered ↦ inr (agrees model decisions state plan is (Order other one) ordered)
          | inr not' ↦
              by_lt_z b.start a.end (λ late.
              by_lt_z a.start b.end (λ late'.
              absurd (is.flawless (
                Unordered one other,
                (
                  before,
                  record {
                    share = record {
                      apart = λ same. token_order.irreflexive other (subst (λ t. IsTokenBefore t other) same before);
                      one_active = line_active at.0 one line.takes_place;
                      other_active = line_active at'.0 other line'.takes_place;
                      timeline = on.timeline;
                      is_timeline = on.is_timeline;
                      one_on = part_has one Object on.timeline on.one_on;
                      other_on = part_has other Object on.timeline on.other_on;
                    };
                    no_order = record { not_before = not; not_after = not'; overruns = overruns one other a b late; overrun = overruns other one b a late' };
                  },
                ),
              )))
              (λ early. inr (ends_by other one b a (omega (arith, ints, early)))))
              (λ early. inl (ends_by one other a b (omega (arith, ints, early))))
        ]
      ]
    where
      line_before : IsTokenBefore one other
      line_before =
          let l = lines.Token one at.0 at.1.0 in
          let l' = lines.Token other at'.0 at'.1.0 in
          let within = slice_get_within plan.lines second l' at'.1.1 in
          let pair = is.is_plan.order first second l less within in
          let first_is = get_or_from_slice_get plan.lines first l l at.1.1 in
          let second_is = get_or_from_slice_get plan.lines second l' l at'.1.1 in
          before_of one other (subst (λ y. IsLineBefore l y) second_is (subst (λ x. IsLineBefore x (get_or plan.lines second l)) first_is pair))

  pub keeps_timelines : (place : Place) → KeepsTimelines model plan place
  keeps_timelines (places.Pair first second) = turns first second
  keeps_timelines (places.Global number) = tt
  keeps_timelines (places.Root number) = tt
  keeps_timelines (places.Line number) = tt
  keeps_timelines (places.Slot line rule slot) = tt
  keeps_timelines (places.Local line rule number) = tt
  keeps_timelines (places.Problem number) = tt
  keeps_timelines (places.Item line rule item) = tt
  keeps_timelines (places.Instant object instant) = tt
