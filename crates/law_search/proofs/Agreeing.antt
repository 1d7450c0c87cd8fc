-- Which tokens may change places, and what the plan agrees with in which they have.
use Rattle.std.proofs.Common.{◌≡◌, ℕ, zero, suc, ◌≤◌, inl, inr, ℤ, Bool, true, false, List, [], ◌∷◌, ◌++◌, length, Some, refl, sym, ap, ◌∙◌, subst, append_assoc, arith}
use Rattle.std.specs.Prelude.{All, AllPairs, Contains, slice_get}
use Rattle.std.specs.List.{AllZip}
use Rattle.std.proofs.lemmas.List.{append-nil, length-append, length-map}
use Rattle.std.proofs.lemmas.List.Elements.{All-head, All-tail, All-map, All-weaker, All-contains, Contains-push_cases}
use Rattle.std.proofs.lemmas.List.Sorted.{length_permutation}
use Rattle.eu_name.specs.declared.name.Part.TheVariants.{Start, End}
use Rattle.eu_name.specs.declared.name.Step.{Step}
use Rattle.eu_name.specs.declared.name.TokenName.{TokenName}
use Rattle.eu_name.specs.declared.name.VarName.{VarName}
use Rattle.eu_name.specs.declared.name.VarName.TheVariants as names
use Rattle.model_core.specs.declared.decision.ConArg.{ConArg}
use Rattle.model_core.specs.declared.decision.ConArg.TheVariants.{Var, Value}
use Rattle.model_core.specs.declared.decision.Decision.{Decision}
use Rattle.model_core.specs.declared.decision.Decision.TheVariants.{Specify, Activate, Merge, Reject, Order, Constrain, Relate}
use Rattle.model_core.specs.declared.model.Model.{Model}
use Rattle.model_core.specs.Decided.{IsActivated, IsActive}
use Rattle.model_core.specs.declared.model.RootKind.{RootKind}
use Rattle.model_core.specs.declared.model.RootKind.TheVariants.{Goal, Rejectable, Fact}
use Rattle.model_core.specs.declared.model.Root.{Root}
use Rattle.model_core.specs.Tokens.{HasRule, IsRoot, root_token}
use Rattle.plan_defs.specs.declared.plan.Clause.TheVariants.{V1, V2, V3, V4, V5, V6, V7, V8, V9, V10}
use Rattle.plan_defs.specs.declared.plan.Line as the_line
use Rattle.plan_defs.specs.declared.plan.Line.TheVariants as lines
use Rattle.plan_defs.specs.declared.plan.Place.TheVariants as places
use Rattle.plan_defs.specs.declared.plan.Plan.{Plan}
use Rattle.plan_defs.specs.Broken.{AgreesWith, IsTrueIn}
use Rattle.plan_defs.specs.Claims.{Claim, argument_of, posted_claim}
use Rattle.plan_defs.specs.Plans.{IsLineBefore, IsPlanOf, IsLineOf, IsLocalValue, TakesPlaceWith, HasValues, IsActivatedIn, IsTakenIn, GivesValue}
use Rattle.plan_defs.specs.Support.{front_token}
use Rattle.plan_defs.specs.Terms.{Argument}
use Rattle.plan_defs.specs.Valid.{IsValid, HasArgumentValue, IsClaimTrue, IsAsked, IsAskedToken, SuitsMerge, EndsBy, Becomes}
use Rattle.plan_defs.proofs.Closing.{last_step}
use Rattle.plan_defs.proofs.Counting.{relates_all}
use Rattle.eu_name.proofs.Members.{get_from_contains, contains_from_get}
use Rattle.plan_defs.proofs.Members.{all_from_get}
use Rattle.plan_defs.proofs.Saying.{own_or_merged, own_or_rejected, merged_or_rejected, fact_or_not}
use Rattle.law_search.specs.Swapping.{IsSwap, token_under, swapped_token, swapped_name, swapped_line}
use Rattle.law_search.specs.SwapLaws.{StandsUnderActive, IsOfActive, IsArgumentOfActive, IsGrounded, MayChangePlaces, IsLineAbout, StandApart, SwapsWell}
use Rattle.law_search.proofs.Renaming.{stands}
use Rattle.law_search.proofs.Having.{HaveSwapped, KeepsValues, moved, came, values_moved, values_kept, activated_moved, new_takes, new_merged}
use Rattle.law_search.proofs.Claims.{at_most_moved}
use Rattle.law_search.proofs.Declaring.{slot_moved}
use Rattle.law_search.proofs.Keeping.{globals_kept, roots_kept, tokens_kept, merges_kept, open_kept, asked_kept, items_kept, timelines_kept}
use Rattle.law_search.proofs.Ordering.{swap_there}
use Rattle.law_search.proofs.Counting.{reusables_kept, reservoirs_kept, count_kept}

-- ---- the new plan is one of the model, and valid

module _ (model : Model) (old new : Plan) (one other : TokenName) (has : HaveSwapped model old new one other) where
  local_of_moved : (name : VarName) (value : ℤ) → IsLocalValue model name value → IsLocalValue model (swapped_name one other name) value
  local_of_moved (names.Global number) value is = absurd is
  local_of_moved (names.Token token part) value is = absurd is
  local_of_moved (names.Local token rule number) value is =
      let later = slot_moved model old new one other has token is.0 is.1 in
      let own = is.2.1 in (
        later.0,
        later.1.0,
        (
          is.2.0,
          record { found = own.found; has_rule = subst (λ p. HasRule model p rule own.found) (sym later.1.1) own.has_rule; declared = own.declared },
          is.2.2,
        ),
      )

  line_of_moved : (line : the_line.Line) → IsLineOf model line → IsLineOf model (swapped_line one other line)
  line_of_moved (lines.Token token fact values) is =
      let later = slot_moved model old new one other has token is.0 is.1 in
      (later.0, later.1.0, (is.2.0, subst (λ p. slice_get model.preds p ≡ Some is.2.0) (sym later.1.1) is.2.1, is.2.2))
  line_of_moved (lines.Merged token target) is =
      let first = slot_moved model old new one other has token is.0.0 is.0.1 in
      let second = slot_moved model old new one other has target is.1.0 is.1.1 in
      ((first.0, first.1.0), (second.0, second.1.0))
  line_of_moved (lines.Rejected token) is =
      let later = slot_moved model old new one other has token is.0 is.1 in (later.0, later.1.0)
  line_of_moved (lines.Local name value) is = local_of_moved name value is

  pub is_plan_moved : IsPlanOf model old → IsPlanOf model new
  is_plan_moved is = record {
    few_globals = subst (λ (globals : List ℤ). length globals ≤ length model.problem.globals) (sym has.swap.globals) is.few_globals;
    globals = λ number value variable given declared.
        is.globals number value variable (subst (λ (globals : List ℤ). slice_get globals number ≡ Some value) has.swap.globals given) declared;
    few_lines =
        let long = length_permutation _ _ has.swap.lines in
        let mapped = length-map old.lines (swapped_line one other) in
        omega (arith, long, mapped, is.few_lines);
    lines = all_from_get (IsLineOf model) new.lines (λ number line there.
        let was = came model old new one other has line (contains_from_get new.lines number line there) in
        subst (IsLineOf model) was.1.1 (line_of_moved was.0 (All-contains (IsLineOf model) old.lines was.0 is.lines was.1.0)));
    order = has.swap.order;
  }

  pub valid_moved : IsValid model old → IsValid model new
  valid_moved valid V1 place = globals_kept model old new one other has valid place
  valid_moved valid V2 place = roots_kept model old new one other has valid place
  valid_moved valid V3 place = tokens_kept model old new one other has valid place
  valid_moved valid V4 place = merges_kept model old new one other has valid place
  valid_moved valid V5 place = open_kept model old new one other has valid place
  valid_moved valid V6 place = asked_kept model old new one other has valid place
  valid_moved valid V7 place = items_kept model old new one other has valid place
  valid_moved valid V8 place = timelines_kept model old new one other has valid place
  valid_moved valid V9 place = reusables_kept model old new one other has valid place
  valid_moved valid V10 place = reservoirs_kept model old new one other has valid place

-- ---- which tokens may change places

-- each token on the way to one that is asked for is activated
module _ (model : Model) (plan : Plan) (valid : IsValid model plan) where
  asked : (line : the_line.Line) → Contains plan.lines line → IsAsked model plan line
  asked line there = let at = get_from_contains plan.lines line there in valid V6 (places.Line at.0) line at.1

  above_asked : (count : ℕ) (token : TokenName) → IsAskedToken model plan token → (front : List Step) (step : Step) (back : List Step)
      → token.steps ≡ front ++ step ∷ back → length back ≤ count → IsActivatedIn plan (front_token token front)
  above_asked zero token is front step back are few = elim (last_step back) [
    | inl none ↦ (is front step (are ∙ ap (λ (more : List Step). front ++ step ∷ more) none)).is_open.activated
    | inr last ↦ let long = ap length last.are in absurd (omega (arith, few, long, length-append last.front (last.step ∷ [])))
  ]
  above_asked (suc count) token is front step back are few = elim (last_step back) [
    | inl none ↦ (is front step (are ∙ ap (λ (more : List Step). front ++ step ∷ more) none)).is_open.activated
    | inr last ↦
        let long = ap length last.are in
        let mid = front ++ step ∷ last.front in
        let activated : IsActivatedIn plan (front_token token mid) = (is mid last.step
        (are ∙ ap (λ (more : List Step). front ++ step ∷ more) last.are ∙ sym (append_assoc front (step ∷ last.front) (last.step ∷ [])))).is_open.activated in
        above_asked count (front_token token mid) (asked (lines.Token (front_token token mid) false activated.0) activated.1) front step last.front refl
        (omega (arith, few, long, length-append last.front (last.step ∷ [])))
  ]

  -- the token above one that is asked for is activated
  pub top_activated : (top : TokenName) (step : Step) (steps : List Step) → IsAskedToken model plan (token_under top (step ∷ steps)) → IsActivatedIn plan top
  top_activated top step steps is = above_asked (length steps) (token_under top (step ∷ steps)) is top.steps step steps refl (omega arith)

module _ (model : Model) (decisions : List Decision) (plan : Plan) (one other : TokenName) (may : MayChangePlaces model decisions plan one other) where
  ordered : AllPairs IsLineBefore plan.lines
  ordered = may.is_plan.order

  merge : SuitsMerge model plan one other
  merge =
      let line = lines.Merged one other in
      let at = get_from_contains plan.lines line may.merged in
      may.valid V4 (places.Line at.0) line at.1

  not_taken : (values : List ℤ) → Contains plan.lines (lines.Token other true values) → IsTakenIn plan other → ⊥
  not_taken values there (inl activated) = fact_or_not plan ordered other values activated.0 there activated.1
  not_taken values there (inr merged) = own_or_merged plan ordered other merged.0 values (true, there) merged.1

  by_kind : (values : List ℤ) → Contains plan.lines (lines.Token other true values) → other.steps ≡ [] → (root : Root) → IsRoot model other.root root
      → (kind : RootKind) → root.kind ≡ kind → Becomes plan kind other → ⊥
  by_kind values there none root is Fact same becomes = may.inactive (inl (none, (root, is, same)))
  by_kind values there none root is Goal same becomes = not_taken values there becomes
  by_kind values there none root is Rejectable same (inl taken) = not_taken values there taken
  by_kind values there none root is Rejectable same (inr rejected) = own_or_rejected plan ordered other values (true, there) rejected

  -- the other token takes place, and is no fact
  no_fact : (values : List ℤ) → Contains plan.lines (lines.Token other true values) → ⊥
  no_fact values there =
      let line = lines.Token other true values in
      let at = get_from_contains plan.lines line there in
      let none : other.steps ≡ [] = may.valid V2 (places.Line at.0) line at.1 in
      let of = (All-contains (IsLineOf model) plan.lines line may.is_plan.lines there).1 in
      let same : root_token other.root ≡ other = λ i. record { root = other.root; steps = sym none i } in
      by_kind values there none of.root of.is_root of.root.kind refl
      (subst (λ (t : TokenName). Becomes plan of.root.kind t) same (may.valid V2 (places.Root other.root) of.root of.is_root))

  takes : (values : List ℤ) × Contains plan.lines (lines.Token other false values)
  takes = by_fact merge.there.0 merge.there.1.0 merge.there.1.1
    where
      by_fact : (values : List ℤ) (fact : Bool) → Contains plan.lines (lines.Token other fact values) → (values : List ℤ) × Contains plan.lines (lines.Token other false values)
      by_fact values false there = (values, there)
      by_fact values true there = absurd (no_fact values there)

  not_one_active : IsActivatedIn plan one → ⊥
  not_one_active activated = own_or_merged plan ordered one other activated.0 (false, activated.1) may.merged

  one_is_other : one ≡ other → ⊥
  one_is_other same = merge.apart (sym same)

  not_above : (steps : List Step) → one ≡ token_under other steps → ⊥
  not_above [] is = one_is_other (is ∙ (λ i. record { root = other.root; steps = append-nil other.steps i }))
  not_above (step ∷ steps) is =
      let activated = may.under other.steps step steps (ap (λ (t : TokenName). t.steps) is) in
      let same : front_token one other.steps ≡ other = λ i. record { root = ap (λ (t : TokenName). t.root) is i; steps = other.steps } in
      may.inactive (inr (subst (IsActivated decisions) same activated))

  none_asked : (token : TokenName) (step : Step) (steps : List Step) → token_under one (step ∷ steps) ≡ token → IsAskedToken model plan token → ⊥
  none_asked token step steps is asks =
      not_one_active (top_activated model plan may.valid one step steps (subst (λ (t : TokenName). IsAskedToken model plan t) (sym is) asks))

  none_under : (line : the_line.Line) (step : Step) (steps : List Step) → Contains plan.lines line → IsLineAbout line (token_under one (step ∷ steps)) → ⊥
  none_under (lines.Token token fact values) step steps there about = none_asked token step steps about (asked model plan may.valid (lines.Token token fact values) there)
  none_under (lines.Merged token target) step steps there about = none_asked token step steps about (asked model plan may.valid (lines.Merged token target) there)
  none_under (lines.Rejected token) step steps there about = none_asked token step steps about (asked model plan may.valid (lines.Rejected token) there)
  none_under (lines.Local (names.Global number) value) step steps there about = absurd about
  none_under (lines.Local (names.Token token part) value) step steps there about =
      absurd (All-contains (IsLineOf model) plan.lines (lines.Local (names.Token token part) value) may.is_plan.lines there)
  none_under (lines.Local (names.Local token rule number) value) step steps there about =
      let asks = asked model plan may.valid (lines.Local (names.Local token rule number) value) there in
      let activated : IsActivatedIn plan token = asks.is_open.activated in
      none_asked token step steps (sym about) (asked model plan may.valid (lines.Token token false activated.0) activated.1)

  pub stand_apart : StandApart plan one other
  stand_apart = record { takes = takes; apart = not_above; none = none_under }

  not_below : (steps : List Step) → other ≡ token_under one steps → ⊥
  not_below [] is = one_is_other (sym (is ∙ (λ i. record { root = one.root; steps = append-nil one.steps i })))
  not_below (step ∷ steps) is = none_under (lines.Token other false takes.0) step steps takes.1 (sym is)

  pub have_swapped : (new : Plan) → IsSwap one other plan new → HaveSwapped model plan new one other
  have_swapped new swap = record {
    apart = record { below = not_below; above = not_above };
    swap = swap;
    order = ordered;
    merged = may.merged;
    values = takes.0;
    takes = takes.1;
    same = merge.same;
  }

  -- ---- the decisions

  module _ (new : Plan) (swap : IsSwap one other plan new) where
    has : HaveSwapped model plan new one other
    has = have_swapped new swap

    one_not_activated : IsActivated decisions one → ⊥
    one_not_activated activated = may.undecided (inr (inl (inl activated)))

    -- what stands under activated tokens keeps its name, or is one of the two
    keeps : (token : TokenName) → StandsUnderActive decisions token → KeepsValues one other token
    keeps token under = elim (stands one other has.apart token) [
      | inl found ↦ below_one found.0 found.1
      | inr (inl found) ↦ below_other found.0 found.1
      | inr (inr elsewhere) ↦ inl elsewhere.stays
    ]
      where
        below_one : (steps : List Step) → token ≡ token_under one steps → KeepsValues one other token
        below_one [] is = inr (inl (is ∙ (λ i. record { root = one.root; steps = append-nil one.steps i })))
        below_one (step ∷ steps) is =
            let same : front_token token one.steps ≡ one = λ i. record { root = ap (λ (t : TokenName). t.root) is i; steps = one.steps } in
            absurd (one_not_activated (subst (IsActivated decisions) same (under one.steps step steps (ap (λ (t : TokenName). t.steps) is))))

        below_other : (steps : List Step) → token ≡ token_under other steps → KeepsValues one other token
        below_other [] is = inr (inr (is ∙ (λ i. record { root = other.root; steps = append-nil other.steps i })))
        below_other (step ∷ steps) is =
            let same : front_token token other.steps ≡ other = λ i. record { root = ap (λ (t : TokenName). t.root) is i; steps = other.steps } in
            absurd (may.inactive (inr (subst (IsActivated decisions) same (under other.steps step steps (ap (λ (t : TokenName). t.steps) is)))))

    -- it keeps its name where it is neither
    keeps_name : (token : TokenName) → StandsUnderActive decisions token → (token ≡ one → ⊥) → (token ≡ other → ⊥) → swapped_token one other token ≡ token
    keeps_name token under not_one not_other = elim (keeps token under) [
      | inl stays ↦ stays
      | inr (inl is) ↦ absurd (not_one is)
      | inr (inr is) ↦ absurd (not_other is)
    ]

    active_keeps_name : (token : TokenName) → StandsUnderActive decisions token → IsActive model decisions token → swapped_token one other token ≡ token
    active_keeps_name token under active =
        keeps_name token under
        (λ is. not_active (subst (IsActive model decisions) is active))
        (λ is. may.inactive (subst (IsActive model decisions) is active))
      where
        not_active : IsActive model decisions one → ⊥
        not_active (inl fact) = may.undecided (inl fact)
        not_active (inr activated) = one_not_activated activated

    activated_keeps_name : (token : TokenName) → StandsUnderActive decisions token → IsActivated decisions token → swapped_token one other token ≡ token
    activated_keeps_name token under activated = active_keeps_name token under (inr activated)

    -- ---- values

    gives_still : (name : VarName) → IsOfActive decisions name → (value : ℤ) → GivesValue plan name value → GivesValue new name value
    gives_still (names.Global number) of value gives = values_moved model plan new one other has (names.Global number) value gives
    gives_still (names.Token token part) of value gives = values_kept model plan new one other has token (keeps token of) part value gives
    gives_still (names.Local token rule number) of value gives =
        subst (λ (t : TokenName). GivesValue new (names.Local t rule number) value) (activated_keeps_name token of.1 of.0)
        (values_moved model plan new one other has (names.Local token rule number) value gives)

    -- the argument still has in the new plan what it had
    abbrev HasStill : Argument → Type 0
    HasStill argument = (value : ℤ) → HasArgumentValue plan argument value → HasArgumentValue new argument value

    keeps_value : (argument : ConArg) → IsArgumentOfActive decisions argument → HasStill (argument_of argument)
    keeps_value (Var name) of = gives_still name of
    keeps_value (Value given) of = λ value is. is

    values_still : (arguments : List Argument) (values : List ℤ) → All HasStill arguments → AllZip (HasArgumentValue plan) arguments values
        → AllZip (HasArgumentValue new) arguments values
    values_still [] [] keep have = have
    values_still [] (value ∷ values) keep have = absurd have
    values_still (argument ∷ arguments) [] keep have = absurd have
    values_still (argument ∷ arguments) (value ∷ values) keep have =
        (All-head HasStill argument arguments keep value have.0, values_still arguments values (All-tail HasStill argument arguments keep) have.1)

    claim_still : (claim : Claim) → All HasStill claim.arguments → IsClaimTrue model plan claim → IsClaimTrue model new claim
    claim_still claim keep is = record { values = is.values; have = values_still claim.arguments is.values keep is.have; holds = is.holds }

    -- a token that has values has some in the new plan too
    has_values_still : (token : TokenName) → KeepsValues one other token → HasValues plan token → HasValues new token
    has_values_still token (inl stays) have = subst (λ (t : TokenName). HasValues new t) stays (has_values_moved have)
      where
        takes_moved : (t : TokenName) (values : List ℤ) → TakesPlaceWith plan t values → TakesPlaceWith new (swapped_token one other t) values
        takes_moved t values its = (its.0, moved model plan new one other has (lines.Token t its.0 values) its.1)

        has_values_moved : HasValues plan token → HasValues new (swapped_token one other token)
        has_values_moved (inl own) = inl (own.0, takes_moved token own.0 own.1)
        has_values_moved (inr its) =
            inr (swapped_token one other its.0, moved model plan new one other has (lines.Merged token its.0) its.1, (its.2.0, takes_moved its.0 its.2.0 its.2.1))
    has_values_still token (inr (inl is)) have =
        subst (λ (t : TokenName). HasValues new t) (sym is) (inl (has.values, (false, new_takes model plan new one other has)))
    has_values_still token (inr (inr is)) have =
        subst (λ (t : TokenName). HasValues new t) (sym is)
        (inr (one, new_merged model plan new one other has, (has.values, (false, new_takes model plan new one other has))))

    -- ---- decisions

    true_still : (decision : Decision) → Contains decisions decision → IsGrounded model decisions decision → IsTrueIn model plan decision → IsTrueIn model new decision
    true_still (Specify name value) there grounded is = gives_still name grounded value is
    true_still (Activate token) there grounded is =
        subst (λ (t : TokenName). IsActivatedIn new t) (activated_keeps_name token grounded there) (activated_moved model plan new one other has token is)
    true_still (Merge token target) there grounded is =
        let own = keeps_name token grounded.0
        (λ same. may.undecided (inr (inl (inr (target, subst (λ (t : TokenName). Contains decisions (Merge t target)) same there)))))
        (λ same. own_or_merged plan ordered other target takes.0 (false, takes.1) (subst (λ (t : TokenName). Contains plan.lines (lines.Merged t target)) same is)) in
        let its = active_keeps_name target grounded.1.0 grounded.1.1 in
        subst (λ (t : TokenName). Contains new.lines (lines.Merged t target)) own
        (subst (λ (t : TokenName). Contains new.lines (lines.Merged (swapped_token one other token) t)) its (moved model plan new one other has (lines.Merged token target) is))
    true_still (Reject token) there grounded is =
        let own = keeps_name token grounded
        (λ same. merged_or_rejected plan ordered one other may.merged (subst (λ (t : TokenName). Contains plan.lines (lines.Rejected t)) same is))
        (λ same. own_or_rejected plan ordered other takes.0 (false, takes.1) (subst (λ (t : TokenName). Contains plan.lines (lines.Rejected t)) same is)) in
        subst (λ (t : TokenName). Contains new.lines (lines.Rejected t)) own (moved model plan new one other has (lines.Rejected token) is)
    true_still (Order a b) there grounded is =
        subst (λ (t : TokenName). EndsBy model new t b) (active_keeps_name a grounded.0.0 grounded.0.1)
        (subst (λ (t : TokenName). EndsBy model new (swapped_token one other a) t) (active_keeps_name b grounded.1.0 grounded.1.1)
        (at_most_moved model plan new one other has a b End Start is))
    true_still (Constrain kind arguments) there grounded is =
        claim_still (posted_claim kind arguments)
        (All-map HasStill argument_of arguments (All-weaker (IsArgumentOfActive decisions) (λ argument. HasStill (argument_of argument)) keeps_value arguments grounded)) is
    true_still (Relate relation a b) there grounded is = record {
      one_has = has_values_still a (keeps a grounded.0) is.one_has;
      other_has = has_values_still b (keeps b grounded.1) is.other_has;
      holds = λ claim says. claim_still claim
          (relates_all HasStill a b (λ part. gives_still (names.Token a part) grounded.0) (λ part. gives_still (names.Token b part) grounded.1) relation claim says)
          (is.holds claim says);
    }

    pub agrees_still : AgreesWith model new (decisions ++ Activate one ∷ [])
    agrees_still decision there = elim (Contains-push_cases decisions (Activate one) decision there) [
      | inl before ↦ true_still decision before (may.grounded decision before) (may.agrees decision before)
      | inr same ↦ subst (IsTrueIn model new) same (has.values, new_takes model plan new one other has)
    ]

    pub swaps_well : SwapsWell model decisions plan new one other
    swaps_well = record {
      is_plan = is_plan_moved model plan new one other has may.is_plan;
      values = values_moved model plan new one other has;
      count = count_kept model plan new one other has;
      valid = valid_moved model plan new one other has may.valid;
      agrees = agrees_still;
    }

  pub swap_is_there : (new : Plan) × IsSwap one other plan new
  swap_is_there = swap_there one other (record { below = not_below; above = not_above }) plan ordered
