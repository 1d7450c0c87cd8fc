-- Each valid plan that agrees with a list agrees with one of the choices of its first flaw, or can be changed so that it does.
use Rattle.std.proofs.Common.{◌≡◌, ◌≢◌, ℕ, ◌≤◌, ◌⊎◌, inl, inr, ℤ, true, false, List, [], ◌∷◌, ◌++◌, length, refl, sym, ◌∙◌, subst, arith}
use Rattle.std.specs.Prelude.{AllPairs, Contains, map}
use Rattle.std.proofs.lemmas.Bool.{cases_lt, cases_eq}
use Rattle.std.proofs.lemmas.List.Elements.{All-contains, Contains-append_left, Contains-append_right, Contains-push, Contains-push_cases}
use Rattle.domain_core.specs.Domain.{Domain, Has}
use Rattle.eu_name.specs.declared.name.Part.TheVariants.{Object}
use Rattle.eu_name.specs.declared.name.Step.{Step}
use Rattle.eu_name.specs.declared.name.TokenName.{TokenName}
use Rattle.eu_name.specs.declared.name.VarName.{VarName}
use Rattle.eu_name.specs.declared.name.VarName.TheVariants as names
use Rattle.model_core.specs.declared.decision.Decision.{Decision}
use Rattle.model_core.specs.declared.decision.Decision.TheVariants.{Specify, Activate, Merge, Reject, Order}
use Rattle.model_core.specs.declared.model.Model.{Model}
use Rattle.model_core.specs.declared.model.Root.{Root}
use Rattle.model_core.specs.declared.model.RootKind.{RootKind}
use Rattle.model_core.specs.declared.model.RootKind.TheVariants.{Goal, Rejectable, Fact}
use Rattle.model_core.specs.Decided.{IsDecided, IsTaken, IsActive, IsRejected}
use Rattle.model_core.specs.State.{State, Gives, IsBelow}
use Rattle.model_core.specs.Tokens.{IsFact, IsRejectable, IsRoot, root_token}
use Rattle.plan_defs.specs.declared.plan.Clause.TheVariants.{V2, V4, V8}
use Rattle.plan_defs.specs.declared.plan.Line as the_line
use Rattle.plan_defs.specs.declared.plan.Line.TheVariants as lines
use Rattle.plan_defs.specs.declared.plan.Place.TheVariants as places
use Rattle.plan_defs.specs.declared.plan.Plan.{Plan}
use Rattle.plan_defs.specs.Broken.{IsTrueIn}
use Rattle.plan_defs.specs.PlanStates.{HasLine, IsPlanState}
use Rattle.plan_defs.specs.Plans.{IsLineBefore, IsLineOf, IsTakenIn, HasPartValue, GivesValue}
use Rattle.plan_defs.specs.Refusals.{AreActive}
use Rattle.plan_defs.specs.Terms.{BelongsTo, Counts}
use Rattle.plan_defs.specs.Timelines.{IsOn}
use Rattle.plan_defs.specs.Valid.{IsLineAt, Becomes, SuitsMerge, TakesPlaceAt, TakeTurns}
use Rattle.plan_defs.proofs.Closing.{valued}
use Rattle.plan_defs.proofs.Completing.{closed_state}
use Rattle.eu_name.proofs.Members.{get_from_contains, get_same}
use Rattle.eu_name.proofs.Ordered.{contains_head, contains_later, contains_cases, ordered_cons}
use Rattle.plan_defs.proofs.Saying.{own_or_merged, own_or_rejected, taken_or_rejected, fact_or_not}
use Rattle.plan_defs.specs.Unordered.{AreUnordered}
use Rattle.plan_defs.specs.Flaws.{Flaw, Undecided, Undetermined, Unordered, Untimed, IsUnbound}
use Rattle.law_search.specs.SwapLaws.{MayChangePlaces, count_of_tokens}
use Rattle.law_search.proofs.Agreeing.{swap_is_there, swaps_well}
use Rattle.law_search.proofs.Mapping.{contains_map}
use Rattle.law_search.proofs.Grounding as grounds
use Rattle.law_states.proofs.Owning.{plan_state}
use Rattle.law_states.proofs.Founding.{well_founded}
use Rattle.law_search.specs.Choices.{IsActivationLeft, IsRejectionLeft, AreTokenChoices, AreValueChoices, IsLeftOut}
use Rattle.law_search.specs.SearchLaws.{IsChoiceOf, IsPlanFor, AgreesWithSome, IsWithinBound}
use Rattle.law_search.proofs.CountingTokens.{TakesPlaceAmong, no_more_tokens}
use Rattle.law_search.proofs.Picking.{owner_there, none_undecided, rejectable_no_fact}

-- ---- what becomes of roots in a valid plan

module _ (model : Model) (decisions : List Decision) (plan : Plan) (fits : IsPlanFor model decisions plan) where
  order_of : AllPairs IsLineBefore plan.lines
  order_of = fits.is_plan.order

  line_at : (line : the_line.Line) → Contains plan.lines line → (number : ℕ) × IsLineAt plan number line
  line_at line there = get_from_contains plan.lines line there

  becomes_of : (token : TokenName) (root : Root) → token.steps ≡ [] → IsRoot model token.root root → Becomes plan root.kind token
  becomes_of token root none is =
      let same : root_token token.root ≡ token = λ i. record { root = token.root; steps = sym none i } in
      subst (λ (t : TokenName). Becomes plan root.kind t) same (fits.valid V2 (places.Root token.root) root is)

  -- what takes place as a fact is one
  pub fact_of : (token : TokenName) (values : List ℤ) → Contains plan.lines (lines.Token token true values) → IsFact model token
  fact_of token values there =
      let line = lines.Token token true values in
      let at = line_at line there in
      let none : token.steps ≡ [] = fits.valid V2 (places.Line at.0) line at.1 in
      let of = (All-contains (IsLineOf model) plan.lines line fits.is_plan.lines there).1 in
      by_kind none of.root of.is_root of.root.kind refl (becomes_of token of.root none of.is_root)
    where
      not_taken : IsTakenIn plan token → ⊥
      not_taken (inl activated) = fact_or_not plan order_of token values activated.0 there activated.1
      not_taken (inr merged) = own_or_merged plan order_of token merged.0 values (true, there) merged.1

      by_kind : token.steps ≡ [] → (root : Root) → IsRoot model token.root root → (kind : RootKind) → root.kind ≡ kind → Becomes plan kind token → IsFact model token
      by_kind none root is Fact same becomes = (none, (root, is, same))
      by_kind none root is Goal same becomes = absurd (not_taken becomes)
      by_kind none root is Rejectable same (inl taken) = absurd (not_taken taken)
      by_kind none root is Rejectable same (inr rejected) = absurd (own_or_rejected plan order_of token values (true, there) rejected)

  -- what is rejected may be
  pub rejectable_of : (token : TokenName) → Contains plan.lines (lines.Rejected token) → IsRejectable model token
  rejectable_of token there =
      let line = lines.Rejected token in
      let at = line_at line there in
      let none : token.steps ≡ [] = fits.valid V2 (places.Line at.0) line at.1 in
      let of = (All-contains (IsLineOf model) plan.lines line fits.is_plan.lines there).1 in
      by_kind none of.root of.is_root of.root.kind refl (becomes_of token of.root none of.is_root)
    where
      by_kind : token.steps ≡ [] → (root : Root) → IsRoot model token.root root → (kind : RootKind) → root.kind ≡ kind → Becomes plan kind token → IsRejectable model token
      by_kind none root is Rejectable same becomes = (none, (root, is, same))
      by_kind none root is Goal same becomes = absurd (taken_or_rejected plan order_of token becomes there)
      by_kind none root is Fact same becomes = absurd (own_or_rejected plan order_of token becomes.0 (true, becomes.1) there)

  -- what is active takes place
  pub active_takes : (token : TokenName) → IsActive model decisions token → TakesPlaceAmong plan.lines token
  active_takes token (inl fact) =
      let becomes = subst (λ (kind : RootKind). Becomes plan kind token) fact.1.2 (becomes_of token fact.1.0 fact.0 fact.1.1) in
      (true, (becomes.0, becomes.1))
  active_takes token (inr activated) = let own = fits.agrees (Activate token) activated in (false, (own.0, own.1))

  agrees_taken : (token : TokenName) → IsTaken decisions token → IsTakenIn plan token
  agrees_taken token (inl activated) = inl (fits.agrees (Activate token) activated)
  agrees_taken token (inr merged) = inr (merged.0, fits.agrees (Merge token merged.0) merged.1)

  -- with one decision more that is true in it
  pub fits_more : (choice : Decision) → IsTrueIn model plan choice → IsPlanFor model (decisions ++ choice ∷ []) plan
  fits_more choice true_there = record {
    is_plan = fits.is_plan;
    valid = fits.valid;
    agrees = λ decision there. elim (Contains-push_cases decisions choice decision there) [
      | inl before ↦ fits.agrees decision before
      | inr same ↦ subst (IsTrueIn model plan) same true_there
    ];
  }

module _ (model : Model) (decisions : List Decision) (state : State) (bound : ℕ) (flaw : Flaw) (choices : List Decision) (plan : Plan)
    (is : IsChoiceOf model decisions state bound flaw choices) (fits : IsPlanFor model decisions plan)
    (within : IsWithinBound model decisions state bound flaw plan) where
  abbrev own : State
  own = (plan_state model plan is.lawful fits.is_plan fits.valid).0

  is_own : IsPlanState model plan own
  is_own = (plan_state model plan is.lawful fits.is_plan fits.valid).1

  below : IsBelow state own
  below = is.least.below own (closed_state model decisions plan own is.lawful fits.is_plan fits.valid fits.agrees is_own).0

  this : (choice : Decision) → Contains choices choice → IsTrueIn model plan choice → AgreesWithSome model decisions choices plan
  this choice chosen true_there = record { choice = choice; chosen = chosen; changed = plan; fits = fits_more model decisions plan fits choice true_there; count = refl }

  -- ---- values

  -- the plan gives each variable that counts a value that it may have
  value_in : (name : VarName) (domain : Domain) → Gives state name domain → Counts model (IsTakenIn plan) name → (value : ℤ) × (GivesValue plan name value × Has domain value)
  value_in name domain gives counts =
      let lower = below.variables name domain gives in
      let found = valued model decisions plan own is.lawful fits.is_plan fits.valid fits.agrees is_own name lower.0 lower.1 counts in
      (found.0, (found.1, lower.2.values found.0 (is_own.values name found.0 lower.0 found.1 lower.1).has))

  counts_taken : (name : VarName) (domain : Domain) → Gives state name domain → ((token : TokenName) → BelongsTo name token → IsRejected decisions token → ⊥)
      → ((other : TokenName) → flaw ≡ Undecided other → ⊥) → Counts model (IsTakenIn plan) name
  counts_taken name domain gives kept apart token belongs rejectable =
      by_line ((is_own.tokens token).0 (below.tokens token (owner_there model decisions state bound flaw choices is name domain token gives belongs)))
    where
      by_line : HasLine plan token → IsTakenIn plan token
      by_line (inl (values, (false, there))) = inl (values, there)
      by_line (inl (values, (true, there))) = absurd (rejectable_no_fact model token rejectable (fact_of model decisions plan fits token values there))
      by_line (inr (inl merged)) = inr merged
      by_line (inr (inr rejected)) =
          absurd (none_undecided model decisions state bound flaw choices is apart token
          (owner_there model decisions state bound flaw choices is name domain token gives belongs) (not_decided rejected))
        where
          not_decided : Contains plan.lines (lines.Rejected token) → IsDecided model decisions token → ⊥
          not_decided rejected (inl fact) = rejectable_no_fact model token rejectable fact
          not_decided rejected (inr (inl taken)) = taken_or_rejected plan fits.is_plan.order token (agrees_taken model decisions plan fits token taken) rejected
          not_decided rejected (inr (inr kept_not)) = kept token belongs kept_not

  pub value_covered : (name : VarName) → ((other : TokenName) → flaw ≡ Undecided other → ⊥) → IsUnbound decisions state name → AreValueChoices state name choices
      → AgreesWithSome model decisions choices plan
  value_covered name apart left values =
      let found = value_in name values.domain values.gives
      (counts_taken name values.domain values.gives (λ token belongs rejected. left.kept (token, belongs, rejected)) apart) in
      this (Specify name found.0)
      (subst (λ (l : List Decision). Contains l (Specify name found.0)) (sym values.are)
      (contains_map (λ value. Specify name value) values.values found.0 ((values.all found.0).1 found.1.1)))
      found.1.0

  -- ---- orders

  active_counts : (token : TokenName) → IsActive model decisions token → Counts model (IsTakenIn plan) (names.Token token Object)
  active_counts token active owner belongs rejectable = subst (IsTakenIn plan) belongs (by_active active)
    where
      by_active : IsActive model decisions token → IsTakenIn plan token
      by_active (inl fact) = absurd (rejectable_no_fact model owner rejectable (subst (IsFact model) belongs fact))
      by_active (inr activated) = inl (fits.agrees (Activate token) activated)

  part_on : (token : TokenName) (timeline : ℤ) → IsActive model decisions token → IsOn state token timeline → HasPartValue plan token Object timeline
  part_on token timeline active on =
      let takes = active_takes model decisions plan fits token active in
      let found = value_in (names.Token token Object) on.0 on.1 (active_counts token active) in
      subst (λ (v : ℤ). HasPartValue plan token Object v) (on.2.only found.0 found.1.1) (by_giving takes found.0 found.1.0)
    where
      by_giving : TakesPlaceAmong plan.lines token → (value : ℤ) → GivesValue plan (names.Token token Object) value → HasPartValue plan token Object value
      by_giving takes value (inl its) = its
      by_giving takes value (inr other) = absurd (own_or_merged plan fits.is_plan.order token other.0 takes.1.0 (takes.0, takes.1.1) other.1)

  place_of : (token : TokenName) → TakesPlaceAmong plan.lines token → (number : ℕ) × TakesPlaceAt plan number token
  place_of token takes =
      let at = get_from_contains plan.lines (lines.Token token takes.0 takes.1.0) takes.1.1 in (at.0, (takes.0, (takes.1.0, at.1)))

  turn : (p q : ℕ) (a b : TokenName) → TakesPlaceAt plan p a → TakesPlaceAt plan q b → (a ≡ b → ⊥) → TakeTurns model plan a b
  turn p q a b first second apart = elim (cases_lt p q) [
    | inl less ↦ fits.valid V8 (places.Pair p q) less a b first second
    | inr not_less ↦ elim (cases_eq p q) [
      | inl same ↦ absurd (apart (one_token p first (subst (λ n. TakesPlaceAt plan n b) (sym same) second)))
      | inr differ ↦ λ on. other_way (fits.valid V8 (places.Pair q p) (omega (arith, not_less, differ)) b a second first
          (record { timeline = on.timeline; is_timeline = on.is_timeline; one_on = on.other_on; other_on = on.one_on }))
    ]
  ]
    where
      one_token : (p : ℕ) → TakesPlaceAt plan p a → TakesPlaceAt plan p b → a ≡ b
      one_token p first second =
          let same = get_same plan.lines p (lines.Token a first.0 first.1.0) (lines.Token b second.0 second.1.0) first.1.1 second.1.1 in
          cc

      other_way : {A B : Type 0} → A ⊎ B → B ⊎ A
      other_way (inl a) = inr a
      other_way (inr b) = inl b

  pub order_covered : (one other : TokenName) → AreUnordered model decisions state one other → choices ≡ Order one other ∷ Order other one ∷ []
      → AgreesWithSome model decisions choices plan
  order_covered one other unordered are =
      let share = unordered.share in
      let first = place_of one (active_takes model decisions plan fits one share.one_active) in
      let second = place_of other (active_takes model decisions plan fits other share.other_active) in
      let turns = turn first.0 second.0 one other first.1 second.1 share.apart
      (record {
        timeline = share.timeline;
        is_timeline = share.is_timeline;
        one_on = part_on one share.timeline share.one_active share.one_on;
        other_on = part_on other share.timeline share.other_active share.other_on;
      }) in
      elim turns [
        | inl before ↦ this (Order one other) (subst (λ (l : List Decision). Contains l (Order one other)) (sym are) (contains_head (Order one other) (Order other one ∷ []))) before
        | inr behind ↦ this (Order other one)
            (subst (λ (l : List Decision). Contains l (Order other one)) (sym are) (contains_later (Order one other) (Order other one) (Order other one ∷ []) (contains_head (Order other one) []))) behind
      ]

  -- ---- tokens

  module _ (token : TokenName) (is_flaw : flaw ≡ Undecided token) (there : Contains state.tokens token) (undecided : IsDecided model decisions token → ⊥)
      (tokens : AreTokenChoices model decisions state bound token choices) where
    among : (choice : Decision) → Contains (map (λ target. Merge token target) tokens.targets ++ (tokens.activation ++ tokens.rejection)) choice → Contains choices choice
    among choice at = subst (λ (l : List Decision). Contains l choice) (sym tokens.are) at

    -- where it takes place in a plan with as many tokens, it may be activated
    activation_there : (changed : Plan) → IsPlanFor model decisions changed → count_of_tokens changed ≡ count_of_tokens plan → TakesPlaceAmong changed.lines token → Contains choices (Activate token)
    activation_there changed fine count takes = by_activation tokens.activation refl tokens.activated
      where
        full_not : AreActive model decisions bound → ⊥
        full_not full = by_within within
          where
            listed : (active : TokenName) → Contains (token ∷ full.tokens) active → TakesPlaceAmong changed.lines active
            listed active at = elim (contains_cases token active full.tokens at) [
              | inl same ↦ subst (TakesPlaceAmong changed.lines) same takes
              | inr later ↦ active_takes model decisions changed fine active (All-contains (IsActive model decisions) full.tokens active full.active later)
            ]

            not_active : IsActive model decisions token → ⊥
            not_active (inl fact) = undecided (inl fact)
            not_active (inr activated) = undecided (inr (inl (inl activated)))

            more : length (token ∷ full.tokens) ≤ count_of_tokens changed
            more = no_more_tokens (token ∷ full.tokens) changed.lines
                (ordered_cons (λ one other. one ≢ other) token full.tokens
                (λ active at same. not_active (subst (IsActive model decisions) (sym same) (All-contains (IsActive model decisions) full.tokens active full.active at)))
                full.distinct)
                listed

            by_within : IsWithinBound model decisions state bound flaw plan → ⊥
            by_within (inl few) = let enough = full.enough in let much = more in omega (arith, few, enough, much, count)
            by_within (inr not) = not (subst (IsLeftOut model decisions state bound) (sym is_flaw) full)

        by_activation : (some : List Decision) → tokens.activation ≡ some → IsActivationLeft model decisions bound token some → Contains choices (Activate token)
        by_activation some same (inl (room, are)) =
            among (Activate token) (Contains-append_right (map (λ target. Merge token target) tokens.targets) (tokens.activation ++ tokens.rejection) (Activate token)
            (Contains-append_left tokens.activation tokens.rejection (Activate token)
            (subst (λ (l : List Decision). Contains l (Activate token)) (sym (same ∙ are)) (contains_head (Activate token) []))))
        by_activation some same (inr (full, are)) = absurd (full_not full)

    rejection_there : IsRejectable model token → Contains choices (Reject token)
    rejection_there rejectable = by_rejection tokens.rejection refl tokens.rejected
      where
        by_rejection : (some : List Decision) → tokens.rejection ≡ some → IsRejectionLeft model token some → Contains choices (Reject token)
        by_rejection some same (inl (may, are)) =
            among (Reject token) (Contains-append_right (map (λ target. Merge token target) tokens.targets) (tokens.activation ++ tokens.rejection) (Reject token)
            (Contains-append_right tokens.activation tokens.rejection (Reject token)
            (subst (λ (l : List Decision). Contains l (Reject token)) (sym (same ∙ are)) (contains_head (Reject token) []))))
        by_rejection some same (inr (not, are)) = absurd (not rejectable)

    -- what is active is there
    active_there : (target : TokenName) → IsActive model decisions target → Contains state.tokens target
    active_there target (inl fact) = is.least.closed.consistent.tokens target (record {
      root = fact.1.0;
      is_root = fact.1.1;
      asked = λ front step back are. absurd (no_step front step back (sym are ∙ fact.0));
    })
      where
        no_step : (front : List Step) (step : Step) (back : List Step) → front ++ step ∷ back ≡ [] → ⊥
        no_step [] step back same = cc
        no_step (first ∷ front) step back same = cc
    active_there target (inr activated) = (well_founded model decisions state is.lawful is.settled is.least).known (Activate target) activated

    merge_of : (target : TokenName) → Contains plan.lines (lines.Merged token target) → SuitsMerge model plan token target
    merge_of target merged = let at = get_from_contains plan.lines (lines.Merged token target) merged in fits.valid V4 (places.Line at.0) (lines.Merged token target) at.1

    changed_covers : (target : TokenName) → Contains plan.lines (lines.Merged token target) → (IsActive model decisions target → ⊥) → AgreesWithSome model decisions choices plan
    changed_covers target merged inactive =
        let may : MayChangePlaces model decisions plan token target = record {
          is_plan = fits.is_plan;
          valid = fits.valid;
          agrees = fits.agrees;
          grounded = grounds.settled_grounded model decisions is.settled;
          under = grounds.least_tokens_stand model decisions state token is.settled is.least there;
          undecided = undecided;
          inactive = inactive;
          merged = merged;
        } in
        let new = swap_is_there model decisions plan token target may in
        let well = swaps_well model decisions plan token target may new.0 new.1 in
        let own = well.agrees (Activate token) (Contains-push decisions (Activate token)) in
        record {
          choice = Activate token;
          chosen = activation_there new.0 (record { is_plan = well.is_plan; valid = well.valid; agrees = λ decision at. well.agrees decision (Contains-append_left decisions (Activate token ∷ []) decision at) })
              well.count (false, (own.0, own.1));
          changed = new.0;
          fits = record { is_plan = well.is_plan; valid = well.valid; agrees = well.agrees };
          count = well.count;
        }

    pub token_covered : AgreesWithSome model decisions choices plan
    token_covered = by_line ((is_own.tokens token).0 (below.tokens token there))
      where
        by_merge : (target : TokenName) → Contains plan.lines (lines.Merged token target) → IsActive model decisions target ⊎ (IsActive model decisions target → ⊥)
            → AgreesWithSome model decisions choices plan
        by_merge target merged (inl active) =
            this (Merge token target)
            (among (Merge token target) (Contains-append_left _ _ (Merge token target)
            (contains_map (λ (t : TokenName). Merge token t) tokens.targets target ((tokens.are_targets.are target).1 (active_there target active, (active, (merge_of target merged).same))))))
            merged
        by_merge target merged (inr inactive) = changed_covers target merged inactive

        by_line : HasLine plan token → AgreesWithSome model decisions choices plan
        by_line (inl (values, (false, at))) = this (Activate token) (activation_there plan fits refl (false, (values, at))) (values, at)
        by_line (inl (values, (true, at))) = absurd (undecided (inl (fact_of model decisions plan fits token values at)))
        by_line (inr (inl merged)) = by_merge merged.0 merged.1 (grounds.active_or_not model decisions merged.0)
        by_line (inr (inr rejected)) = this (Reject token) (rejection_there (rejectable_of model decisions plan fits token rejected)) rejected

pub choices_cover : (model : Model) (decisions : List Decision) (state : State) (bound : ℕ) (flaw : Flaw) (choices : List Decision) (plan : Plan)
    → IsChoiceOf model decisions state bound flaw choices → IsPlanFor model decisions plan
    → IsWithinBound model decisions state bound flaw plan → AgreesWithSome model decisions choices plan
choices_cover model decisions state bound (Undecided token) choices plan is fits within =
    token_covered model decisions state bound (Undecided token) choices plan is fits within token refl is.first.is.0 is.first.is.1 is.are
choices_cover model decisions state bound (Undetermined name) choices plan is fits within =
    value_covered model decisions state bound (Undetermined name) choices plan is fits within name (λ other same. cc) is.first.is.1 is.are
choices_cover model decisions state bound (Unordered one other) choices plan is fits within =
    order_covered model decisions state bound (Unordered one other) choices plan is fits within one other is.first.is.1 is.are
choices_cover model decisions state bound (Untimed name) choices plan is fits within =
    value_covered model decisions state bound (Untimed name) choices plan is fits within name (λ other same. cc) is.first.is.1 is.are
