-- Where no further token can come, all that takes place in a plan is active for the decisions, so levels fit too.
use Rattle.std.proofs.Common.{◌≡◌, ℕ, zero, suc, ◌+◌, ◌≤◌, ℤ, pos, ◌≤ℤ◌, Bool, true, false, List, [], ◌∷◌, ◌++◌, length, inl, inr, refl, sym, ap, ◌∙◌, subst, append_assoc, length-append, arith}
use Rattle.std.specs.Prelude.{Contains}
use Rattle.std.specs.List.{AllZip}
use Rattle.std.proofs.lemmas.Int.{ints}
use Rattle.domain_core.specs.Domain.{Domain, Has}
use Rattle.domain_core.proofs.Words.{single_least, single_greatest}
use Rattle.eu_name.specs.declared.name.Part.TheVariants.{Start, Object, Param}
use Rattle.eu_name.specs.declared.name.Step.{Step}
use Rattle.eu_name.specs.declared.name.TokenName.{TokenName}
use Rattle.eu_name.specs.declared.name.VarName.{VarName}
use Rattle.eu_name.specs.declared.name.VarName.TheVariants.{Token}
use Rattle.model_core.specs.declared.class.PredKind.{PredKind}
use Rattle.model_core.specs.declared.class.PredKind.TheVariants.{Plain, Produce, Consume}
use Rattle.model_core.specs.declared.decision.Decision.{Decision}
use Rattle.model_core.specs.declared.decision.Decision.TheVariants.{Merge, Reject}
use Rattle.model_core.specs.declared.item.Term.{Term}
use Rattle.model_core.specs.declared.model.Model.{Model}
use Rattle.model_core.specs.declared.model.Root.{Root}
use Rattle.model_core.specs.declared.model.RootKind.{RootKind}
use Rattle.model_core.specs.declared.model.RootKind.TheVariants.{Goal, Rejectable, Fact}
use Rattle.model_core.specs.declared.rule.Guard.{Guard}
use Rattle.model_core.specs.declared.rule.Side.{Side}
use Rattle.model_core.specs.Blocks.{TokenBlock}
use Rattle.model_core.specs.Decided.{IsActivated, IsTaken, IsActive}
use Rattle.model_core.specs.Lawful.{IsLawful, IsToken}
use Rattle.model_core.specs.State.{State, Gives}
use Rattle.model_core.specs.Tokens.{IsRoot, IsRejectable}
use Rattle.plan_defs.specs.declared.plan.Clause.TheVariants.{V10}
use Rattle.plan_defs.specs.declared.plan.Line as the_line
use Rattle.plan_defs.specs.declared.plan.Line.TheVariants as lines
use Rattle.plan_defs.specs.declared.plan.Place.TheVariants as places
use Rattle.plan_defs.specs.declared.plan.Plan.{Plan}
use Rattle.plan_defs.specs.Broken.{AgreesWith}
use Rattle.plan_defs.specs.Closure.{IsClosed}
use Rattle.plan_defs.specs.PlanStates.{HasLine, IsPlanState, HasPlanValues}
use Rattle.plan_defs.specs.Plans.{IsPlanOf, TakesPlaceWith, IsActivatedIn, IsTakenIn, plan_situation}
use Rattle.plan_defs.specs.Resources.{IsActor, SurelyChanges, MayChange, IsHighChange, IsLowChange, StaysWithin, IsTokenComplete}
use Rattle.plan_defs.specs.Situations.{situation_of}
use Rattle.plan_defs.specs.Support.{MayBe, Opens, AsksFor, IsSupportedToken, front_token, one_side, other_side}
use Rattle.plan_defs.specs.Terms.{Context, InRule, Argument, Value, Variable, HasDomain, ArgumentCounts}
use Rattle.plan_defs.specs.Valid.{IsValid, Becomes, IsAskedToken, HasActed, IsRise, IsLevelWithin}
use Rattle.plan_defs.proofs.Closing.{last_step, LastStep, given, asked, root_becomes, line_of, propagated_state}
use Rattle.plan_defs.proofs.Filling.{IsTokensLine, shared, tokens_same, quantity_from_zero, acted, merged_acts, rejected_acts, sort_of, one_sort, produce_consume, produce_plain, consume_plain, same_some, fit_reusables}
use Rattle.plan_defs.proofs.Lower.{HasBlock-map}
use Rattle.eu_name.proofs.Members.{get_same}
use Rattle.plan_defs.proofs.Saying.{own_or_merged, own_or_rejected, taken_or_rejected, fact_or_not}
use Rattle.plan_defs.proofs.States.{gives_domain}

-- ---- the last step of a list that is split elsewhere

not_none : (front : List Step) (step : Step) (back : List Step) → [] ≡ front ++ step ∷ back → ⊥
not_none [] step back e = absurd (cc)
not_none (first ∷ front) step back e = absurd (cc)

head_same : (x y : Step) (xs ys : List Step) → x ∷ xs ≡ y ∷ ys → x ≡ y
head_same x y xs ys e = cc

tail_same : (x y : Step) (xs ys : List Step) → x ∷ xs ≡ y ∷ ys → xs ≡ ys
tail_same x y xs ys e = cc

-- two ways to end a list by one step are one
fronts_same : (one other : List Step) (x y : Step) → one ++ x ∷ [] ≡ other ++ y ∷ [] → one ≡ other
fronts_same [] [] x y e = refl
fronts_same [] (b ∷ other) x y e = absurd (not_none other y [] (tail_same x b [] (other ++ y ∷ []) e))
fronts_same (a ∷ one) [] x y e = absurd (not_none one x [] (sym (tail_same a y (one ++ x ∷ []) [] e)))
fronts_same (a ∷ one) (b ∷ other) x y e =
    let first = head_same a b (one ++ x ∷ []) (other ++ y ∷ []) e in
    let rest = fronts_same one other x y (tail_same a b (one ++ x ∷ []) (other ++ y ∷ []) e) in
    (λ i. first i ∷ rest i)

lasts_same : (one other : List Step) (x y : Step) → one ++ x ∷ [] ≡ other ++ y ∷ [] → x ≡ y
lasts_same [] [] x y e = head_same x y [] [] e
lasts_same [] (b ∷ other) x y e = absurd (not_none other y [] (tail_same x b [] (other ++ y ∷ []) e))
lasts_same (a ∷ one) [] x y e = absurd (not_none one x [] (sym (tail_same a y (one ++ x ∷ []) [] e)))
lasts_same (a ∷ one) (b ∷ other) x y e = lasts_same one other x y (tail_same a b (one ++ x ∷ []) (other ++ y ∷ []) e)

fact_kind : (kind : RootKind) → kind ≡ Fact → kind ≡ Rejectable → ⊥
fact_kind kind p q = let e : Fact ≡ Rejectable = sym p ∙ q in absurd (cc)

module _ (model : Model) (decisions : List Decision) (plan : Plan) (state : State) (lawful : IsLawful model) (of_model : IsPlanOf model plan)
    (valid : IsValid model plan) (agrees : AgreesWith model plan decisions) (own : IsPlanState model plan state) (complete : IsTokenComplete model decisions state) where
  abbrev Supported : TokenName → Type 0
  Supported token = IsSupportedToken model (situation_of decisions state) token

  root_supported : (token : TokenName) (root : Root) → token.steps ≡ [] → IsRoot model token.root root → Supported token
  root_supported token root none is = record {
    root = root;
    is_root = is;
    asked = λ front step back e. absurd (not_none front step back (sym none ∙ e));
  }

  -- what is taken in the plan is taken by the decisions
  taken_by : (token : TokenName) → IsRejectable model token → IsTakenIn plan token → IsTaken decisions token
  taken_by token rejectable taken = elim (complete.tokens token (root_supported token rejectable.1.0 rejectable.0 rejectable.1.1)) [
    | inl fact ↦
        let same = get_same model.problem.roots token.root fact.1.0 rejectable.1.0 fact.1.1 rejectable.1.1 in
        absurd (fact_kind rejectable.1.0.kind (sym (ap (λ (r : Root). r.kind) same) ∙ fact.1.2) rejectable.1.2)
    | inr (inl by) ↦ by
    | inr (inr rejected) ↦ absurd (taken_or_rejected plan of_model.order token taken (agrees (Reject token) rejected))
  ]

  -- ---- what is open in the plan is open for the decisions

  argument_out : (argument : Argument) (domain : Domain) → HasDomain (plan_situation plan).gives argument domain
      → (wider : Domain) × (HasDomain (Gives state) argument wider × ((v : ℤ) → Has wider v → Has domain v))
  argument_out (Value value) domain is = (domain, (is, λ v has. has))
  argument_out (Variable name) domain is =
      let found = given model decisions plan state lawful of_model valid agrees own name is.0 is.1 in
      let alone = own.values name is.0 found.0 is.1 found.1 in (
        found.0,
        (
          found.1,
          λ v has.
              let same = alone.only v has in
              subst (λ (d : Domain). Has d v) (sym is.2) (omega (arith, ints, same), omega (arith, ints, same)),
        ),
      )

  counts_out : (argument : Argument) → ArgumentCounts model (IsTakenIn plan) argument → ArgumentCounts model (IsTaken decisions) argument
  counts_out (Value value) counts = tt
  counts_out (Variable name) counts = λ token belongs rejectable. taken_by token rejectable (counts token belongs rejectable)

  term_out : (context : Context) (term : Term) (domain : Domain) → MayBe model (plan_situation plan) context term domain
      → (wider : Domain) × (MayBe model (situation_of decisions state) context term wider × ((v : ℤ) → Has wider v → Has domain v))
  term_out context term domain is =
      let found = argument_out is.argument domain is.has in
      (found.0, (record { argument = is.argument; means = is.means; counts = counts_out is.argument is.counts; has = found.1.0 }, found.1.1))

  opens_out : (context : Context) (guard : Guard) (side : Side) → Opens model (plan_situation plan) context guard side → Opens model (situation_of decisions state) context guard side
  opens_out context guard side p =
      let one = term_out context (one_side guard) p.one p.is_one in
      let other = term_out context (other_side guard) p.other p.is_other in
      record {
        one = one.0;
        other = other.0;
        is_one = one.1.0;
        is_other = other.1.0;
        always = λ v w has_v has_w. p.always v w (one.1.1 v has_v) (other.1.1 w has_w);
      }

  fact_told : (token : TokenName) (kind : RootKind) → kind ≡ Fact → Becomes plan kind token → (values : List ℤ) × Contains plan.lines (lines.Token token true values)
  fact_told token Fact e is = is
  fact_told token Goal e is = absurd (cc)
  fact_told token Rejectable e is = absurd (cc)

  -- a token that takes place, and not as a fact, is activated where it is supported
  activated_by : (token : TokenName) → IsActivatedIn plan token → Supported token → IsActivated decisions token
  activated_by token takes supported = elim (complete.tokens token supported) [
    | inl fact ↦
        let told = fact_told token fact.1.0.kind fact.1.2 (root_becomes model decisions plan state lawful of_model valid agrees own token fact.1.0 fact.0 fact.1.1) in
        absurd (fact_or_not plan of_model.order token told.0 takes.0 told.1 takes.1)
    | inr (inl (inl by)) ↦ by
    | inr (inl (inr merged)) ↦ absurd (own_or_merged plan of_model.order token merged.0 takes.0 (false, takes.1) (agrees (Merge token merged.0) merged.1))
    | inr (inr rejected) ↦ absurd (own_or_rejected plan of_model.order token takes.0 (false, takes.1) (agrees (Reject token) rejected))
  ]

  asked_token : (token : TokenName) → HasLine plan token → IsAskedToken model plan token
  asked_token token (inl takes) = asked model decisions plan state lawful of_model valid agrees own (lines.Token token takes.1.0 takes.0) takes.1.1
  asked_token token (inr (inl merged)) = asked model decisions plan state lawful of_model valid agrees own (lines.Merged token merged.0) merged.1
  asked_token token (inr (inr rejected)) = asked model decisions plan state lawful of_model valid agrees own (lines.Rejected token) rejected

  is_token : (token : TokenName) → HasLine plan token → IsToken model token
  is_token token (inl takes) =
      let line = line_of model decisions plan state lawful of_model valid agrees own (lines.Token token takes.1.0 takes.0) takes.1.1 in
      (line.0, line.1)
  is_token token (inr (inl merged)) = (line_of model decisions plan state lawful of_model valid agrees own (lines.Merged token merged.0) merged.1).0
  is_token token (inr (inr rejected)) = line_of model decisions plan state lawful of_model valid agrees own (lines.Rejected token) rejected

  asks_out : (parent : TokenName) (step : Step) → AsksFor model (plan_situation plan) parent step → Supported parent → AsksFor model (situation_of decisions state) parent step
  asks_out parent step asks supported =
      let block : TokenBlock = record { token = parent; rule = step.rule; path = asks.path } in
      record {
        path = asks.path;
        entries = asks.entries;
        is_open = record {
          activated = activated_by parent asks.is_open.activated supported;
          has_block = HasBlock-map model _ _ (opens_out (InRule parent step.rule)) block asks.entries asks.is_open.has_block;
        };
        stands = asks.stands;
      }

  grown : (token : TokenName) (last : LastStep token.steps) → AsksFor model (situation_of decisions state) (front_token token last.front) last.step
      → Supported (front_token token last.front) → Supported token
  grown token last asks parent = record { root = parent.root; is_root = parent.is_root; asked = step_asked }
    where
      step_asked : (front : List Step) (step : Step) (back : List Step) → token.steps ≡ front ++ step ∷ back → AsksFor model (situation_of decisions state) (front_token token front) step
      step_asked front step back e = elim (last_step back) [
        | inl none ↦
            let ends : last.front ++ last.step ∷ [] ≡ front ++ step ∷ [] = sym last.are ∙ (e ∙ ap (λ (more : List Step). front ++ step ∷ more) none) in
            let fronts = fronts_same last.front front last.step step ends in
            let steps = lasts_same last.front front last.step step ends in
            subst (λ (f : List Step). AsksFor model (situation_of decisions state) (front_token token f) step) fronts
            (subst (λ (s : Step). AsksFor model (situation_of decisions state) (front_token token last.front) s) steps asks)
        | inr more ↦
            let ends : last.front ++ last.step ∷ [] ≡ (front ++ step ∷ more.front) ++ more.step ∷ [] =
            sym last.are ∙ (e ∙ (ap (λ (rest : List Step). front ++ step ∷ rest) more.are ∙ sym (append_assoc front (step ∷ more.front) (more.step ∷ [])))) in
            parent.asked front step more.front (fronts_same last.front (front ++ step ∷ more.front) last.step more.step ends)
      ]

  longer : (token : TokenName) (last : LastStep token.steps) → length token.steps ≡ length last.front + 1
  longer token last = ap length last.are ∙ length-append last.front (last.step ∷ [])

  rooted : (token : TokenName) → token.steps ≡ [] → HasLine plan token → Supported token
  rooted token none line = let has = (is_token token line).1 in root_supported token has.root none has.is_root

  -- each token of the plan is supported
  supported_up_to : (count : ℕ) (token : TokenName) → length token.steps ≤ count → HasLine plan token → Supported token
  supported_up_to zero token few line = elim (last_step token.steps) [
    | inl none ↦ rooted token none line
    | inr last ↦ let long = longer token last in absurd (omega (arith, few, long))
  ]
  supported_up_to (suc count) token few line = elim (last_step token.steps) [
    | inl none ↦ rooted token none line
    | inr last ↦
        let long = longer token last in
        let parent = front_token token last.front in
        let asks = asked_token token line last.front last.step last.are in
        let activated : IsActivatedIn plan (front_token token last.front) = asks.is_open.activated in
        let above = supported_up_to count (front_token token last.front) (omega (arith, few, long)) (inl (activated.0, (false, activated.1))) in
        grown token last (asks_out (front_token token last.front) last.step asks above) above
  ]

  -- what takes place in the plan is active for the decisions
  active_of : (token : TokenName) (values : List ℤ) → TakesPlaceWith plan token values → IsActive model decisions token
  active_of token values takes = elim (complete.tokens token (supported_up_to (length token.steps) token (omega arith) (inl (values, takes)))) [
    | inl fact ↦ inl fact
    | inr (inl (inl by)) ↦ inr by
    | inr (inl (inr merged)) ↦ absurd (own_or_merged plan of_model.order token merged.0 values takes (agrees (Merge token merged.0) merged.1))
    | inr (inr rejected) ↦ absurd (own_or_rejected plan of_model.order token values takes (agrees (Reject token) rejected))
  ]

  module _ (object instant : ℤ) where
    -- what acts in the plan may act in the state
    may_change : (kind : PredKind) (token : TokenName) (values : List ℤ) (quantity : ℤ) → TakesPlaceWith plan token values → HasActed model object instant kind token values quantity
        → MayChange model decisions state object instant kind token quantity
    may_change kind token values quantity takes p =
        let on_object = given model decisions plan state lawful of_model valid agrees own (Token token Object) object (inl (values, takes, p.on)) in
        let starts = given model decisions plan state lawful of_model valid agrees own (Token token Start) p.start (inl (values, takes, p.starts)) in
        let has_quantity = given model decisions plan state lawful of_model valid agrees own (Token token (Param 0)) quantity (inl (values, takes, p.has_quantity)) in
        let start_same = single_least starts.0 p.start (gives_domain model state own.is_state (Token token Start) starts.0 starts.1)
        (own.values (Token token Start) p.start starts.0 (inl (values, takes, p.starts)) starts.1) in
        let quantity_same = single_greatest has_quantity.0 quantity (gives_domain model state own.is_state (Token token (Param 0)) has_quantity.0 has_quantity.1)
        (own.values (Token token (Param 0)) quantity has_quantity.0 (inl (values, takes, p.has_quantity)) has_quantity.1) in
        let started = p.started in
        record {
          actor = record {
            active = active_of token values takes;
            slot = p.sort.slot;
            has_token = p.sort.has_token;
            predicate = p.sort.predicate;
            is_predicate = p.sort.is_predicate;
            is_kind = p.sort.is_kind;
          };
          on = (on_object.0, on_object.1, (own.values (Token token Object) object on_object.0 (inl (values, takes, p.on)) on_object.1).has);
          started = (starts.0, starts.1, omega (arith, ints, start_same, started));
          greatest = (has_quantity.0, has_quantity.1, sym quantity_same);
        }

    -- what surely changes the level changes it in the plan
    changed : (kind : PredKind) (token : TokenName) (values : List ℤ) (quantity : ℤ) → (kind ≡ Plain → ⊥) → TakesPlaceWith plan token values
        → SurelyChanges model decisions state object instant kind token quantity → HasActed model object instant kind token values quantity
    changed kind token values quantity not_plain takes p =
        acted model decisions plan state lawful of_model valid agrees own object instant kind token values quantity not_plain takes p.actor p.on p.started p.least

    not_both : (token : TokenName) (values : List ℤ) (quantity other : ℤ) → HasActed model object instant Produce token values quantity
        → SurelyChanges model decisions state object instant Consume token other → ⊥
    not_both token values quantity other p q =
        produce_consume (one_sort model token Produce Consume p.sort (sort_of model decisions plan state lawful of_model valid agrees own Consume token q.actor))

    not_both_ways : (token : TokenName) (values : List ℤ) (quantity other : ℤ) → HasActed model object instant Consume token values quantity
        → SurelyChanges model decisions state object instant Produce token other → ⊥
    not_both_ways token values quantity other p q =
        produce_consume (one_sort model token Produce Consume (sort_of model decisions plan state lawful of_model valid agrees own Produce token q.actor) p.sort)

    not_negative : (kind : PredKind) (token : TokenName) (values : List ℤ) (quantity : ℤ) → (kind ≡ Plain → ⊥) → TakesPlaceWith plan token values
        → HasActed model object instant kind token values quantity → pos 0 ≤ℤ quantity
    not_negative kind token values quantity not_plain takes p =
        quantity_from_zero model decisions plan state lawful of_model valid agrees own kind token values quantity not_plain p.sort takes p.has_quantity

    -- ---- a rise is neither too high nor too low

    record Fits (token : TokenName) (rise : ℤ) : Type 0 where
      high : IsHighChange model decisions state object instant token rise
      low : IsLowChange model decisions state object instant token rise

    token_fits : (token : TokenName) (fact : Bool) (values : List ℤ) (rise : ℤ) → Contains plan.lines (lines.Token token fact values)
        → IsRise model object instant (lines.Token token fact values) rise → Fits token rise
    token_fits token fact values rise there (inl added) =
        let takes : TakesPlaceWith plan token values = (fact, there) in
        let some = not_negative Produce token values rise produce_plain takes added in
        record {
          high = record {
            adds = inr (rise, may_change Produce token values rise takes added, omega (arith, ints));
            takes = λ quantity surely. absurd (not_both token values rise quantity added surely);
          };
          low = record {
            takes = inl some;
            adds = λ quantity surely.
                let same = same_some quantity rise (sym (changed Produce token values quantity produce_plain takes surely).has_quantity ∙ added.has_quantity) in
                omega (arith, ints, same);
          };
        }
    token_fits token fact values rise there (inr (inl took)) =
        let takes : TakesPlaceWith plan token values = (fact, there) in
        let some = not_negative Consume token values took.0 consume_plain takes took.1 in
        let sum = took.2 in
        record {
          high = record {
            adds = inl (omega (arith, ints, some, sum));
            takes = λ quantity surely.
                let same = same_some quantity took.0 (sym (changed Consume token values quantity consume_plain takes surely).has_quantity ∙ took.1.has_quantity) in
                omega (arith, ints, same, sum);
          };
          low = record {
            takes = inr (took.0, may_change Consume token values took.0 takes took.1, omega (arith, ints, sum));
            adds = λ quantity surely. absurd (not_both_ways token values took.0 quantity took.1 surely);
          };
        }
    token_fits token fact values rise there (inr (inr leaves)) =
        let takes : TakesPlaceWith plan token values = (fact, there) in
        let none = leaves.1 in
        record {
          high = record {
            adds = inl (omega (arith, ints, none));
            takes = λ quantity surely. absurd (leaves.0.takes_none quantity (changed Consume token values quantity consume_plain takes surely));
          };
          low = record {
            takes = inl (omega (arith, ints, none));
            adds = λ quantity surely. absurd (leaves.0.adds_none quantity (changed Produce token values quantity produce_plain takes surely));
          };
        }

    -- what doesn't take place changes nothing
    still : (token : TokenName) (rise : ℤ) → ((kind : PredKind) → IsActor model decisions kind token → ⊥) → rise ≡ pos 0 → Fits token rise
    still token rise no_actor none = record {
      high = record { adds = inl (omega (arith, ints, none)); takes = λ quantity surely. absurd (no_actor Consume surely.actor) };
      low = record { takes = inl (omega (arith, ints, none)); adds = λ quantity surely. absurd (no_actor Produce surely.actor) };
    }

    fits : (line : the_line.Line) (token : TokenName) (rise : ℤ) → Contains plan.lines line → IsTokensLine line token → IsRise model object instant line rise → Fits token rise
    fits (lines.Token name fact values) token rise there e is = subst (λ (t : TokenName). Fits t rise) e (token_fits name fact values rise there is)
    fits (lines.Merged name target) token rise there e (inl added) = absurd added
    fits (lines.Merged name target) token rise there e (inr (inl took)) = absurd took.1
    fits (lines.Merged name target) token rise there e (inr (inr leaves)) =
        subst (λ (t : TokenName). Fits t rise) e
        (still name rise (λ kind actor. merged_acts model decisions plan state lawful of_model valid agrees own object instant kind name target there actor) leaves.1)
    fits (lines.Rejected name) token rise there e (inl added) = absurd added
    fits (lines.Rejected name) token rise there e (inr (inl took)) = absurd took.1
    fits (lines.Rejected name) token rise there e (inr (inr leaves)) =
        subst (λ (t : TokenName). Fits t rise) e
        (still name rise (λ kind actor. rejected_acts model decisions plan state lawful of_model valid agrees own object instant kind name there actor) leaves.1)
    fits (lines.Local name value) token rise there e is = absurd e

    local_still : (name : VarName) (value rise : ℤ) → IsRise model object instant (lines.Local name value) rise → rise ≡ pos 0
    local_still name value rise (inl added) = absurd added
    local_still name value rise (inr (inl took)) = absurd took.1
    local_still name value rise (inr (inr leaves)) = leaves.1

    levels_kept : (initial low high : ℤ) → IsLevelWithin model object instant plan initial low high → StaysWithin model decisions state object instant initial low high
    levels_kept initial low high kept =
        let highs = shared (IsRise model object instant) (IsHighChange model decisions state object instant) plan.lines kept.rises kept.are_rises
        (λ line token rise there e is. (fits line token rise there e is).high) local_still in
        let lows = shared (IsRise model object instant) (IsLowChange model decisions state object instant) plan.lines kept.rises kept.are_rises
        (λ line token rise there e is. (fits line token rise there e is).low) local_still in
        let high_sum = highs.same in
        let low_sum = lows.same in
        let above = kept.high_enough in
        let below = kept.low_enough in
        let same = tokens_same model decisions plan state lawful of_model valid agrees own in
        record {
          rises = highs.shares;
          are_rises = subst (λ (ts : List TokenName). AllZip (IsHighChange model decisions state object instant) ts highs.shares) (sym same) highs.are;
          high_enough = omega (arith, ints, high_sum, above);
          falls = lows.shares;
          are_falls = subst (λ (ts : List TokenName). AllZip (IsLowChange model decisions state object instant) ts lows.shares) (sym same) lows.are;
          low_enough = omega (arith, ints, low_sum, below);
        }

-- the own state of a valid plan is closed for what the plan agrees with
pub closed_state : (model : Model) (decisions : List Decision) (plan : Plan) (state : State) → IsLawful model → IsPlanOf model plan → IsValid model plan
    → AgreesWith model plan decisions → IsPlanState model plan state → IsClosed model decisions state × HasPlanValues plan state
closed_state model decisions plan state lawful of_model valid agrees own =
    let found = propagated_state model decisions plan state lawful of_model valid agrees own in (
      record {
        consistent = found.0;
        reusables = fit_reusables model decisions plan state lawful of_model valid agrees own;
        reservoirs = λ complete value object initial low high instant is kind within.
            subst (λ v. StaysWithin model decisions state v instant initial low high) (sym is.1)
            (levels_kept model decisions plan state lawful of_model valid agrees own complete (pos is.0) instant initial low high
            (valid V10 (places.Instant is.0 instant) object initial low high is.2 kind within));
      },
      found.1,
    )
