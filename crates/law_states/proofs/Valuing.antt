-- A domain for each variable that the own state of a valid plan is about.
use Rattle.std.proofs.Common.{◌≡◌, ℕ, inl, inr, ℤ, pos, ◌+ℤ◌, ◌-ℤ◌, ◌≤ℤ◌, ◌<ℤ◌, List, [], ◌∷◌, ◌++◌, Some, refl, sym, ap, subst, arith}
use Rattle.std.specs.Prelude.{Contains, slice_get, ⊤}
use Rattle.std.proofs.lemmas.Int.{ints}
use Rattle.std.proofs.lemmas.List.Elements.{All-nil, All-cons}
use Rattle.domain_core.specs.Domain.{Domain, Range, Set, Has, IsDomain, IsValue, IsSingle, IsWithin, IsTested}
use Rattle.domain_core.proofs.Words.{has_value, IsWithin-refl}
use Rattle.eu_name.specs.declared.name.Part.{Part}
use Rattle.eu_name.specs.declared.name.Part.TheVariants.{Start, End, Duration, Object, Param}
use Rattle.eu_name.specs.declared.name.TokenName.{TokenName}
use Rattle.eu_name.specs.declared.name.VarName.{VarName}
use Rattle.eu_name.specs.declared.name.VarName.TheVariants.{Token, Local, Global}
use Rattle.eu_name.proofs.Members.{get_from_contains, get_all, get_same}
use Rattle.domain_core.specs.declared.kind.Kind.TheVariants.{AddEq}
use Rattle.model_core.specs.declared.model.Model.{Model}
use Rattle.model_core.specs.declared.rule.Slot.{Slot}
use Rattle.model_core.specs.declared.variable.Base.{Base}
use Rattle.model_core.specs.declared.variable.Base.TheVariants.{Given}
use Rattle.model_core.specs.declared.variable.VarDecl.{VarDecl}
use Rattle.model_core.specs.Blocks.{TokenBlock, OfLocal, direct}
use Rattle.domain_core.specs.Consistency.{Ends, IsSupported}
use Rattle.domain_core.specs.Constraints.{Holds, AgreeOn}
use Rattle.model_core.specs.Entries.{Entries}
use Rattle.model_core.specs.Lawful.{IsLawful, IsLawfulRoot}
use Rattle.model_core.specs.State.{State, StandsOpen, IsAbout}
use Rattle.model_core.specs.Tokens.{HasToken, Reaches, slot_of}
use Rattle.model_core.specs.Variables.{HasBase, IsGiven, IsInBase}
use Rattle.plan_defs.specs.declared.plan.Clause.TheVariants.{V1, V2, V3, V4, V5}
use Rattle.plan_defs.specs.declared.plan.Line as the_line
use Rattle.plan_defs.specs.declared.plan.Line.TheVariants as lines
use Rattle.plan_defs.specs.declared.plan.Place.TheVariants as places
use Rattle.plan_defs.specs.declared.plan.Plan.{Plan}
use Rattle.plan_defs.specs.Claims.{HasPart}
use Rattle.plan_defs.specs.PlanStates.{HasLine, IsOpenBlock}
use Rattle.plan_defs.specs.Plans.{IsPlanOf, IsActivatedIn, GivesValue, plan_situation}
use Rattle.plan_defs.specs.Support.{IsOpen}
use Rattle.plan_defs.specs.Valid.{IsValid, HasDeclaredValue, AsksForLocal, SuitsToken, SuitsMerge}
use Rattle.eu_name.proofs.Ordered.{contains_head, contains_cases, contains_none, ordered_one}
use Rattle.plan_defs.proofs.Saying.{own_or_rejected, merged_or_rejected}
use Rattle.model_core.proofs.Blocks.{block_once}
use Rattle.model_core.proofs.Lawful.{base_lawful}
use Rattle.law_states.proofs.Telling.{value_once}

-- ---- a value by itself

-- a domain in another one that has this value alone
record Single (base : Domain) (value : ℤ) : Type 0 where
  domain : Domain
  ok : IsDomain domain
  within : IsWithin domain base
  single : IsSingle domain value

single_in : (base : Domain) (value : ℤ) → IsDomain base → Has base value → Single base value
single_in (Range lo hi) value ok has =
    let is_value = has_value (Range lo hi) value ok has in
    record {
      domain = Range value value;
      ok = (is_value, is_value, omega (arith, ints));
      within = record { kind = tt; values = λ other between. (omega (arith, ints, between.0, has.0), omega (arith, ints, between.1, has.1)) };
      single = record { has = (omega (arith, ints), omega (arith, ints)); only = λ other between. omega (arith, ints, between.0, between.1) };
    }
single_in (Set members) value ok has = record {
  domain = Set (value ∷ []);
  ok = record {
    ascending = ordered_one (λ (one later : ℤ). one <ℤ later) value;
    values = All-cons IsValue value [] (has_value (Set members) value ok has) (All-nil IsValue);
    some = omega arith;
    few = omega arith;
  };
  within = record { kind = tt; values = λ other there. subst (Contains members) (is_only other there) has };
  single = record { has = contains_head value []; only = λ other there. sym (is_only other there) };
}
  where
    is_only : (other : ℤ) → Contains (value ∷ []) other → value ≡ other
    is_only other there = elim (contains_cases value other [] there) [ inl same ↦ same | inr later ↦ absurd (contains_none other later) ]

-- ---- what a rejected token may be

module _ (model : Model) where
  -- the parts of a rejected token that its lasting takes values from
  abbrev pub starts : Domain
  starts = Range model.problem.start (model.problem.end -ℤ pos 1)

  abbrev pub ends : Domain
  ends = Range (model.problem.start +ℤ pos 1) model.problem.end

  abbrev pub durations : Domain
  durations = Range (pos 1) (model.problem.end -ℤ model.problem.start)

  module _ (lawful : IsLawful model) where
    starts_ok : IsDomain starts × IsWithin starts (Range model.problem.start model.problem.end)
    starts_ok =
        let from = lawful.horizon.start in
        let order = lawful.horizon.order in
        let to = lawful.horizon.end.1 in (
          ((omega (arith, ints, from), omega (arith, ints, from, order, to)), (omega (arith, ints, from, order), omega (arith, ints, from, order, to)), omega (arith, ints, order)),
          record { kind = tt; values = λ value has. (has.0, omega (arith, ints, has.1)) },
        )

    ends_ok : IsDomain ends × IsWithin ends (Range model.problem.start model.problem.end)
    ends_ok =
        let from = lawful.horizon.start in
        let order = lawful.horizon.order in
        let to = lawful.horizon.end.1 in (
          ((omega (arith, ints, from), omega (arith, ints, from, order, to)), lawful.horizon.end, omega (arith, ints, order)),
          record { kind = tt; values = λ value has. (omega (arith, ints, has.0), has.1) },
        )

    durations_ok : IsDomain durations
    durations_ok =
        let from = lawful.horizon.start in
        let order = lawful.horizon.order in
        let to = lawful.horizon.end.1 in
        ((omega (arith, ints), omega (arith, ints)), (omega (arith, ints, from, order, to), omega (arith, ints, from, order, to)), omega (arith, ints, order))

    -- each start, each duration and each end is one of a token that lasts
    pub lasting : (fields : ℕ → ℤ → ℤ → Type 0) → AgreeOn fields AddEq (starts ∷ durations ∷ ends ∷ [])
    lasting fields before domain after value are tested = at before domain after are value tested
      where
        Tells : List Domain → Domain → List Domain → Type 0
        Tells before domain after = (value : ℤ) → IsTested domain value → IsSupported Ends (Holds fields AddEq) before value after

        first_same : (x y : Domain) (xs ys : List Domain) → x ∷ xs ≡ y ∷ ys → x ≡ y
        first_same x y xs ys same = cc

        rest_same : (x y : Domain) (xs ys : List Domain) → x ∷ xs ≡ y ∷ ys → xs ≡ ys
        rest_same x y xs ys same = cc

        never : (x : Domain) (xs ys : List Domain) → [] ≡ xs ++ x ∷ ys → ⊥
        never x [] ys same = cc
        never x (y ∷ xs) ys same = cc

        a : (value : ℤ) → IsTested starts value → IsSupported Ends (Holds fields AddEq) [] value (durations ∷ ends ∷ [])
        a value tested =
            let order = lawful.horizon.order in
            let between = start_between value tested in (
              [],
              pos 1 ∷ (value +ℤ pos 1) ∷ [],
              tt,
              ((omega (arith, ints), omega (arith, ints, order)), ((omega (arith, ints, between.0), omega (arith, ints, between.1)), tt)),
              refl,
            )
          where
            start_between : (value : ℤ) → IsTested starts value → (model.problem.start ≤ℤ value) × (value ≤ℤ (model.problem.end -ℤ pos 1))
            start_between value (inl same) = let order = lawful.horizon.order in (omega (arith, ints, same), omega (arith, ints, same, order))
            start_between value (inr same) = let order = lawful.horizon.order in (omega (arith, ints, same, order), omega (arith, ints, same))

        b : (value : ℤ) → IsTested durations value → IsSupported Ends (Holds fields AddEq) (starts ∷ []) value (ends ∷ [])
        b value tested =
            let order = lawful.horizon.order in
            let between = duration_between value tested in (
              model.problem.start ∷ [],
              (model.problem.start +ℤ value) ∷ [],
              ((omega (arith, ints), omega (arith, ints, order)), tt),
              ((omega (arith, ints, between.0), omega (arith, ints, between.1)), tt),
              refl,
            )
          where
            duration_between : (value : ℤ) → IsTested durations value → (pos 1 ≤ℤ value) × (value ≤ℤ (model.problem.end -ℤ model.problem.start))
            duration_between value (inl same) = let order = lawful.horizon.order in (omega (arith, ints, same), omega (arith, ints, same, order))
            duration_between value (inr same) = let order = lawful.horizon.order in (omega (arith, ints, same, order), omega (arith, ints, same))

        c : (value : ℤ) → IsTested ends value → IsSupported Ends (Holds fields AddEq) (starts ∷ durations ∷ []) value []
        c value tested =
            let order = lawful.horizon.order in
            let between = end_between value tested in (
              (value -ℤ pos 1) ∷ pos 1 ∷ [],
              [],
              ((omega (arith, ints, between.0), omega (arith, ints, between.1)), ((omega (arith, ints), omega (arith, ints, order)), tt)),
              tt,
              omega (arith, ints),
            )
          where
            end_between : (value : ℤ) → IsTested ends value → ((model.problem.start +ℤ pos 1) ≤ℤ value) × (value ≤ℤ model.problem.end)
            end_between value (inl same) = let order = lawful.horizon.order in (omega (arith, ints, same), omega (arith, ints, same, order))
            end_between value (inr same) = let order = lawful.horizon.order in (omega (arith, ints, same, order), omega (arith, ints, same))

        at : (before : List Domain) (domain : Domain) (after : List Domain) → starts ∷ durations ∷ ends ∷ [] ≡ before ++ domain ∷ after
            → (value : ℤ) → IsTested domain value → IsSupported Ends (Holds fields AddEq) before value after
        at [] domain after same =
            subst (λ (d : Domain). (value : ℤ) → IsTested d value → IsSupported Ends (Holds fields AddEq) [] value after) (first_same _ _ _ _ same)
            (subst (λ (l : List Domain). (value : ℤ) → IsTested starts value → IsSupported Ends (Holds fields AddEq) [] value l) (rest_same _ _ _ _ same) a)
        at (x ∷ []) domain after same =
            let one = first_same _ _ _ _ same in
            let rest = rest_same _ _ _ _ same in
            subst (λ (d : Domain). (value : ℤ) → IsTested d value → IsSupported Ends (Holds fields AddEq) (x ∷ []) value after) (first_same _ _ _ _ rest)
            (subst (λ (l : List Domain). (value : ℤ) → IsTested durations value → IsSupported Ends (Holds fields AddEq) (x ∷ []) value l) (rest_same _ _ _ _ rest)
            (subst (λ (y : Domain). (value : ℤ) → IsTested durations value → IsSupported Ends (Holds fields AddEq) (y ∷ []) value (ends ∷ [])) one b))
        at (x ∷ y ∷ []) domain after same =
            let one = first_same _ _ _ _ same in
            let more = rest_same _ _ _ _ same in
            let two = first_same _ _ _ _ more in
            let rest = rest_same _ _ _ _ more in
            subst (λ (d : Domain). (value : ℤ) → IsTested d value → IsSupported Ends (Holds fields AddEq) (x ∷ y ∷ []) value after) (first_same _ _ _ _ rest)
            (subst (λ (l : List Domain). (value : ℤ) → IsTested ends value → IsSupported Ends (Holds fields AddEq) (x ∷ y ∷ []) value l) (rest_same _ _ _ _ rest)
            (subst (λ (z : Domain). (value : ℤ) → IsTested ends value → IsSupported Ends (Holds fields AddEq) (x ∷ z ∷ []) value []) two
            (subst (λ (z : Domain). (value : ℤ) → IsTested ends value → IsSupported Ends (Holds fields AddEq) (z ∷ durations ∷ []) value []) one c)))
        at (x ∷ y ∷ z ∷ before) domain after same =
            absurd (never domain before after (rest_same _ _ _ _ (rest_same _ _ _ _ (rest_same _ _ _ _ same))))

-- ---- the domain of a variable

-- of a rejected token, what leaves it time to last
abbrev pub LeavesTime : Model → Plan → VarName → Domain → Type 0
LeavesTime model plan (Token token Start) domain = Contains plan.lines (lines.Rejected token) → domain ≡ starts model
LeavesTime model plan (Token token End) domain = Contains plan.lines (lines.Rejected token) → domain ≡ ends model
LeavesTime model plan (Token token Duration) domain = Contains plan.lines (lines.Rejected token) → domain ≡ durations model
LeavesTime model plan name domain = ⊤

-- what the own state of the plan gives the variable
pub record IsOwnDomain (model : Model) (plan : Plan) (name : VarName) (domain : Domain) : Type 0 where
  pub ok : IsDomain domain
  pub in_base : (base : Base) × HasBase model name base × IsInBase domain base
  pub value : (value : ℤ) → GivesValue plan name value → IsSingle domain value
  pub time : LeavesTime model plan name domain

-- there is one
abbrev pub HasOwnDomain : Model → Plan → VarName → Type 0
HasOwnDomain model plan name = (domain : Domain) × IsOwnDomain model plan name domain

module _ (model : Model) (plan : Plan) (lawful : IsLawful model) (of_model : IsPlanOf model plan) (valid : IsValid model plan) where
  place : (line : the_line.Line) → Contains plan.lines line → (number : ℕ) × (slice_get plan.lines number ≡ Some line)
  place line there = get_from_contains plan.lines line there

  not_given : (token : TokenName) (part : Part) (value : ℤ) → GivesValue plan (Token token part) value → Contains plan.lines (lines.Rejected token) → ⊥
  not_given token part value (inl (values, takes, at)) rejected = own_or_rejected plan of_model.order token values takes rejected
  not_given token part value (inr (target, merged, has)) rejected = merged_or_rejected plan of_model.order token target merged rejected

  time_if_given : (name : VarName) (domain : Domain) (value : ℤ) → GivesValue plan name value → LeavesTime model plan name domain
  time_if_given (Token token Start) domain value gives = λ rejected. absurd (not_given token Start value gives rejected)
  time_if_given (Token token End) domain value gives = λ rejected. absurd (not_given token End value gives rejected)
  time_if_given (Token token Duration) domain value gives = λ rejected. absurd (not_given token Duration value gives rejected)
  time_if_given (Token token Object) domain value gives = tt
  time_if_given (Token token (Param number)) domain value gives = tt
  time_if_given (Local token rule number) domain value gives = tt
  time_if_given (Global number) domain value gives = tt

  -- the value that the plan gives
  from_value : (name : VarName) → HasDeclaredValue model plan name → HasOwnDomain model plan name
  from_value name (value, gives, (base, has_base, has)) =
      let single = single_in base value (base_lawful model lawful name base has_base) has in (
        single.domain,
        record {
          ok = single.ok;
          in_base = (Given base, has_base, single.within);
          value = λ other its. subst (IsSingle single.domain) (value_once plan of_model.order name value other gives its) single.single;
          time = time_if_given name single.domain value gives;
        },
      )

  module _ (token : TokenName) (rejected : Contains plan.lines (lines.Rejected token)) where
    is_root : token.steps ≡ []
    is_root = let at = place (lines.Rejected token) rejected in valid V2 (places.Line at.0) (lines.Rejected token) at.1

    root_slot : (slot : Slot) → (has : HasToken model token slot) → slot ≡ slot_of has.root
    root_slot slot has = subst (λ (steps : List _). Reaches model (slot_of has.root) steps slot) is_root has.reached

    root_of : (slot : Slot) → (has : HasToken model token slot) → IsLawfulRoot model has.root
    root_of slot has = get_all (IsLawfulRoot model) model.problem.roots token.root has.root lawful.roots has.is_root

    -- what the part is declared with is some domain
    by_base : (part : Part) → ((value : ℤ) → GivesValue plan (Token token part) value → ⊥) → ((domain : Domain) → LeavesTime model plan (Token token part) domain)
        → (domain : Domain) → HasBase model (Token token part) (Given domain) → HasOwnDomain model plan (Token token part)
    by_base part none time domain has = (
      domain,
      record {
        ok = base_lawful model lawful (Token token part) domain has;
        in_base = (Given domain, has, IsWithin-refl domain);
        value = λ value gives. absurd (none value gives);
        time = time domain;
      },
    )

    rejected_part : (part : Part) → HasPart model token part → HasOwnDomain model plan (Token token part)
    rejected_part Start (slot, has, base) = (
      starts model,
      record {
        ok = (starts_ok model lawful).0;
        in_base = (Given (Range model.problem.start model.problem.end), (slot, has, refl), (starts_ok model lawful).1);
        value = λ value gives. absurd (not_given token Start value gives rejected);
        time = λ is. refl;
      },
    )
    rejected_part End (slot, has, base) = (
      ends model,
      record {
        ok = (ends_ok model lawful).0;
        in_base = (Given (Range model.problem.start model.problem.end), (slot, has, refl), (ends_ok model lawful).1);
        value = λ value gives. absurd (not_given token End value gives rejected);
        time = λ is. refl;
      },
    )
    rejected_part Duration (slot, has, base) = (
      durations model,
      record {
        ok = durations_ok model lawful;
        in_base = (Given (durations model), (slot, has, refl), IsWithin-refl (durations model));
        value = λ value gives. absurd (not_given token Duration value gives rejected);
        time = λ is. refl;
      },
    )
    rejected_part Object (slot, has, base) =
        by_base Object (λ value gives. not_given token Object value gives rejected) (λ domain. tt) has.root.object
        (slot, has, sym (ap (λ (s : Slot). s.object) (root_slot slot has)))
    rejected_part (Param number) (slot, has, (base, (variable, declared, is))) =
        let root = root_of slot has in
        let preds : slot.pred ≡ has.root.pred = ap (λ (s : Slot). s.pred) (root_slot slot has) in
        let pred = get_same model.preds slot.pred declared.predicate root.pred declared.is_predicate (subst (λ (n : ℕ). slice_get model.preds n ≡ Some root.pred) (sym preds) root.is_pred) in
        let given = get_all (λ (v : VarDecl). IsGiven v.base) root.pred.params number variable root.given
        (subst (λ (p : _). slice_get p.params number ≡ Some variable) pred declared.declared) in
        by_base (Param number) (λ value gives. not_given token (Param number) value gives rejected) (λ domain. tt) given.0
        (slot, has, (variable, declared, sym given.1))

  -- ---- each variable

  part_domain : (token : TokenName) (part : Part) → HasLine plan token → HasPart model token part → HasOwnDomain model plan (Token token part)
  part_domain token part (inl (values, (fact, there))) has =
      let at = place (lines.Token token fact values) there in
      let suits : SuitsToken model plan token = valid V3 (places.Line at.0) (lines.Token token fact values) at.1 in
      from_value (Token token part) (suits.parts part has)
  part_domain token part (inr (inl (target, there))) has =
      let at = place (lines.Merged token target) there in
      let suits : SuitsMerge model plan token target = valid V4 (places.Line at.0) (lines.Merged token target) at.1 in
      from_value (Token token part) (suits.parts part has)
  part_domain token part (inr (inr rejected)) has = rejected_part token rejected part has

  local_domain : (state : State) → ((block : TokenBlock) → Contains state.blocks block → IsOpenBlock model plan block)
      → (token : TokenName) (rule number : ℕ) → StandsOpen model state token rule number → HasOwnDomain model plan (Local token rule number)
  local_domain state are token rule number stands =
      let found = are stands.block stands.is_open in
      let same = block_once model _ _ stands.block found.0 stands.entries found.1.has_block stands.is_block in
      let is : stands.block ≡ record { token = token; rule = rule; path = stands.block.path } = λ i. record { token = stands.of_token i; rule = stands.of_rule i; path = stands.block.path } in
      let asks : AsksForLocal model plan token rule number = record {
        path = stands.block.path;
        entries = found.0;
        is_open = subst (λ (b : TokenBlock). IsOpen model (plan_situation plan) b found.0) is found.1;
        stands = subst (λ (e : Entries). Contains (direct e) (OfLocal number)) (sym same) stands.stands;
      } in
      let activated : IsActivatedIn plan token = asks.is_open.activated in
      let at = place (lines.Token token _ activated.0) activated.1 in
      from_value (Local token rule number) (valid V5 (places.Local at.0 rule number) token (activated.0, at.1) asks)

  pub own_domain : (state : State) → ((token : TokenName) → Contains state.tokens token → HasLine plan token)
      → ((block : TokenBlock) → Contains state.blocks block → IsOpenBlock model plan block)
      → (name : VarName) → IsAbout model state name → HasOwnDomain model plan name
  own_domain state tokens blocks (Global number) about = from_value (Global number) (valid V1 (places.Global number) about)
  own_domain state tokens blocks (Token token part) about =
      let base = about.1 in
      part_domain token part (tokens token about.0) (base.1.0, base.1.1, (base.0, base.1.2))
  own_domain state tokens blocks (Local token rule number) stands = local_domain state blocks token rule number stands
