-- What the plan of a state without a flaw says, and that what is consistent in the state is true in the plan.
use Rattle.std.proofs.Common.{◌≡◌, ℕ, zero, suc, ◌+◌, ◌≤◌, ℤ, Bool, true, false, List, [], ◌∷◌, ◌++◌, length, Some, inl, inr, refl, sym, ap, subst, arith}
use Rattle.std.specs.Prelude.{Contains, slice_get, ⊤}
use Rattle.std.specs.List.{AllZip}
use Rattle.domain_core.specs.Domain.{Domain, IsSingle, IsDomain}
use Rattle.eu_name.specs.declared.name.Part.{Part}
use Rattle.eu_name.specs.declared.name.TokenName.{TokenName}
use Rattle.eu_name.specs.declared.name.VarName.{VarName}
use Rattle.eu_name.specs.declared.name.VarName.TheVariants as variables
use Rattle.eu_name.proofs.Members.{get_from_contains, get_same}
use Rattle.model_core.specs.declared.class.Pred.{Pred}
use Rattle.model_core.specs.declared.decision.Decision.{Decision}
use Rattle.model_core.specs.declared.decision.Decision.TheVariants.{Activate, Merge}
use Rattle.domain_core.specs.declared.kind.Kind.TheVariants.{Eq}
use Rattle.model_core.specs.declared.model.Model.{Model}
use Rattle.model_core.specs.declared.rule.Slot.{Slot}
use Rattle.domain_core.specs.Consistency.{AreConsistent}
use Rattle.domain_core.specs.Constraints.{Holds, reach_of}
use Rattle.model_core.specs.Decided.{IsRejected, IsActive, IsDecided}
use Rattle.model_core.specs.Lawful.{IsToken}
use Rattle.model_core.specs.State.{State, Gives, IsState}
use Rattle.model_core.specs.Tokens.{HasToken}
use Rattle.model_core.specs.Views.{IsTokenAt}
use Rattle.model_core.proofs.Leading.{token_once}
use Rattle.plan_defs.specs.declared.plan.Line.TheVariants as lines
use Rattle.plan_defs.specs.declared.plan.Plan.{Plan}
use Rattle.plan_defs.specs.Claims.{Claim, HasPart, equal, part_of}
use Rattle.plan_defs.specs.Consistency.{IsClaimConsistent, HasField}
use Rattle.plan_defs.specs.Plans.{TakesPlaceWith, HasTargetValue, GivesValue, place_in_values}
use Rattle.model_core.specs.declared.refusal.Refusal.TheVariants.{NotActive}
use Rattle.plan_defs.specs.Terms.{Argument, Value, Variable, HasDomain}
use Rattle.plan_defs.specs.Valid.{IsClaimTrue, HasArgumentValue}
use Rattle.plan_defs.proofs.States.{gives_same, gives_domain}
use Rattle.plan_defs.specs.Flaws.{Undecided, Undetermined, HasFlaw, IsOfRejectedToken}
use Rattle.plan_defs.specs.StatePlans.{GivesOnly, ArePartValues, TakesPlaceAs}
use Rattle.plan_defs.specs.Surveying.{AreFirstValues, HasPartCount}
use Rattle.plan_defs.proofs.Admitting.{admitted, target_of_model, token_of_state}
use Rattle.plan_defs.proofs.Deciding.{DecidesOnce, decides_once}
use Rattle.plan_defs.proofs.Determining.{single_or_not, is_unbound, part_flaw}
use Rattle.plan_defs.proofs.Kinding.{pred_of_slot}
use Rattle.plan_defs.proofs.Parting.{part_there, has_part}
use Rattle.plan_defs.proofs.Stating.{are_values, takes_not_rejected}
use Rattle.plan_defs.proofs.Telling.{one_at, first_none, first_more}
use Rattle.law_states.specs.Soundness.{IsFlawlessPlan}
use Rattle.law_states.proofs.Deciding.{Becoming, IsAFact, IsActivatedOne, IsMergedOne, IsRejectedOne, becoming}
use Rattle.law_states.proofs.Pinning.{IsPinned, pinned_value, pinned_domain, pinned_holds}

-- one value more
pushed : (state : State) (place count : ℕ) (old : List ℤ) (part : Part) (value : ℤ) → AreFirstValues state place count old → place_in_values part ≡ count
    → ((token : TokenName) × IsTokenAt state place token × GivesOnly state (variables.Token token part) value) → (values : List ℤ) × AreFirstValues state place (suc count) values
pushed state place count old part value first next has =
    let more = first_more state place count old (old ++ value ∷ []) part value first next refl has in
    let e : count + 1 ≡ suc count = omega arith in
    (old ++ value ∷ [], subst (λ n. AreFirstValues state place n (old ++ value ∷ [])) e more)

module _ (model : Model) (decisions : List Decision) (state : State) (plan : Plan) (is : IsFlawlessPlan model decisions state plan) where
  pub is_state : IsState model state
  is_state = is.settled.consistent.is_state

  once : DecidesOnce model decisions
  once = decides_once model decisions is.settled.settled

  pub domain_of : (name : VarName) (domain : Domain) → Gives state name domain → IsDomain domain
  domain_of name domain gives = gives_domain model state is_state name domain gives

  pub token_has : (token : TokenName) → Contains state.tokens token → IsToken model token
  token_has token there = token_of_state model state token is_state there

  -- no decision rejects the token that owns the variable
  abbrev pub IsKept : VarName → Type 0
  IsKept name = IsOfRejectedToken decisions name → ⊥

  -- ---- values

  owner_kept : (token : TokenName) (part : Part) → IsKept (variables.Token token part) → IsRejected decisions token → ⊥
  owner_kept token part kept rejected = kept (token, refl, rejected)

  several_flaw : (name : VarName) (domain : Domain) → Gives state name domain → ((value : ℤ) → IsSingle domain value → ⊥) → IsKept name → HasFlaw model decisions state
  several_flaw (variables.Global number) domain gives several kept =
      (Undetermined (variables.Global number), (tt, is_unbound model decisions state is.settled.consistent (variables.Global number) domain gives several kept))
  several_flaw (variables.Local token rule number) domain gives several kept =
      (Undetermined (variables.Local token rule number), (tt, is_unbound model decisions state is.settled.consistent (variables.Local token rule number) domain gives several kept))
  several_flaw (variables.Token token part) domain gives several kept =
      let about = (is_state.variables (variables.Token token part)).1 (domain, gives) in
      let flaw = part_flaw model decisions state is.settled.consistent token about.1.1.0 about.0 about.1.1.1 (owner_kept token part kept) part about.1.0 about.1.1.2
      (λ value has. several value (subst (λ d. IsSingle d value) (gives_same state is_state.order (variables.Token token part) has.0 domain has.1 gives) has.2)) in
      (flaw.0, flaw.1)

  -- a variable of no rejected token has one value
  pub value_of : (name : VarName) (domain : Domain) → Gives state name domain → IsKept name → (value : ℤ) × IsSingle domain value
  value_of name domain gives kept = elim (single_or_not domain (domain_of name domain gives)) [
    | inl one ↦ one
    | inr several ↦ absurd (is.flawless (several_flaw name domain gives several kept))
  ]

  -- ---- the lines of tokens

  pub becomes_of : (token : TokenName) → Contains state.tokens token → Becoming model decisions token
  becomes_of token there =
      let has = token_has token there in
      becoming model decisions token has.0 has.1 (λ undecided. is.flawless (Undecided token, (there, undecided)))

  module _ (token : TokenName) (there : Contains state.tokens token) (kept : IsRejected decisions token → ⊥) where
    place : ℕ
    place = (get_from_contains state.tokens token there).0

    at : IsTokenAt state place token
    unfolding place
    at = (get_from_contains state.tokens token there).1

    slot : Slot
    slot = (token_has token there).0

    has_token : HasToken model token slot
    unfolding slot
    has_token = (token_has token there).1

    pred : Pred
    pred = (pred_of_slot model token slot is.settled.lawful has_token).0

    is_pred : slice_get model.preds slot.pred ≡ Some pred
    unfolding pred
    is_pred = (pred_of_slot model token slot is.settled.lawful has_token).1

    counts : HasPartCount model state place (4 + length pred.params)
    counts = λ t s found here has found_is.
        let tokens = one_at state place t token here at in
        let slots = token_once model token s slot (subst (λ (x : TokenName). HasToken model x s) tokens has) has_token in
        let preds : found ≡ pred = get_same model.preds slot.pred found pred (subst (λ (x : Slot). slice_get model.preds x.pred ≡ Some found) slots found_is) is_pred in
        ap (λ (p : Pred). 4 + length p.params) (sym preds)

    first : (count : ℕ) → count ≤ 4 + length pred.params → (values : List ℤ) × AreFirstValues state place count values
    first zero within = ([], first_none state place)
    first (suc count) within =
        let before = first count (omega (arith, within)) in
        let part = part_there count in
        let base = has_part model slot pred part.0 is_pred (omega (arith, within, part.1)) in
        let given = (is_state.variables (variables.Token token part.0)).0 (there, (base.0, (slot, has_token, base.1))) in
        let value = value_of (variables.Token token part.0) given.0 given.1 (λ rejected. kept (subst (λ t. IsRejected decisions t) (sym rejected.1) rejected.2)) in
        pushed state place count before.0 part.0 value.0 before.1 part.1 (token, at, (given.0, given.1, value.1))

    all : (values : List ℤ) × AreFirstValues state place (4 + length pred.params) values
    all = first (4 + length pred.params) (omega arith)

    pub part_values : (values : List ℤ) × ArePartValues state token values
    part_values =
        let found = all in
        (found.0, are_values model decisions state is.settled place token at (4 + length pred.params) found.0 counts found.1)

  -- what takes place has its line
  pub takes_line : (fact : Bool) (token : TokenName) → Contains state.tokens token → TakesPlaceAs model decisions fact token
      → (values : List ℤ) × Contains plan.lines (lines.Token token fact values) × ArePartValues state token values
  takes_line fact token there takes =
      let found = part_values token there (λ rejected. takes_not_rejected model decisions state is.settled fact token takes rejected) in
      (found.0, (is.is_plan.lines (lines.Token token fact found.0)).1 (record { there = there; takes_place = takes; values_are = found.1 }), found.1)

  pub active_line : (token : TokenName) → Contains state.tokens token → IsActive model decisions token
      → (values : List ℤ) × TakesPlaceWith plan token values × ArePartValues state token values
  active_line token there (inl fact) = let line = takes_line true token there fact in (line.0, (true, line.1), line.2)
  active_line token there (inr activated) = let line = takes_line false token there activated in (line.0, (false, line.1), line.2)

  -- ---- merges

  pub active_before : (front : List Decision) (token : TokenName) → ((other : Decision) → Contains front other → Contains decisions other)
      → IsActive model front token → IsActive model decisions token
  active_before front token before (inl fact) = inl fact
  active_before front token before (inr activated) = inr (before (Activate token) activated)

  active_decided : (token : TokenName) → IsActive model decisions token → IsDecided model decisions token
  active_decided token (inl fact) = inl fact
  active_decided token (inr activated) = inr (inl (inl activated))

  pub active_not_rejected : (token : TokenName) → IsActive model decisions token → IsRejected decisions token → ⊥
  active_not_rejected token (inl fact) rejected = takes_not_rejected model decisions state is.settled true token fact rejected
  active_not_rejected token (inr activated) rejected = takes_not_rejected model decisions state is.settled false token activated rejected

  pub active_not_merged : (token target : TokenName) → IsActive model decisions token → Contains decisions (Merge token target) → ⊥
  active_not_merged token target (inl fact) merged = once.facts token (Merge token target) fact merged refl
  active_not_merged token target (inr activated) merged =
      let e : Activate token ≡ Merge token target = once.one token (Activate token) (Merge token target) activated merged refl refl in cc

  -- a target is active, as it can't be that it isn't
  pub surely_active : (token : TokenName) (slot : Slot) → HasToken model token slot → ((IsActive model decisions token → ⊥) → ⊥) → IsActive model decisions token
  surely_active token slot has surely =
      case (becoming model decisions token slot has (λ undecided. surely (λ active. undecided (active_decided token active))))
    where
      case : Becoming model decisions token → IsActive model decisions token
      case (IsAFact fact) = inl fact
      case (IsActivatedOne activated) = inr activated
      case (IsMergedOne target merged) = absurd (surely (λ active. active_not_merged token target active merged))
      case (IsRejectedOne rejected) = absurd (surely (λ active. active_not_rejected token active rejected))

  pub target_active : (token target : TokenName) → Contains decisions (Merge token target) → IsActive model decisions target
  target_active token target merged =
      let found = admitted model decisions (Merge token target) is.settled.settled merged in
      let has = target_of_model model decisions token target is.settled.settled merged in
      surely_active target has.0 has.1 (λ not. found.admissible.free NotActive (λ active. not (active_before found.front target found.before active)))

  -- a part of a merged token has its target's value
  pub merged_value : (token target : TokenName) (part : Part) (value : ℤ) → Contains decisions (Merge token target) → HasPart model token part
      → GivesOnly state (variables.Token token part) value → HasTargetValue plan token part value
  merged_value token target part value merged has_part has =
      let known = is.founded.known (Merge token target) merged in
      let claim = equal (part_of token part) (part_of target part) in
      let consistent = is.settled.consistent.claims claim (inr (inr (inr (inl (record {
        token = token;
        target = target;
        part = part;
        merged = merged;
        has_part = has_part;
        says = refl;
      }))))) in
      let line = active_line target known.1 (target_active token target merged) in
      both consistent.domains consistent.have consistent.agree line.0 line.1 line.2
    where
      both : (domains : List Domain) → AllZip (HasDomain (Gives state)) (part_of token part ∷ part_of target part ∷ []) domains
          → AreConsistent (reach_of Eq) (Holds (HasField model) Eq) domains → (line : List ℤ) → TakesPlaceWith plan target line → ArePartValues state target line
          → HasTargetValue plan token part value
      both [] have agree line takes are = absurd have
      both (x ∷ []) have agree line takes are = absurd have.1
      both (x ∷ y ∷ z ∷ more) have agree line takes are = absurd have.1.1
      both (x ∷ y ∷ []) have agree line takes are =
          let same_x = gives_same state is_state.order (variables.Token token part) has.0 x has.1 have.0 in
          let pinned_x = pinned_domain x value (domain_of _ x have.0) (subst (λ d. IsSingle d value) same_x has.2) in
          let other = value_of (variables.Token target part) y have.1.0
          (λ rejected. active_not_rejected target (target_active token target merged) (subst (λ t. IsRejected decisions t) (sym rejected.1) rejected.2)) in
          let pinned_y = pinned_domain y other.0 (domain_of _ y have.1.0) other.1 in
          let same : value ≡ other.0 = pinned_holds (reach_of Eq) (Holds (HasField model) Eq) x (y ∷ []) value (other.0 ∷ []) pinned_x (pinned_y, tt) agree in
          let value_is = (are part value).1 (y, have.1.0, subst (λ v. IsSingle y v) (sym same) other.1) in
          (target, (is.is_plan.lines (lines.Merged token target)).1 ((is.founded.known (Merge token target) merged).0, merged), (line, takes, value_is))

  -- ---- what the plan gives

  pub gives_value : (name : VarName) (value : ℤ) → GivesOnly state name value → IsKept name → GivesValue plan name value
  gives_value (variables.Global number) value has kept = (is.is_plan.globals number value).1 has
  gives_value (variables.Local token rule number) value has kept =
      (is.is_plan.lines (lines.Local (variables.Local token rule number) value)).1 ((λ rejected. kept (token, refl, rejected)), has)
  gives_value (variables.Token token part) value has kept =
      let about = (is_state.variables (variables.Token token part)).1 (has.0, has.1) in
      case about.0 (about.1.1.0, about.1.1.1, (about.1.0, about.1.1.2)) (becomes_of token about.0)
    where
      case : Contains state.tokens token → HasPart model token part → Becoming model decisions token → GivesValue plan (variables.Token token part) value
      case there has_part (IsAFact fact) = let line = takes_line true token there fact in inl (line.0, (true, line.1), (line.2 part value).1 has)
      case there has_part (IsActivatedOne activated) = let line = takes_line false token there activated in inl (line.0, (false, line.1), (line.2 part value).1 has)
      case there has_part (IsMergedOne target merged) = inr (merged_value token target part value merged has_part has)
      case there has_part (IsRejectedOne rejected) = absurd (kept (token, refl, rejected))

  -- ---- what is consistent is true

  -- the argument is a value, or a variable of no rejected token
  abbrev pub IsKeptArgument : Argument → Type 0
  IsKeptArgument (Value value) = ⊤
  IsKeptArgument (Variable name) = IsKept name

  abbrev pub AreKept : List Argument → Type 0
  AreKept [] = ⊤
  AreKept (argument ∷ arguments) = IsKeptArgument argument × AreKept arguments

  record Have (arguments : List Argument) (domains : List Domain) : Type 0 where
    values : List ℤ
    have : AllZip (HasArgumentValue plan) arguments values
    pinned : AllZip IsPinned domains values

  have_one : (argument : Argument) (domain : Domain) → HasDomain (Gives state) argument domain → IsKeptArgument argument
      → (value : ℤ) × HasArgumentValue plan argument value × IsPinned domain value
  have_one (Value value) domain same kept = (value, refl, subst (λ d. IsPinned d value) (sym same) (pinned_value value))
  have_one (Variable name) domain gives kept =
      let value = value_of name domain gives kept in
      (value.0, gives_value name value.0 (domain, gives, value.1) kept, pinned_domain domain value.0 (domain_of name domain gives) value.1)

  have_all : (arguments : List Argument) (domains : List Domain) → AllZip (HasDomain (Gives state)) arguments domains → AreKept arguments → Have arguments domains
  have_all [] [] have kept = record { values = []; have = tt; pinned = tt }
  have_all [] (domain ∷ domains) have kept = absurd have
  have_all (argument ∷ arguments) [] have kept = absurd have
  have_all (argument ∷ arguments) (domain ∷ domains) have kept =
      let first = have_one argument domain have.0 kept.0 in
      let rest = have_all arguments domains have.1 kept.1 in
      record { values = first.0 ∷ rest.values; have = (first.1, rest.have); pinned = (first.2, rest.pinned) }

  pub claim_true : (claim : Claim) (argument : Argument) (arguments : List Argument) → claim.arguments ≡ argument ∷ arguments → AreKept claim.arguments
      → IsClaimConsistent model state claim → IsClaimTrue model plan claim
  claim_true claim argument arguments some kept consistent =
      let found = have_all claim.arguments consistent.domains consistent.have kept in
      record {
        values = found.values;
        have = found.have;
        holds = holding consistent.domains found.values
            (subst (λ list. AllZip (HasDomain (Gives state)) list consistent.domains) some consistent.have) found.pinned consistent.agree;
      }
    where
      holding : (domains : List Domain) (values : List ℤ) → AllZip (HasDomain (Gives state)) (argument ∷ arguments) domains → AllZip IsPinned domains values
          → AreConsistent (reach_of claim.kind) (Holds (HasField model) claim.kind) domains → Holds (HasField model) claim.kind values
      holding [] values have pinned agree = absurd have
      holding (domain ∷ domains) [] have pinned agree = absurd pinned
      holding (domain ∷ domains) (value ∷ values) have pinned agree =
          pinned_holds (reach_of claim.kind) (Holds (HasField model) claim.kind) domain domains value values pinned.0 pinned.1 agree
