-- What single steps over a state answer.
use Rattle.std.proofs.Common.{◌≡◌, ℕ, ◌+◌, ◌<◌, ◌^◌, List, [], ◌∷◌, ◌++◌, length, Some, ℤ, Bool, true, false, Option, None, Result, Ok, Err, inl, inr, refl, sym, ap, ◌∙◌, subst, arith}
use Rattle.std.specs.Prelude.{Contains, slice_get, MatchBool, MatchOption, MatchResult, IfOk, IfErr, IsTrue, ◌↔◌}
use Rattle.std.proofs.lemmas.Bool.{cases_lt}
use Rattle.domain_core.specs.Domain.{Domain, IsSingle}
use Rattle.eu_name.specs.declared.name.Part.{Part}
use Rattle.eu_name.specs.declared.name.Part.TheVariants.{Object}
use Rattle.eu_name.specs.declared.name.TokenName.{TokenName}
use Rattle.eu_name.specs.declared.name.VarName.TheVariants as variables
use Rattle.eu_name.specs.NameOrder.{IsTokenBefore}
use Rattle.eu_name.proofs.Members.{get_within, get_from_contains, contains_from_get}
use Rattle.eu_name.proofs.Orders.{token_order}
use Rattle.model_core.specs.declared.class.Pred.{Pred}
use Rattle.model_core.specs.declared.decision.Decision.{Decision}
use Rattle.model_core.specs.declared.model.Model.{Model}
use Rattle.model_core.specs.declared.rule.Slot.{Slot}
use Rattle.model_core.specs.declared.view.TokenState.{TokenState}
use Rattle.model_core.specs.declared.view.TokenState.TheVariants.{Inactive, Active, Fact, Merged, Rejected}
use Rattle.model_core.specs.Decided.{IsRejected}
use Rattle.model_core.specs.Lawful.{IsLawful}
use Rattle.model_core.specs.State.{State, Gives}
use Rattle.model_core.specs.Tokens.{HasToken}
use Rattle.model_core.specs.TokenStates.{HasTokenState, IsMergedAt}
use Rattle.model_core.specs.Views.{IsTokenAt}
use Rattle.model_core.proofs.Leading.{token_once}
use Rattle.plan_defs.specs.declared.plan.Line.{Line}
use Rattle.plan_defs.specs.declared.plan.Line.TheVariants as lines
use Rattle.plan_defs.specs.declared.plan.Plan.{Plan}
use Rattle.plan_defs.specs.Closure.{IsLeast}
use Rattle.plan_defs.specs.Plans.{IsPlanOf}
use Rattle.plan_defs.specs.Settling.{IsSettled}
use Rattle.plan_defs.proofs.States.{gives_same}
use Rattle.plan_states.specs.declared.fault.PlanOfFault.{PlanOfFault}
use Rattle.plan_states.specs.declared.fault.PlanOfFault.TheVariants.{Open, Memory}
use Rattle.plan_defs.specs.Flaws.{Flaw, Undecided, Undetermined, Unordered, Untimed, IsFlaw, HasFlaw, IsOfRejectedToken}
use Rattle.plan_defs.specs.StatePlans.{GivesOnly, TakesPlaceAs, IsStatePlan, IsSettledState}
use Rattle.plan_defs.specs.Surveying.{Surveys, AreFirstValues, AreGlobalValues, IsPartUnbound, HasPartCount, IsRejectedState, IsStatedBy, IsOwnLine, IsOwnFlaw, IsLocalLine, IsLocalFlaw, IsLineOfToken, IsFlawOf, IsLineOfPlace, IsFlawOfPlace, IsLineOfPlaces, IsFlawOfPlaces, IsUnorderedFlaw, IsOrderedPlan}
use Rattle.plan_states.proofs.Completing.{ordered_plan}
use Rattle.plan_defs.proofs.Determining.{value_once}
use Rattle.plan_states.proofs.Following.{places_before}
use Rattle.plan_states.proofs.Gathering.{surveys_none, surveys_one, surveys_same}
use Rattle.plan_defs.proofs.Stating.{own_once, unbound_part, states_merged, takes_not_rejected, merged_not_rejected}
use Rattle.plan_defs.proofs.Telling.{one_at}
use Rattle.plan_defs.specs.Unordered.{IsPairAt}

-- ---- faults

not_open : {P : Type 0} (fault : PlanOfFault) → fault ≡ Memory → fault ≡ Open → P
not_open fault memory is = absurd (apart fault memory is)
  where
    apart : (f : PlanOfFault) → f ≡ Memory → f ≡ Open → ⊥
    apart f m o = let e : Memory ≡ Open = sym m ∙ o in cc

fault_of : (result : Result Plan PlanOfFault) (fault other : PlanOfFault) → result ≡ Err fault → result ≡ Err other → fault ≡ other
fault_of result fault other p q = cc

-- what holds once the step is taken
pub after_step : {U : Type 0} (A B P : Type 0) (result : Result U PlanOfFault) → MatchResult result (λ _. A) (λ fault. fault ≡ Memory) → (A → B)
    → MatchResult result (λ _. B) (λ fault. fault ≡ Open → P)
after_step A B P (Ok u) is then = then is
after_step A B P (Err fault) is then = λ open_fault. not_open fault is open_fault

pub after_all : {U : Type 0} (A B : Type 0) (C : PlanOfFault → Type 0) (result : Result U PlanOfFault) → MatchResult result (λ _. A) C → (A → B) → MatchResult result (λ _. B) C
after_all A B C (Ok u) is then = then is
after_all A B C (Err fault) is then = is

-- ---- what is known of a place

pub pred_told : (model : Model) (state : State) (place : ℕ) (token : TokenName) (found : Option ℕ) → Some token ≡ slice_get state.tokens place
    → MatchOption found ((slot : Slot) → HasToken model token slot → ⊥) (λ pred. (slot : Slot) × HasToken model token slot × (slot.pred ≡ pred))
    → MatchOption found ((t : TokenName) (slot : Slot) → IsTokenAt state place t → HasToken model t slot → ⊥)
    (λ pred. (t : TokenName) × IsTokenAt state place t × ((slot : Slot) × HasToken model t slot × (slot.pred ≡ pred)))
pred_told model state place token (Some pred) at is = (token, sym at, is)
pred_told model state place token None at is = λ t slot at' has. is slot (subst (λ x. HasToken model x slot) (one_at state place t token at' (sym at)) has)

pub part_count : (known model : Model) (state : State) (place pred count : ℕ) → known ≡ model
    → ((token : TokenName) × IsTokenAt state place token × ((slot : Slot) × HasToken model token slot × (slot.pred ≡ pred)))
    → ((found : Pred) → slice_get model.preds pred ≡ Some found → count ≡ 4 + length found.params) → HasPartCount known state place count
part_count known model state place pred count same at counts = λ token slot found here has is.
    let other : HasToken model token at.2.0 = subst (λ t. HasToken model t at.2.0) (one_at state place at.0 token at.1 here) at.2.1 in
    let moved : HasToken model token slot = subst (λ m. HasToken m token slot) same has in
    let slots : slot ≡ at.2.0 = token_once model token slot at.2.0 moved other in
    let pred_is : slice_get model.preds pred ≡ Some found =
    subst (λ n. slice_get model.preds n ≡ Some found) (ap (λ (s : Slot). s.pred) slots ∙ at.2.2) (subst (λ (m : Model). slice_get m.preds slot.pred ≡ Some found) same is) in
    counts found pred_is

pub settled_state : (known model : Model) (decisions : List Decision) (state : State) → known ≡ model → IsLawful model → IsSettled model decisions → IsLeast model decisions state
    → IsSettledState known decisions state
settled_state known model decisions state same lawful settled least =
    subst (λ m. IsSettledState m decisions state) (sym same) (record { lawful = lawful; settled = settled; consistent = least.closed.consistent })

-- ---- locals

module _ (model : Model) (decisions : List Decision) (state : State) (token : TokenName) (rule number : ℕ) where
  pub flaw_gives : (flaw : Flaw) → IsLocalFlaw model decisions state token rule number flaw → IsFlaw model decisions state flaw
      → (domain : Domain) × Gives state (variables.Local token rule number) domain
  flaw_gives flaw sought is =
      let left = subst (λ f. IsFlaw model decisions state f) sought is in (left.1.domain, left.1.gives)

  -- the state hasn't the local
  pub local_absent : (list : List Line) → ((domain : Domain) → Gives state (variables.Local token rule number) domain → ⊥)
      → Surveys model decisions state (IsLocalLine model decisions state token rule number) (IsLocalFlaw model decisions state token rule number) list list
  local_absent list none =
      surveys_none model decisions state (IsLocalLine model decisions state token rule number) (IsLocalFlaw model decisions state token rule number) list
      (λ line is. none is.1.0 is.1.1) (λ flaw sought is. let gives = flaw_gives flaw sought is in none gives.0 gives.1)

  not_rejected : (IsRejected decisions token → ⊥) → IsOfRejectedToken decisions (variables.Local token rule number) → ⊥
  not_rejected kept is = kept (subst (λ t. IsRejected decisions t) (sym is.1) is.2)

module _ (model : Model) (decisions : List Decision) (state : State) (settled : IsSettledState model decisions state) where
  -- the local has several values
  pub local_open : (place rule number : ℕ) (domain : Domain) → ((token : TokenName) × IsTokenAt state place token × Gives state (variables.Local token rule number) domain)
      → ((value : ℤ) → IsSingle domain value → ⊥) → ((token : TokenName) → IsTokenAt state place token → IsRejected decisions token → ⊥) → HasFlaw model decisions state
  local_open place rule number domain (token, at, gives) several kept = (
    Undetermined (variables.Local token rule number),
    (tt, record { domain = domain; gives = gives; several = several; kept = not_rejected model decisions state token rule number (kept token at) }),
  )

  -- the local has its line
  pub local_put : (place rule number : ℕ) (domain : Domain) (value : ℤ) (line : Line) (old new : List Line)
      → ((token : TokenName) × IsTokenAt state place token × Gives state (variables.Local token rule number) domain) → IsSingle domain value
      → ((token : TokenName) × IsTokenAt state place token × (line ≡ lines.Local (variables.Local token rule number) value))
      → new ≡ old ++ line ∷ [] → (token : TokenName) → IsTokenAt state place token
      → Surveys model decisions state (IsLocalLine model decisions state token rule number) (IsLocalFlaw model decisions state token rule number) old new
  local_put place rule number domain value line old new (t, at, gives) single (u, at', line_is) is token here =
      let own : GivesOnly state (variables.Local token rule number) value =
      subst (λ x. GivesOnly state (variables.Local x rule number) value) (one_at state place t token at here) (domain, gives, single) in
      let said : line ≡ lines.Local (variables.Local token rule number) value =
      subst (λ x. line ≡ lines.Local (variables.Local x rule number) value) (one_at state place u token at' here) line_is in
      surveys_one model decisions state (IsLocalLine model decisions state token rule number) (IsLocalFlaw model decisions state token rule number) old new line is
      (value, own, said) (alone own said) (clear own)
    where
      alone : GivesOnly state (variables.Local token rule number) value → line ≡ lines.Local (variables.Local token rule number) value
          → (other : Line) → IsLocalLine model decisions state token rule number other → other ≡ line
      alone own said other meant =
          let same : meant.0 ≡ value = value_once state settled.consistent.is_state.order (variables.Local token rule number) meant.0 value meant.1 own in
          meant.2 ∙ (ap (λ v. lines.Local (variables.Local token rule number) v) same ∙ sym said)

      clear : GivesOnly state (variables.Local token rule number) value → (flaw : Flaw) → IsLocalFlaw model decisions state token rule number flaw → IsFlaw model decisions state flaw → ⊥
      clear own flaw sought is =
          let left = subst (λ f. IsFlaw model decisions state f) sought is in
          let same = gives_same state settled.consistent.is_state.order (variables.Local token rule number) own.0 left.1.domain own.1 left.1.gives in
          left.1.several value (subst (λ d. IsSingle d value) same own.2)

  -- ---- tokens

  rejected_told : (found : TokenState) (told : Bool) (token : TokenName) → IsTrue told ↔ IsRejectedState found → HasTokenState model state decisions token found
      → MatchBool told (IsRejected decisions token) (IsRejected decisions token → ⊥)
  rejected_told found true token says has = is_rejected found (says.0 refl) has
    where
      is_rejected : (f : TokenState) → IsRejectedState f → HasTokenState model state decisions token f → IsRejected decisions token
      is_rejected Rejected is has' = has'
      is_rejected Active is has' = absurd is
      is_rejected Fact is has' = absurd is
      is_rejected Inactive is has' = absurd is
      is_rejected (Merged place) is has' = absurd is
  rejected_told found false token says has = isn't found (λ is. let e : false ≡ true = says.1 is in cc) has
    where
      isn't : (f : TokenState) → (IsRejectedState f → ⊥) → HasTokenState model state decisions token f → IsRejected decisions token → ⊥
      isn't Rejected not has' rejected = not tt
      isn't Active not has' rejected = takes_not_rejected model decisions state settled false token has' rejected
      isn't Fact not has' rejected = takes_not_rejected model decisions state settled true token has' rejected
      isn't Inactive not has' rejected = has' (inr (inr rejected))
      isn't (Merged place) not has' rejected = merged_not_rejected model decisions state settled token has'.0 has'.2 rejected

  pub rejected_answer : (place : ℕ) (found : TokenState) (told : Bool) → IsTrue told ↔ IsRejectedState found
      → ((token : TokenName) × IsTokenAt state place token × HasTokenState model state decisions token found)
      → MatchBool told ((token : TokenName) → IsTokenAt state place token → IsRejected decisions token)
      ((token : TokenName) → IsTokenAt state place token → IsRejected decisions token → ⊥)
  rejected_answer place found told says has = spread told (rejected_told found told has.0 says has.2)
    where
      spread : (b : Bool) → MatchBool b (IsRejected decisions has.0) (IsRejected decisions has.0 → ⊥)
          → MatchBool b ((token : TokenName) → IsTokenAt state place token → IsRejected decisions token)
          ((token : TokenName) → IsTokenAt state place token → IsRejected decisions token → ⊥)
      spread true is = λ token at. subst (λ t. IsRejected decisions t) (one_at state place has.0 token has.1 at) is
      spread false is = λ token at rejected. is (subst (λ t. IsRejected decisions t) (one_at state place token has.0 at has.1) rejected)

  -- a part of a token that takes place, or that is merged, has no value
  pub active_open : (place count : ℕ) (fact : Bool) → HasPartCount model state place count → ((token : TokenName) × IsTokenAt state place token × TakesPlaceAs model decisions fact token)
      → (part : Part) × IsPartUnbound state place count part → HasFlaw model decisions state
  active_open place count fact counts takes is =
      unbound_part model decisions state settled place takes.0 takes.1 count counts (λ rejected. takes_not_rejected model decisions state settled fact takes.0 takes.2 rejected) is

  pub merged_open : (place count target : ℕ) → HasPartCount model state place count → ((token : TokenName) × IsTokenAt state place token × IsMergedAt state decisions token target)
      → (part : Part) × IsPartUnbound state place count part → HasFlaw model decisions state
  merged_open place count target counts merged is =
      unbound_part model decisions state settled place merged.0 merged.1 count counts
      (λ rejected. merged_not_rejected model decisions state settled merged.0 merged.2.0 merged.2.2 rejected) is

  pub merged_said : (place count target : ℕ) (values : List ℤ) (result : Result Line PlanOfFault) → HasPartCount model state place count → AreFirstValues state place count values
      → ((token : TokenName) × IsTokenAt state place token × IsMergedAt state decisions token target)
      → IfOk result (λ line. (name into : TokenName) × (IsTokenAt state place name × IsTokenAt state target into × (line ≡ lines.Merged name into)))
      → IfErr result (λ fault. fault ≡ Memory)
      → MatchResult result (IsStatedBy model decisions state place) (λ fault. fault ≡ Open → HasFlaw model decisions state)
  merged_said place count target values (Ok line) counts first merged is memory =
      subst (λ l. IsStatedBy model decisions state place l) (sym is.2.2)
      (states_merged model decisions state settled place count target values is.0 is.1 counts first is.2.0 is.2.1 merged)
  merged_said place count target values (Err fault) counts first merged is memory = λ open_fault. not_open fault memory open_fault

  pub undecided : (place : ℕ) (found : TokenState) → found ≡ Inactive
      → ((token : TokenName) × IsTokenAt state place token × HasTokenState model state decisions token found) → HasFlaw model decisions state
  undecided place found same has =
      let not = subst (λ f. HasTokenState model state decisions has.0 f) same has.2 in
      (Undecided has.0, (contains_from_get state.tokens place has.0 has.1, not))

  pub own_put : (place : ℕ) (line : Line) (old new : List Line) → IsStatedBy model decisions state place line → new ≡ old ++ line ∷ []
      → (token : TokenName) → IsTokenAt state place token → Surveys model decisions state (IsOwnLine model decisions state token) (IsOwnFlaw token) old new
  own_put place line old new stated is token at =
      let said = stated token at in
      surveys_one model decisions state (IsOwnLine model decisions state token) (IsOwnFlaw token) old new line is said.0
      (λ other own. own_once model decisions state settled token other line own said.0) said.1

  -- ---- all tokens

  pub place_surveyed : (place : ℕ) (old new : List Line) → place < length state.tokens
      → ((token : TokenName) → IsTokenAt state place token → Surveys model decisions state (IsLineOfToken model decisions state token) (IsFlawOf token) old new)
      → Surveys model decisions state (IsLineOfPlace model decisions state place) (IsFlawOfPlace state place) old new
  place_surveyed place old new within each =
      let at = get_within state.tokens place within in
      surveys_same model decisions state (IsLineOfToken model decisions state at.0) (IsLineOfPlace model decisions state place) (IsFlawOf at.0) (IsFlawOfPlace state place) old new
      (λ line is. (at.0, at.1, is)) (λ line is. subst (λ t. IsLineOfToken model decisions state t line) (one_at state place is.0 at.0 is.1 at.1) is.2)
      (λ flaw of is. subst (λ t. IsFlawOf t flaw) (one_at state place of.0 at.0 of.1 at.1) of.2) (each at.0 at.1)

  pub global_open : (number : ℕ) → number < length model.problem.globals → ((value : ℤ) → GivesOnly state (variables.Global number) value → ⊥) → HasFlaw model decisions state
  global_open number within none =
      let given = (settled.consistent.is_state.variables (variables.Global number)).0 within in (
        Undetermined (variables.Global number),
        (
          tt,
          record {
            domain = given.0;
            gives = given.1;
            several = λ value single. none value (given.0, given.1, single);
            kept = λ rejected. rejected.1;
          },
        ),
      )

  -- ---- the plan

  pub plan_told : (globals : List ℤ) (listed old : List Line) (added : Result (Unit {0}) PlanOfFault) (result : Result Plan PlanOfFault) → old ≡ [] → AreGlobalValues model state globals
      → MatchResult added (λ _. Surveys model decisions state (IsLineOfPlaces model decisions state) (IsFlawOfPlaces state) old listed) (λ fault. fault ≡ Open → HasFlaw model decisions state)
      → MatchResult added
      (λ _. MatchResult result (λ plan. (plan.globals ≡ globals) × (plan.lines ≡ listed) × (length listed < 2 ^ 32)) (λ fault. fault ≡ Memory))
      (λ fault. result ≡ Err fault)
      → MatchResult result (IsOrderedPlan model decisions state) (λ fault. fault ≡ Open → HasFlaw model decisions state)
  plan_told globals listed old (Err fault) result none are surveys is =
      subst (λ r. MatchResult r (IsOrderedPlan model decisions state) (λ f. f ≡ Open → HasFlaw model decisions state)) (sym is) surveys
  plan_told globals listed old (Ok done) (Ok plan) none are surveys is =
      ordered_plan model decisions state settled globals are plan listed
      (subst (λ list. Surveys model decisions state (IsLineOfPlaces model decisions state) (IsFlawOfPlaces state) list listed) none surveys) is.0 is.1 is.2
  plan_told globals listed old (Ok done) (Err fault) none are surveys is = λ open_fault. not_open fault is open_fault

  -- two tokens without an order stand at two places
  pub pair_flaw : (one other : ℕ) → IsPairAt model decisions state one other → HasFlaw model decisions state
  pair_flaw one other pair = (
    Unordered pair.first pair.second,
    (places_before state settled.consistent.is_state.order one other pair.first pair.second pair.before pair.first_at pair.second_at, pair.unordered),
  )

  no_pair : (one other : TokenName) → ((m n : ℕ) → IsPairAt model decisions state m n → ⊥) → IsFlaw model decisions state (Unordered one other) → ⊥
  no_pair one other none is =
      let first = get_from_contains state.tokens one (token_there one is.1.share.one_on.0 is.1.share.one_on.1) in
      let second = get_from_contains state.tokens other (token_there other is.1.share.other_on.0 is.1.share.other_on.1) in
      none first.0 second.0 (record {
        before = less first.0 second.0 first.1 second.1;
        first = one;
        second = other;
        first_at = first.1;
        second_at = second.1;
        unordered = is.1;
      })
    where
      token_there : (token : TokenName) (domain : Domain) → Gives state (variables.Token token Object) domain → Contains state.tokens token
      token_there token domain gives = ((settled.consistent.is_state.variables (variables.Token token Object)).1 (domain, gives)).0

      less : (m n : ℕ) → IsTokenAt state m one → IsTokenAt state n other → m < n
      less m n at at' = elim (cases_lt m n) [
        | inl below ↦ below
        | inr not ↦ elim (cases_lt n m) [
          | inl above ↦
              let back = places_before state settled.consistent.is_state.order n m other one above at' at in
              absurd (token_order.irreflexive one (token_order.transitive one other one is.0 back))
          | inr neither ↦
              let same : m ≡ n = omega arith in
              let tokens = one_at state n one other (subst (λ k. IsTokenAt state k one) same at) at' in
              absurd (token_order.irreflexive other (subst (λ t. IsTokenBefore t other) tokens is.0))
        ]
      ]

  pub no_flaw : (plan : Plan) → IsOrderedPlan model decisions state plan → ((m n : ℕ) → IsPairAt model decisions state m n → ⊥) → HasFlaw model decisions state → ⊥
  no_flaw plan is none (flaw, has) = clear flaw has (is.clear flaw has)
    where
      clear : (f : Flaw) → IsFlaw model decisions state f → IsUnorderedFlaw f → ⊥
      clear (Unordered one other) has' sort = no_pair one other none has'
      clear (Undecided token) has' sort = sort
      clear (Undetermined name) has' sort = sort
      clear (Untimed name) has' sort = sort

  pub record Answers (result : Result Plan PlanOfFault) : Type 0 where
    pub plan : IfOk result (IsStatePlan model decisions state)
    pub of_model : IfOk result (IsPlanOf model)
    pub flawless : IfOk result (λ _. HasFlaw model decisions state → ⊥)
    pub flawed : result ≡ Err Open → HasFlaw model decisions state

  pub answers : (known : Model) (result : Result Plan PlanOfFault) → known ≡ model → ((m n : ℕ) → IsPairAt model decisions state m n → ⊥)
      → MatchResult result (IsOrderedPlan known decisions state) (λ fault. fault ≡ Open → HasFlaw known decisions state) → Answers result
  answers known (Ok plan) same none is =
      let ordered = subst (λ m. IsOrderedPlan m decisions state plan) same is in
      record { plan = ordered.is_plan; of_model = ordered.of_model; flawless = no_flaw plan ordered none; flawed = λ e. absurd (cc) }
  answers known (Err fault) same none is = record {
    plan = tt;
    of_model = tt;
    flawless = tt;
    flawed = λ e. subst (λ m. HasFlaw m decisions state) same (is (fault_of (Err fault) fault Open refl e));
  }
