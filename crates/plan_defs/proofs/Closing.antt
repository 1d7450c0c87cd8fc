-- The own state of a valid plan is propagated for the decisions that the plan agrees with.
use Rattle.std.proofs.Common.{◌≡◌, ◌≢◌, ℕ, ◌+◌, ◌<◌, ◌⊎◌, ℤ, ◌≤ℤ◌, true, false, List, [], ◌∷◌, ◌++◌, length, Some, ⊎_elim, inl, inr, refl, sym, ap, ◌∙◌, subst, arith}
use Rattle.std.specs.Prelude.{AllPairs, Contains, slice_get, ⊤}
use Rattle.std.specs.List.{AllZip}
use Rattle.std.proofs.lemmas.Bool.{cases_lt}
use Rattle.std.proofs.lemmas.Int.{ints}
use Rattle.std.proofs.lemmas.List.{length-map}
use Rattle.std.proofs.lemmas.List.Elements.{All-contains}
use Rattle.std.proofs.lemmas.Slice.Zip.{AllZip-long}
use Rattle.domain_core.specs.Domain.{Domain, Range, Has}
use Rattle.domain_core.proofs.Words.{single_least, single_greatest}
use Rattle.eu_name.specs.declared.name.Part.{Part}
use Rattle.eu_name.specs.declared.name.Part.TheVariants.{Start, End, Duration, Object, Param}
use Rattle.eu_name.specs.declared.name.Step.{Step}
use Rattle.eu_name.specs.declared.name.TokenName.{TokenName}
use Rattle.eu_name.specs.declared.name.VarName.{VarName}
use Rattle.eu_name.specs.declared.name.VarName.TheVariants.{Token, Local, Global}
use Rattle.model_core.specs.declared.decision.Decision.{Decision}
use Rattle.model_core.specs.declared.decision.Decision.TheVariants.{Specify, Activate, Merge, Reject, Order, Constrain, Relate}
use Rattle.model_core.specs.declared.item.Term.{Term}
use Rattle.model_core.specs.declared.model.Model.{Model}
use Rattle.model_core.specs.declared.model.Root.{Root}
use Rattle.model_core.specs.declared.model.RootKind.{RootKind}
use Rattle.model_core.specs.declared.model.RootKind.TheVariants.{Goal, Rejectable, Fact}
use Rattle.model_core.specs.declared.rule.Guard.{Guard}
use Rattle.model_core.specs.declared.rule.Rule.{Rule}
use Rattle.model_core.specs.declared.rule.Side.{Side}
use Rattle.model_core.specs.declared.rule.Side.TheVariants.{Then, Otherwise}
use Rattle.model_core.specs.declared.rule.Slot.{Slot}
use Rattle.model_core.specs.declared.rule.Turn.{Turn}
use Rattle.model_core.specs.declared.variable.Base.{Base}
use Rattle.model_core.specs.declared.variable.Base.TheVariants.{Given}
use Rattle.model_core.specs.Blocks.{TokenBlock, Follows, HasBlock, OfBranch, OfLocal, OfItem, chosen, direct}
use Rattle.domain_core.specs.Constraints.{Holds, reach_of}
use Rattle.model_core.specs.Decided.{IsTaken, IsActive}
use Rattle.model_core.specs.Entries.{Entries}
use Rattle.model_core.specs.Kinds.{IsValueOf}
use Rattle.model_core.specs.Lawful.{IsLawful}
use Rattle.model_core.specs.State.{State, Gives, StandsOpen}
use Rattle.model_core.specs.Tokens.{HasToken, HasRule, IsRoot, IsRejectable, root_token, slot_token}
use Rattle.model_core.specs.Variables.{HasPartBase}
use Rattle.model_core.proofs.Leading.{token_once}
use Rattle.model_core.proofs.Numbering.{items_numbered}
use Rattle.model_core.proofs.Rules.{has_rule_once}
use Rattle.plan_defs.specs.declared.plan.Clause.TheVariants.{V1, V2, V3, V4, V5, V6, V7, V8}
use Rattle.plan_defs.specs.declared.plan.Line as the_line
use Rattle.plan_defs.specs.declared.plan.Line.TheVariants as lines
use Rattle.plan_defs.specs.declared.plan.Place.TheVariants as places
use Rattle.plan_defs.specs.declared.plan.Plan.{Plan}
use Rattle.plan_defs.specs.Broken.{AgreesWith, IsTrueIn}
use Rattle.plan_defs.specs.Claims.{Claim, IsClaim, IsOfProblem, IsOfBlock, IsOfToken, IsOfMerge, IsOfOrder, Posts, HasPart, lasts, equal, part_of, at_most}
use Rattle.plan_defs.specs.Closure.{IsPropagatedState, IsRespected}
use Rattle.plan_defs.specs.Consistency.{IsClaimConsistent, HasField}
use Rattle.plan_defs.specs.PlanStates.{HasLine, IsPlanState, HasPlanValues}
use Rattle.plan_defs.specs.Plans.{IsPlanOf, IsLineBefore, IsLineOf, AreTokenValues, value_kinds, TakesPlaceWith, IsActivatedIn, IsTakenIn, HasPartValue, GivesValue, place_in_values, plan_situation}
use Rattle.plan_defs.specs.Situations.{situation_of}
use Rattle.plan_defs.specs.Support.{MayBe, Opens, IsOpen, AsksFor, IsSupportedToken, front_token, one_side, other_side}
use Rattle.plan_defs.specs.Terms.{Context, InRule, Argument, Value, Variable, HasDomain, Counts, ArgumentCounts}
use Rattle.plan_defs.specs.Timelines.{IsTimeline, ShareTimeline, EndsTooLate, CanEndBefore, IsOn}
use Rattle.plan_defs.specs.Valid.{IsValid, IsLineAt, Becomes, SuitsToken, SuitsMerge, HasDeclaredValue, AsksForLocal, IsAsked, IsLineOfSort, IsClaimTrue, HasArgumentValue, EndsBy}
use Rattle.plan_defs.proofs.Lower.{Follows-map, HasBlock-map, counts_further, says_further}
use Rattle.eu_name.proofs.Members.{get_from_contains, get_below, get_within}
use Rattle.plan_defs.proofs.Saying.{own_or_merged, own_or_rejected, taken_or_rejected, one_target}
use Rattle.plan_defs.proofs.Singles.{IsJust, just_value, just_domain, just_consistent}
use Rattle.plan_defs.proofs.States.{gives_domain}

-- ---- a way leads to one block

chosen_same : (side : Side) (a b x y : Entries) → a ≡ x → b ≡ y → chosen side a b ≡ chosen side x y
chosen_same Then a b x y p q = p
chosen_same Otherwise a b x y p q = q

first_block : (g h : Guard) (a b x y : Entries) → Some (OfBranch g a b) ≡ Some (OfBranch h x y) → a ≡ x
first_block g h a b x y e = cc

second_block : (g h : Guard) (a b x y : Entries) → Some (OfBranch g a b) ≡ Some (OfBranch h x y) → b ≡ y
second_block g h a b x y e = cc

follows_once : (P Q : Guard → Side → Type 0) (top : Entries) (path : List Turn) (block other : Entries) → Follows P top path block → Follows Q top path other → block ≡ other
follows_once P Q top [] block other p q = p ∙ sym q
follows_once P Q top (turn ∷ path) block other p q =
    let e : Some (OfBranch p.0 p.1.0 p.1.1) ≡ Some (OfBranch q.0 q.1.0 q.1.1) = sym p.1.2.0 ∙ q.1.2.0 in
    let same = chosen_same turn.side p.1.0 p.1.1 q.1.0 q.1.1 (first_block p.0 q.0 p.1.0 p.1.1 q.1.0 q.1.1 e) (second_block p.0 q.0 p.1.0 p.1.1 q.1.0 q.1.1 e) in
    follows_once P Q (chosen turn.side p.1.0 p.1.1) path block other p.1.2.1.1
    (subst (λ (t : Entries). Follows Q t path other) (sym same) q.1.2.1.1)

block_once : (model : Model) (P Q : Guard → Side → Type 0) (block : TokenBlock) (one other : Entries) → HasBlock model P block one → HasBlock model Q block other → one ≡ other
block_once model P Q block one other p q =
    let slots = token_once model block.token p.slot q.slot p.has_token q.has_token in
    let moved : HasRule model p.slot.pred block.rule q.rule = subst (λ (s : Slot). HasRule model s.pred block.rule q.rule) (sym slots) q.has_rule in
    let rules = has_rule_once model p.slot.pred block.rule p.rule q.rule p.has_rule moved in
    follows_once P Q p.rule.top block.path one other p.way (subst (λ (r : Rule). Follows Q r.top block.path other) (sym rules) q.way)

-- ---- the last step of a name

-- there is none, or there is a last one
pub record LastStep (steps : List Step) : Type 0 where
  pub front : List Step
  pub step : Step
  pub are : steps ≡ front ++ step ∷ []

pub last_step : (steps : List Step) → (steps ≡ []) ⊎ LastStep steps
last_step [] = inl refl
last_step (step ∷ steps) = elim (last_step steps) [
  | inl none ↦ inr (record { front = []; step = step; are = ap (λ (more : List Step). step ∷ more) none })
  | inr last ↦ inr (record { front = step ∷ last.front; step = last.step; are = ap (λ (more : List Step). step ∷ more) last.are })
]

pub taken_line : (plan : Plan) (token : TokenName) → IsTakenIn plan token → HasLine plan token
taken_line plan token (inl takes) = inl (takes.0, (false, takes.1))
taken_line plan token (inr merged) = inr (inl merged)

becomes_line : (plan : Plan) (kind : RootKind) (token : TokenName) → Becomes plan kind token → HasLine plan token
becomes_line plan Fact token is = inl (is.0, (true, is.1))
becomes_line plan Goal token is = taken_line plan token is
becomes_line plan Rejectable token (inl taken) = taken_line plan token taken
becomes_line plan Rejectable token (inr rejected) = inr (inr rejected)

module _ (plan : Plan) (order : AllPairs IsLineBefore plan.lines) where
  rejected_kind : (kind : RootKind) (token : TokenName) → Becomes plan kind token → Contains plan.lines (lines.Rejected token) → kind ≡ Rejectable
  rejected_kind Fact token is rejected = absurd (own_or_rejected plan order token is.0 (true, is.1) rejected)
  rejected_kind Goal token is rejected = absurd (taken_or_rejected plan order token is rejected)
  rejected_kind Rejectable token is rejected = refl

  fact_line : (kind : RootKind) (token : TokenName) → kind ≡ Fact → Becomes plan kind token → (values : List ℤ) × TakesPlaceWith plan token values
  fact_line Fact token e is = (is.0, (true, is.1))
  fact_line Goal token e is = absurd (cc)
  fact_line Rejectable token e is = absurd (cc)

-- ---- which parts have values

part_base : (model : Model) (slot : Slot) (number : ℕ) (values : List ℤ) (part : Part) (value : ℤ)
    → slot.pred ≡ number → AreTokenValues model number values → slice_get values (place_in_values part) ≡ Some value
    → (base : Base) × HasPartBase model slot part base
part_base model slot number values Start value e are at = (Given (Range model.problem.start model.problem.end), refl)
part_base model slot number values End value e are at = (Given (Range model.problem.start model.problem.end), refl)
part_base model slot number values Duration value e are at = (Given _, refl)
part_base model slot number values Object value e are at = (slot.object, refl)
part_base model slot number values (Param place) value e are at =
    let long : length values ≡ length (value_kinds are.0) = AllZip-long (IsValueOf model) (value_kinds are.0) values are.2 in
    let mapped = length-map are.0.params (λ variable. variable.kind) in
    let below = get_below values (4 + place) value at in
    let found = get_within are.0.params place (omega (arith, long, mapped, below)) in
    (found.0.base, (found.0, record { predicate = are.0; is_predicate = subst (λ n. slice_get model.preds n ≡ Some are.0) (sym e) are.1; declared = found.1 }, refl))

module _ (model : Model) (decisions : List Decision) (plan : Plan) (state : State) (lawful : IsLawful model) (of_model : IsPlanOf model plan)
    (valid : IsValid model plan) (agrees : AgreesWith model plan decisions) (own : IsPlanState model plan state) where
  -- ---- lines

  pub place : (line : the_line.Line) → Contains plan.lines line → (number : ℕ) × IsLineAt plan number line
  place line there = get_from_contains plan.lines line there

  pub line_of : (line : the_line.Line) → Contains plan.lines line → IsLineOf model line
  line_of line there = All-contains (IsLineOf model) plan.lines line of_model.lines there

  pub suits : (token : TokenName) (values : List ℤ) → TakesPlaceWith plan token values → SuitsToken model plan token
  suits token values takes =
      let line = lines.Token token takes.0 values in
      let at = place line takes.1 in
      valid V3 (places.Line at.0) line at.1

  pub merges : (token target : TokenName) → Contains plan.lines (lines.Merged token target) → SuitsMerge model plan token target
  merges token target there =
      let line = lines.Merged token target in
      let at = place line there in
      valid V4 (places.Line at.0) line at.1

  pub asked : (line : the_line.Line) → Contains plan.lines line → IsAsked model plan line
  asked line there = let at = place line there in valid V6 (places.Line at.0) line at.1

  pub of_sort : (line : the_line.Line) → Contains plan.lines line → IsLineOfSort line
  of_sort line there = let at = place line there in valid V2 (places.Line at.0) line at.1

  pub root_becomes : (token : TokenName) (root : Root) → token.steps ≡ [] → IsRoot model token.root root → Becomes plan root.kind token
  root_becomes token root none is =
      let same : root_token token.root ≡ token = λ i. record { root = token.root; steps = sym none i } in
      subst (λ (t : TokenName). Becomes plan root.kind t) same (valid V2 (places.Root token.root) root is)

  rejected_root : (token : TokenName) → Contains plan.lines (lines.Rejected token) → IsRejectable model token
  rejected_root token there =
      let none = of_sort (lines.Rejected token) there in
      let has = (line_of (lines.Rejected token) there).1 in
      (none, (has.root, has.is_root, rejected_kind plan of_model.order has.root.kind token (root_becomes token has.root none has.is_root) there))

  pub agrees_taken : (token : TokenName) → IsTaken decisions token → IsTakenIn plan token
  agrees_taken token (inl activated) = inl (agrees (Activate token) activated)
  agrees_taken token (inr merged) = inr (merged.0, agrees (Merge token merged.0) merged.1)

  -- ---- values

  part_value : (token : TokenName) (part : Part) → HasLine plan token → HasPart model token part → Counts model (IsTakenIn plan) (Token token part)
      → HasDeclaredValue model plan (Token token part)
  part_value token part (inl takes) has counts = (suits token takes.0 takes.1).parts part has
  part_value token part (inr (inl merged)) has counts = (merges token merged.0 merged.1).parts part has
  part_value token part (inr (inr rejected)) has counts =
      absurd (taken_or_rejected plan of_model.order token (counts token refl (rejected_root token rejected)) rejected)

  local_value : (token : TokenName) (rule number : ℕ) → StandsOpen model state token rule number → HasDeclaredValue model plan (Local token rule number)
  local_value token rule number stands =
      let found = (own.blocks stands.block).0 stands.is_open in
      let same = block_once model _ _ stands.block found.0 stands.entries found.1.has_block stands.is_block in
      let is : stands.block ≡ record { token = token; rule = rule; path = stands.block.path } = λ i. record { token = stands.of_token i; rule = stands.of_rule i; path = stands.block.path } in
      let asks : AsksForLocal model plan token rule number = record {
        path = stands.block.path;
        entries = found.0;
        is_open = subst (λ (b : TokenBlock). IsOpen model (plan_situation plan) b found.0) is found.1;
        stands = subst (λ (e : Entries). Contains (direct e) (OfLocal number)) (sym same) stands.stands;
      } in
      let activated : IsActivatedIn plan token = asks.is_open.activated in
      let at = place (lines.Token token false activated.0) activated.1 in
      valid V5 (places.Local at.0 rule number) token (activated.0, at.1) asks

  pub valued : (name : VarName) (domain : Domain) → Gives state name domain → Counts model (IsTakenIn plan) name → HasDeclaredValue model plan name
  valued (Global number) domain gives counts =
      valid V1 (places.Global number) ((own.is_state.variables (Global number)).1 (domain, gives))
  valued (Token token part) domain gives counts =
      let about = (own.is_state.variables (Token token part)).1 (domain, gives) in
      let base = about.1 in
      part_value token part ((own.tokens token).0 about.0) (base.1.0, base.1.1, (base.0, base.1.2)) counts
  valued (Local token rule number) domain gives counts =
      local_value token rule number ((own.is_state.variables (Local token rule number)).1 (domain, gives))

  given_part : (token : TokenName) (part : Part) (base : Base) (slot : Slot) → HasLine plan token → HasToken model token slot → HasPartBase model slot part base
      → (domain : Domain) × Gives state (Token token part) domain
  given_part token part base slot line has is =
      (own.is_state.variables (Token token part)).0 ((own.tokens token).1 line, (base, (slot, has, is)))

  pub given : (name : VarName) (value : ℤ) → GivesValue plan name value → (domain : Domain) × Gives state name domain
  given (Global number) value gives =
      (own.is_state.variables (Global number)).0 (omega (arith, get_below plan.globals number value gives, of_model.few_globals))
  given (Token token part) value (inl (values, takes, at)) =
      let line = line_of (lines.Token token takes.0 values) takes.1 in
      let base = part_base model line.0 line.0.pred values part value refl line.2 at in
      given_part token part base.0 line.0 (inl (values, takes)) line.1 base.1
  given (Token token part) value (inr (target, merged, (values, takes, at))) =
      let line = line_of (lines.Token target takes.0 values) takes.1 in
      let same = (merges token target merged).same in
      let slots = token_once model target same.other_slot line.0 same.has_other line.1 in
      let preds : same.slot.pred ≡ line.0.pred = same.same ∙ ap (λ (s : Slot). s.pred) slots in
      let base = part_base model same.slot line.0.pred values part value preds line.2 at in
      given_part token part base.0 same.slot (inr (inl (target, merged))) same.has_one base.1
  given (Local token rule number) value gives =
      let asks = asked (lines.Local (Local token rule number) value) gives in
      let block : TokenBlock = record { token = token; rule = rule; path = asks.path } in
      (own.is_state.variables (Local token rule number)).0 (record {
        block = block;
        is_open = (own.blocks block).1 (asks.entries, asks.is_open);
        of_token = refl;
        of_rule = refl;
        entries = asks.entries;
        is_block = HasBlock-map model _ (λ guard side. ⊤) (λ guard side opens. tt) block asks.entries asks.is_open.has_block;
        stands = asks.stands;
      })

  pub values_kept : HasPlanValues plan state
  values_kept name value gives = let found = given name value gives in (found.0, found.1, (own.values name value found.0 gives found.1).has)

  -- ---- what is open for the decisions is open in the plan

  argument_in : (argument : Argument) (domain : Domain) → HasDomain (Gives state) argument domain → ArgumentCounts model (IsTakenIn plan) argument
      → (smaller : Domain) × (HasDomain (plan_situation plan).gives argument smaller × ((v : ℤ) → Has smaller v → Has domain v))
  argument_in (Value value) domain is counts = (domain, (is, λ v has. has))
  argument_in (Variable name) domain is counts =
      let found = valued name domain is counts in
      let single = own.values name found.0 domain found.1 is in (
        Range found.0 found.0,
        (
          (found.0, found.1, refl),
          λ v has.
              let same : found.0 ≡ v = omega (arith, ints, has.0, has.1) in
              subst (λ w. Has domain w) same single.has,
        ),
      )

  term_in : (context : Context) (term : Term) (domain : Domain) → MayBe model (situation_of decisions state) context term domain
      → (smaller : Domain) × (MayBe model (plan_situation plan) context term smaller × ((v : ℤ) → Has smaller v → Has domain v))
  term_in context term domain is =
      let counts = counts_further model (IsTaken decisions) (IsTakenIn plan) agrees_taken is.argument is.counts in
      let found = argument_in is.argument domain is.has counts in
      (found.0, (record { argument = is.argument; means = is.means; counts = counts; has = found.1.0 }, found.1.1))

  opens_in : (context : Context) (guard : Guard) (side : Side) → Opens model (situation_of decisions state) context guard side → Opens model (plan_situation plan) context guard side
  opens_in context guard side p =
      let one = term_in context (one_side guard) p.one p.is_one in
      let other = term_in context (other_side guard) p.other p.is_other in
      record {
        one = one.0;
        other = other.0;
        is_one = one.1.0;
        is_other = other.1.0;
        always = λ v w has_v has_w. p.always v w (one.1.1 v has_v) (other.1.1 w has_w);
      }

  pub open_in : (block : TokenBlock) (entries : Entries) → IsOpen model (situation_of decisions state) block entries → IsOpen model (plan_situation plan) block entries
  open_in block entries p = record {
    activated = agrees (Activate block.token) p.activated;
    has_block = HasBlock-map model _ _ (opens_in (InRule block.token block.rule)) block entries p.has_block;
  }

  slot_line : (token : TokenName) (last : LastStep token.steps) → AsksFor model (plan_situation plan) (front_token token last.front) last.step → HasLine plan token
  slot_line token last asks =
      let activated : IsActivatedIn plan (front_token token last.front) = asks.is_open.activated in
      let at = place (lines.Token (front_token token last.front) false activated.0) activated.1 in
      let taken = valid V5 (places.Slot at.0 last.step.rule last.step.slot) (front_token token last.front) (activated.0, at.1) asks in
      let same : slot_token (front_token token last.front) last.step.rule last.step.slot ≡ token = λ i. record { root = token.root; steps = sym last.are i } in
      taken_line plan token (subst (λ (t : TokenName). IsTakenIn plan t) same taken)

  token_line : (token : TokenName) → IsSupportedToken model (situation_of decisions state) token → HasLine plan token
  token_line token p = elim (last_step token.steps) [
    | inl none ↦ becomes_line plan p.root.kind token (root_becomes token p.root none p.is_root)
    | inr last ↦
        let asks = p.asked last.front last.step [] last.are in
        slot_line token last (record {
          path = asks.path;
          entries = asks.entries;
          is_open = open_in (record { token = front_token token last.front; rule = last.step.rule; path = asks.path }) asks.entries asks.is_open;
          stands = asks.stands;
        })
  ]

  -- ---- what is true is consistent

  just_given : (name : VarName) (value : ℤ) → GivesValue plan name value → (domain : Domain) × (Gives state name domain × IsJust domain value)
  just_given name value gives =
      let found = given name value gives in
      (found.0, (found.1, just_domain found.0 value (gives_domain model state own.is_state name found.0 found.1) (own.values name value found.0 gives found.1)))

  just_argument : (argument : Argument) (value : ℤ) → HasArgumentValue plan argument value → (domain : Domain) × (HasDomain (Gives state) argument domain × IsJust domain value)
  just_argument (Value value) other is = (Range value value, (refl, subst (λ v. IsJust (Range value value) v) (sym is) (just_value value)))
  just_argument (Variable name) value is = just_given name value is

  record Justs (arguments : List Argument) (values : List ℤ) : Type 0 where
    domains : List Domain
    have : AllZip (HasDomain (Gives state)) arguments domains
    just : AllZip IsJust domains values

  justs : (arguments : List Argument) (values : List ℤ) → AllZip (HasArgumentValue plan) arguments values → Justs arguments values
  justs [] [] have = record { domains = []; have = tt; just = tt }
  justs [] (value ∷ values) have = absurd have
  justs (argument ∷ arguments) [] have = absurd have
  justs (argument ∷ arguments) (value ∷ values) have =
      let first = just_argument argument value have.0 in
      let rest = justs arguments values have.1 in
      record { domains = first.0 ∷ rest.domains; have = (first.1.0, rest.have); just = (first.1.1, rest.just) }

  consistent : (claim : Claim) → IsClaimTrue model plan claim → IsClaimConsistent model state claim
  consistent claim is =
      let found = justs claim.arguments is.values is.have in
      record {
        domains = found.domains;
        have = found.have;
        agree = just_consistent (reach_of claim.kind) (Holds (HasField model) claim.kind) found.domains is.values found.just is.holds;
      }

  -- ---- claims

  of_problem : (claim : Claim) → IsOfProblem model (IsTaken decisions) claim → IsClaimTrue model plan claim
  of_problem claim p =
      let at = get_from_contains model.problem.items p.item p.stands in
      valid V7 (places.Problem at.0) p.item at.1 claim (says_further model (IsTaken decisions) (IsTakenIn plan) agrees_taken _ p.item claim p.says)

  of_block : (claim : Claim) → IsOfBlock model (IsTaken decisions) (Contains state.blocks) claim → IsClaimTrue model plan claim
  of_block claim p =
      let found = (own.blocks p.block).0 p.is_open in
      let opened = found.1.has_block in
      let same = block_once model _ _ p.block found.0 p.entries opened p.has_block in
      let stands = get_from_contains (direct p.entries) (OfItem p.item) p.stands in
      let way = Follows-map _ (λ guard side. ⊤) (λ guard side opens. tt) opened.rule.top p.block.path found.0 opened.way in
      let number = items_numbered opened.rule p.block.path stands.0 p.item (record {
        block = found.0;
        way = way;
        stands = subst (λ (e : Entries). slice_get (direct e) stands.0 ≡ Some (OfItem p.item)) (sym same) stands.1;
      }) in
      let activated : IsActivatedIn plan p.block.token = found.1.activated in
      let at = place (lines.Token p.block.token false activated.0) activated.1 in
      valid V7 (places.Item at.0 p.block.rule number.0) p.block.token (activated.0, at.1)
      (record { path = p.block.path; place = stands.0; item = p.item }) found.0 found.1 claim number.1
      (says_further model (IsTaken decisions) (IsTakenIn plan) agrees_taken _ p.item claim p.says)

  -- a part of a merged token has its target's value
  target_value : (token target : TokenName) (part : Part) (value : ℤ) → Contains plan.lines (lines.Merged token target) → GivesValue plan (Token target part) value
      → GivesValue plan (Token token part) value
  target_value token target part value there (inl has) = inr (target, there, has)
  target_value token target part value there (inr other) =
      let takes = (merges token target there).there in
      absurd (own_or_merged plan of_model.order target other.0 takes.0 takes.1 other.1)

  value_of_target : (token target : TokenName) (part : Part) (value : ℤ) → Contains plan.lines (lines.Merged token target) → GivesValue plan (Token token part) value
      → GivesValue plan (Token target part) value
  value_of_target token target part value there (inl has) = absurd (own_or_merged plan of_model.order token target has.0 has.1 there)
  value_of_target token target part value there (inr other) =
      let same = one_target plan of_model.order token other.0 target other.1 there in
      inl (subst (λ (t : TokenName). HasPartValue plan t part value) same other.2)

  merged_lasts : (token target : TokenName) → Contains plan.lines (lines.Merged token target) → IsClaimTrue model plan (lasts target) → IsClaimTrue model plan (lasts token)
  merged_lasts token target there is = record { values = is.values; have = moved is.values is.have; holds = is.holds }
    where
      moved : (values : List ℤ) → AllZip (HasArgumentValue plan) (lasts target).arguments values → AllZip (HasArgumentValue plan) (lasts token).arguments values
      moved [] have = absurd have
      moved (a ∷ []) have = absurd have.1
      moved (a ∷ b ∷ []) have = absurd have.1.1
      moved (a ∷ b ∷ c ∷ []) have = (target_value token target Start a there have.0, (target_value token target Duration b there have.1.0, (target_value token target End c there have.1.1.0, tt)))
      moved (a ∷ b ∷ c ∷ d ∷ more) have = absurd have.1.1.1

  lasting : (token : TokenName) → HasLine plan token → IsClaimConsistent model state (lasts token)
  lasting token (inl takes) = consistent (lasts token) (suits token takes.0 takes.1).lasts
  lasting token (inr (inl merged)) =
      let takes = (merges token merged.0 merged.1).there in
      consistent (lasts token) (merged_lasts token merged.0 merged.1 (suits merged.0 takes.0 takes.1).lasts)
  lasting token (inr (inr rejected)) = own.rejected token rejected

  of_token : (claim : Claim) → IsOfToken state claim → IsClaimConsistent model state claim
  of_token claim p = subst (λ (c : Claim). IsClaimConsistent model state c) (sym p.says) (lasting p.token ((own.tokens p.token).0 p.there))

  of_merge : (claim : Claim) → IsOfMerge model decisions claim → IsClaimConsistent model state claim
  of_merge claim p =
      let there = agrees (Merge p.token p.target) p.merged in
      let found = (merges p.token p.target there).parts p.part p.has_part in
      subst (λ (c : Claim). IsClaimConsistent model state c) (sym p.says) (consistent (equal (part_of p.token p.part) (part_of p.target p.part)) (record {
        values = found.0 ∷ found.0 ∷ [];
        have = (found.1, (value_of_target p.token p.target p.part found.0 there found.1, tt));
        holds = refl;
      }))

  of_order : (claim : Claim) → IsOfOrder decisions claim → IsClaimConsistent model state claim
  of_order claim p =
      subst (λ (c : Claim). IsClaimConsistent model state c) (sym p.says)
      (consistent (at_most (part_of p.one End) (part_of p.other Start)) (agrees (Order p.one p.other) p.ordered))

  -- what a decision posts is true in the plan
  true_posted : (decision : Decision) (claim : Claim) → IsTrueIn model plan decision → Posts decision claim → IsClaimTrue model plan claim
  true_posted (Specify name value) claim is posts = absurd posts
  true_posted (Activate token) claim is posts = absurd posts
  true_posted (Merge token target) claim is posts = absurd posts
  true_posted (Reject token) claim is posts = absurd posts
  true_posted (Order one other) claim is posts = absurd posts
  true_posted (Constrain kind arguments) claim is posts = subst (λ (c : Claim). IsClaimTrue model plan c) (sym posts) is
  true_posted (Relate relation one other) claim is posts = is.holds claim posts

  claims : (claim : Claim) → IsClaim model decisions state claim → IsClaimConsistent model state claim
  claims claim (inl p) = consistent claim (of_problem claim p)
  claims claim (inr (inl p)) = consistent claim (of_block claim p)
  claims claim (inr (inr (inl p))) = of_token claim p
  claims claim (inr (inr (inr (inl p)))) = of_merge claim p
  claims claim (inr (inr (inr (inr (inl p))))) = of_order claim p
  claims claim (inr (inr (inr (inr (inr p))))) = consistent claim (true_posted p.decision claim (agrees p.decision p.stands) p.posts)

  respected : (decision : Decision) → Contains decisions decision → IsRespected decision state
  respected (Specify name value) there = λ domain gives. own.values name value domain (agrees (Specify name value) there) gives
  respected (Activate token) there = tt
  respected (Merge token target) there = tt
  respected (Reject token) there = tt
  respected (Order one other) there = tt
  respected (Constrain kind arguments) there = tt
  respected (Relate relation one other) there = tt

  -- ---- timelines

  pub active_line : (token : TokenName) → IsActive model decisions token → (values : List ℤ) × TakesPlaceWith plan token values
  active_line token (inl fact) = fact_line plan of_model.order fact.1.0.kind token fact.1.2 (root_becomes token fact.1.0 fact.0 fact.1.1)
  active_line token (inr activated) = let found = agrees (Activate token) activated in (found.0, (false, found.1))

  pub own_value : (token : TokenName) (part : Part) (values : List ℤ) → TakesPlaceWith plan token values → HasPart model token part → (value : ℤ) × HasPartValue plan token part value
  own_value token part values takes has =
      let found = (suits token values takes).parts part has in
      (found.0, not_merged found.0 found.1)
    where
      not_merged : (value : ℤ) → GivesValue plan (Token token part) value → HasPartValue plan token part value
      not_merged value (inl own_one) = own_one
      not_merged value (inr other) = absurd (own_or_merged plan of_model.order token other.0 values takes other.1)

  -- the object of a token that takes place and is surely on a timeline
  on_object : (token : TokenName) (timeline : ℤ) (values : List ℤ) → TakesPlaceWith plan token values → IsOn state token timeline → HasPartValue plan token Object timeline
  on_object token timeline values takes on =
      let line = line_of (lines.Token token takes.0 values) takes.1 in
      let found = own_value token Object values takes (line.0, line.1, (line.0.object, refl)) in
      let single = own.values (Token token Object) found.0 on.0 (inl found.1) on.1 in
      subst (λ v. HasPartValue plan token Object v) (sym (single.only timeline on.2.has)) found.1

  -- of two tokens at different places of the plan one comes first
  turns : (one other : TokenName) (values others : List ℤ) → one ≢ other → TakesPlaceWith plan one values → TakesPlaceWith plan other others
      → (timeline : ℤ) → IsTimeline model timeline → HasPartValue plan one Object timeline → HasPartValue plan other Object timeline
      → EndsBy model plan one other ⊎ EndsBy model plan other one
  turns one other values others apart takes taken timeline is one_on other_on =
      let at = place (lines.Token one takes.0 values) takes.1 in
      let at' = place (lines.Token other taken.0 others) taken.1 in
      ⊎_elim
      (λ (less : at.0 < at'.0). valid V8 (places.Pair at.0 at'.0) less one other (takes.0, (values, at.1)) (taken.0, (others, at'.1))
      (record { timeline = timeline; is_timeline = is; one_on = one_on; other_on = other_on }))
      (λ rest. ⊎_elim
      (λ (more : at'.0 < at.0). swap (valid V8 (places.Pair at'.0 at.0) more other one (taken.0, (others, at'.1)) (takes.0, (values, at.1))
      (record { timeline = timeline; is_timeline = is; one_on = other_on; other_on = one_on })))
      (λ not_more.
      let same : at.0 ≡ at'.0 = omega arith in
      let e : Some (lines.Token one takes.0 values) ≡ Some (lines.Token other taken.0 others) = sym at.1 ∙ subst (λ n. slice_get plan.lines n ≡ Some (lines.Token other taken.0 others)) (sym same) at'.1 in
      let f : one ≡ other = cc in
      absurd (apart f))
      (cases_lt at'.0 at.0))
      (cases_lt at.0 at'.0)
    where
      swap : EndsBy model plan other one ⊎ EndsBy model plan one other → EndsBy model plan one other ⊎ EndsBy model plan other one
      swap (inl p) = inr p
      swap (inr p) = inl p

  record Ordered (one other : TokenName) : Type 0 where
    end : ℤ
    start : ℤ
    ends : GivesValue plan (Token one End) end
    starts : GivesValue plan (Token other Start) start
    order : end ≤ℤ start

  ordered : (one other : TokenName) (values : List ℤ) → AllZip (HasArgumentValue plan) (at_most (part_of one End) (part_of other Start)).arguments values
      → Holds (HasField model) (at_most (part_of one End) (part_of other Start)).kind values → Ordered one other
  ordered one other [] have holds = absurd have
  ordered one other (a ∷ []) have holds = absurd have.1
  ordered one other (a ∷ b ∷ []) have holds = record { end = a; start = b; ends = have.0; starts = have.1.0; order = holds }
  ordered one other (a ∷ b ∷ c ∷ more) have holds = absurd have.1.1

  -- what ends by the start of the other doesn't end too late
  not_late : (one other : TokenName) → EndsBy model plan one other → EndsTooLate state one other → ⊥
  not_late one other is late =
      let found = ordered one other is.values is.have is.holds in
      let end = own.values (Token one End) found.end late.end found.ends late.gives_end in
      let start = own.values (Token other Start) found.start late.start found.starts late.gives_start in
      let e = single_least late.end found.end (gives_domain model state own.is_state (Token one End) late.end late.gives_end) end in
      let s = single_greatest late.start found.start (gives_domain model state own.is_state (Token other Start) late.start late.gives_start) start in
      omega (arith, ints, found.order, late.late, e, s)

  fit : (one other : TokenName) → ShareTimeline model decisions state one other → EndsTooLate state one other → CanEndBefore model state other one
  fit one other share late =
      let takes = active_line one share.one_active in
      let taken = active_line other share.other_active in
      ⊎_elim
      (λ first. absurd (not_late one other first late))
      (λ second. consistent (at_most (part_of other End) (part_of one Start)) second)
      (turns one other takes.0 taken.0 share.apart takes.1 taken.1 share.timeline share.is_timeline
      (on_object one share.timeline takes.0 takes.1 share.one_on) (on_object other share.timeline taken.0 taken.1 share.other_on))

  pub closed_but_resources : IsPropagatedState model decisions state
  closed_but_resources = record {
    is_state = own.is_state;
    tokens = λ token supported. (own.tokens token).1 (token_line token supported);
    blocks = λ block entries supported. (own.blocks block).1 (entries, open_in block entries supported.is_open);
    in_base = own.in_base;
    respected = respected;
    claims = claims;
    timelines = fit;
  }

-- the own state of a valid plan is propagated for what the plan agrees with
pub propagated_state : (model : Model) (decisions : List Decision) (plan : Plan) (state : State) → IsLawful model → IsPlanOf model plan → IsValid model plan
    → AgreesWith model plan decisions → IsPlanState model plan state → IsPropagatedState model decisions state × HasPlanValues plan state
propagated_state model decisions plan state lawful of_model valid agrees own =
    (closed_but_resources model decisions plan state lawful of_model valid agrees own, values_kept model decisions plan state lawful of_model valid agrees own)
