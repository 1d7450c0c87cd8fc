-- The lines of all tokens and the values of all globals make the plan of a state.
use Rattle.std.proofs.Common.{◌≡◌, ℕ, ◌<◌, ◌^◌, List, [], length, Some, ℤ, ◌⊎◌, inl, inr, refl, sym, ap, ◌∙◌, subst, arith}
use Rattle.std.specs.Prelude.{Contains, AllPairs, slice_get}
use Rattle.domain_core.specs.Domain.{Domain, IsSingle}
use Rattle.eu_name.specs.declared.name.Part.{Part}
use Rattle.eu_name.specs.declared.name.Part.TheVariants.{Start}
use Rattle.eu_name.specs.declared.name.TokenName.{TokenName}
use Rattle.eu_name.specs.declared.name.VarName.{VarName}
use Rattle.eu_name.specs.declared.name.VarName.TheVariants as variables
use Rattle.eu_name.proofs.Members.{get_within, get_all, get_from_contains, contains_from_get}
use Rattle.model_core.specs.declared.decision.Decision.{Decision}
use Rattle.model_core.specs.declared.model.Model.{Model}
use Rattle.model_core.specs.declared.rule.Rule.{Rule}
use Rattle.model_core.specs.declared.rule.Slot.{Slot}
use Rattle.model_core.specs.declared.variable.VarDecl.{VarDecl}
use Rattle.model_core.specs.Decided.{IsRejected}
use Rattle.model_core.specs.Lawful.{IsToken}
use Rattle.model_core.specs.State.{State, Gives, StandsOpen, IsBlockOf}
use Rattle.model_core.specs.Tokens.{HasToken, HasRule}
use Rattle.model_core.proofs.Leading.{token_once}
use Rattle.plan_defs.specs.declared.plan.Line.{Line}
use Rattle.plan_defs.specs.declared.plan.Line.TheVariants as lines
use Rattle.plan_defs.specs.declared.plan.Plan.{Plan}
use Rattle.plan_defs.specs.Plans.{IsLineOf, IsLineBefore, order_name}
use Rattle.plan_defs.specs.Terms.{BelongsTo}
use Rattle.plan_defs.proofs.Members.{all_from_get}
use Rattle.plan_defs.proofs.States.{gives_same}
use Rattle.plan_defs.specs.Flaws.{Flaw, Undecided, Undetermined, Unordered, Untimed, IsFlaw, IsUnbound}
use Rattle.plan_defs.specs.StatePlans.{GivesOnly, IsLineIn, IsSettledState}
use Rattle.plan_defs.specs.Surveying.{AreMeant, Surveys, AreGlobalValues, IsFlawOf, IsLineOfToken, IsLineOfPlaces, IsFlawOfPlaces, IsUnorderedFlaw, IsOrderedPlan, IsOwnLine, IsOwnFlaw, IsLocalsLine, IsLocalsFlaw}
use Rattle.plan_defs.proofs.Admitting.{token_of_state, target_of_model}
use Rattle.plan_defs.proofs.Determining.{value_once, part_value}
use Rattle.plan_states.proofs.Following.{own_first}
use Rattle.plan_states.proofs.Gathering.{surveys_both, surveys_same}
use Rattle.plan_defs.proofs.Kinding.{token_values, local_value, global_value, pred_of_slot}
use Rattle.plan_defs.proofs.Stating.{takes_not_rejected}

module _ (model : Model) (decisions : List Decision) (state : State) (settled : IsSettledState model decisions state) where
  -- ---- which tokens and locals a state has

  -- a local of the state is one of a token of it
  record HasLocalThere (token : TokenName) (rule number : ℕ) : Type 0 where
    there : Contains state.tokens token
    slot : Slot
    has_token : HasToken model token slot
    found : Rule
    has_rule : HasRule model slot.pred rule found
    variable : VarDecl
    declared : slice_get found.locals number ≡ Some variable

  local_there : (token : TokenName) (rule number : ℕ) (domain : Domain) → Gives state (variables.Local token rule number) domain → HasLocalThere token rule number
  local_there token rule number domain gives =
      let stands : StandsOpen model state token rule number = (settled.consistent.is_state.variables (variables.Local token rule number)).1 (domain, gives) in
      let at = get_from_contains state.blocks stands.block stands.is_open in
      let block : IsBlockOf model state stands.block = get_all (IsBlockOf model state) state.blocks at.0 stands.block settled.consistent.is_state.blocks at.1 in
      let base = (settled.consistent.in_base (variables.Local token rule number) domain gives).1 in
      record {
        there = subst (λ t. Contains state.tokens t) stands.of_token block.0;
        slot = base.slot;
        has_token = base.has_token;
        found = base.has_local.found;
        has_rule = base.has_local.has_rule;
        variable = base.variable;
        declared = base.has_local.declared;
      }

  -- so its rule and its number are below the counts of the token's predicate
  pub local_below : (token : TokenName) (slot : Slot) (rule number : ℕ) (domain : Domain) → HasToken model token slot → Gives state (variables.Local token rule number) domain
      → (found : Rule) × HasRule model slot.pred rule found × ((variable : VarDecl) × (slice_get found.locals number ≡ Some variable))
  local_below token slot rule number domain has gives =
      let local = local_there token rule number domain gives in
      let slots = token_once model token local.slot slot local.has_token has in
      (local.found, subst (λ (s : Slot). HasRule model s.pred rule local.found) slots local.has_rule, (local.variable, local.declared))

  -- ---- lines of the state

  of_token : (token : TokenName) (line : Line) → Contains state.tokens token → IsLineIn model decisions state line → BelongsTo (order_name line) token
      → IsLineOfPlaces model decisions state line
  of_token token line there is belongs =
      let at = get_from_contains state.tokens token there in (at.0, (token, at.1, (is, belongs)))

  line_there : (line : Line) → IsLineIn model decisions state line → IsLineOfPlaces model decisions state line
  line_there (lines.Token token fact values) is = of_token token (lines.Token token fact values) is.there is refl
  line_there (lines.Merged token target) is = of_token token (lines.Merged token target) is.0 is refl
  line_there (lines.Rejected token) is = of_token token (lines.Rejected token) is.0 is refl
  line_there (lines.Local (variables.Local token rule number) value) is =
      of_token token (lines.Local (variables.Local token rule number) value) (local_there token rule number is.1.0 is.1.1).there is refl
  line_there (lines.Local (variables.Token token part) value) is = absurd is
  line_there (lines.Local (variables.Global number) value) is = absurd is

  -- ---- lines of the model

  token_of : (token : TokenName) → Contains state.tokens token → IsToken model token
  token_of token there = token_of_state model state token settled.consistent.is_state there

  module _ (clear : (flaw : Flaw) → IsFlaw model decisions state flaw → IsUnorderedFlaw flaw) where
    line_of : (line : Line) → IsLineIn model decisions state line → IsLineOf model line
    line_of (lines.Token token fact values) is =
        let has = token_of token is.there in
        let pred = pred_of_slot model token has.0 settled.lawful has.1 in (
          has.0,
          has.1,
          token_values model settled.lawful state settled.consistent.in_base token has.0 pred.0 values has.1 pred.1 is.values_are
              (λ part base has_base.
              part_value model decisions state settled.consistent token has.0 is.there has.1
              (λ rejected. takes_not_rejected model decisions state settled fact token is.takes_place rejected) part base has_base clear),
        )
    line_of (lines.Merged token target) is = (token_of token is.0, target_of_model model decisions token target settled.settled is.1)
    line_of (lines.Rejected token) is = token_of token is.0
    line_of (lines.Local (variables.Local token rule number) value) is = local_value model settled.lawful state settled.consistent.in_base token rule number value is.1
    line_of (lines.Local (variables.Token token part) value) is = absurd is
    line_of (lines.Local (variables.Global number) value) is = absurd is

  -- ---- flaws of the state

  at_place : (token : TokenName) (flaw : Flaw) → Contains state.tokens token → IsFlawOf token flaw → IsFlawOfPlaces state flaw
  at_place token flaw there of = let at = get_from_contains state.tokens token there in (at.0, (token, at.1, of))

  -- the token that owns a variable that the state has
  part_there : (token : TokenName) (part : Part) (domain : Domain) → Gives state (variables.Token token part) domain → Contains state.tokens token
  part_there token part domain gives = ((settled.consistent.is_state.variables (variables.Token token part)).1 (domain, gives)).0

  module _ (globals : List ℤ) (are : AreGlobalValues model state globals) where
    -- each global that the state gives has its value
    global_given : (number : ℕ) (domain : Domain) → Gives state (variables.Global number) domain
        → (value : ℤ) × (slice_get globals number ≡ Some value) × GivesOnly state (variables.Global number) value
    global_given number domain gives =
        let below = (settled.consistent.is_state.variables (variables.Global number)).1 (domain, gives) in
        let got = get_within globals number (omega (arith, below, are.long)) in
        (got.0, got.1, are.are number got.0 got.1)

    no_global : (number : ℕ) → IsUnbound decisions state (variables.Global number) → ⊥
    no_global number is =
        let got = global_given number is.domain is.gives in
        let same = gives_same state settled.consistent.is_state.order (variables.Global number) got.2.0 is.domain got.2.1 is.gives in
        is.several got.0 (subst (λ d. IsSingle d got.0) same got.2.2)

    module _ (none : (flaw : Flaw) → IsFlawOfPlaces state flaw → IsFlaw model decisions state flaw → ⊥) where
      value_flaw : (name : VarName) → IsFlaw model decisions state (Undetermined name) → ⊥
      value_flaw (variables.Global number) is = no_global number is.1
      value_flaw (variables.Token token part) is =
          none (Undetermined (variables.Token token part)) (at_place token (Undetermined (variables.Token token part)) (part_there token part is.1.domain is.1.gives) refl) is
      value_flaw (variables.Local token rule number) is =
          none (Undetermined (variables.Local token rule number))
          (at_place token (Undetermined (variables.Local token rule number)) (local_there token rule number is.1.domain is.1.gives).there refl) is

      time_flaw : (name : VarName) → IsFlaw model decisions state (Untimed name) → ⊥
      time_flaw (variables.Global number) is = is.0
      time_flaw (variables.Local token rule number) is = is.0
      time_flaw (variables.Token token part) is =
          none (Untimed (variables.Token token part)) (at_place token (Untimed (variables.Token token part)) (part_there token part is.1.domain is.1.gives) refl) is

      only_unordered : (flaw : Flaw) → IsFlaw model decisions state flaw → IsUnorderedFlaw flaw
      only_unordered (Undecided token) is = absurd (none (Undecided token) (at_place token (Undecided token) is.0 refl) is)
      only_unordered (Undetermined name) is = absurd (value_flaw name is)
      only_unordered (Unordered one other) is = tt
      only_unordered (Untimed name) is = absurd (time_flaw name is)

    -- ---- the plan

    pub ordered_plan : (plan : Plan) (listed : List Line) → Surveys model decisions state (IsLineOfPlaces model decisions state) (IsFlawOfPlaces state) [] listed
        → plan.globals ≡ globals → plan.lines ≡ listed → length listed < 2 ^ 32 → IsOrderedPlan model decisions state plan
    ordered_plan plan listed surveys same_globals same_lines few = record {
      is_plan = record {
        globals = λ number value. (
          λ e. are.are number value (subst (λ list. slice_get list number ≡ Some value) same_globals e),
          λ has. subst (λ list. slice_get list number ≡ Some value) (sym same_globals) (value_there number value has),
        );
        lines = λ line. (
          λ there. said line (meant.only line (subst (λ list. Contains list line) same_more there)),
          λ is. subst (λ list. Contains list line) (sym same_more) (meant.each line (line_there line is)),
        );
        order = subst (λ list. AllPairs IsLineBefore list) (sym same_more) meant.order;
      };
      of_model = record {
        few_globals = omega (arith, ap length same_globals, are.long);
        globals = λ number value variable e is_global.
            global_value model settled.lawful state settled.consistent.in_base number value variable
            (are.are number value (subst (λ list. slice_get list number ≡ Some value) same_globals e)) is_global;
        few_lines = omega (arith, ap length same_lines, few);
        lines = all_from_get (IsLineOf model) plan.lines (λ k line e.
            line_of clear line (said line (meant.only line (subst (λ list. Contains list line) same_more (contains_from_get plan.lines k line e)))));
        order = subst (λ list. AllPairs IsLineBefore list) (sym same_more) meant.order;
      };
      clear = clear;
    }
      where
        meant : AreMeant (IsLineOfPlaces model decisions state) surveys.adds.0
        meant = surveys.adds.2

        same_more : plan.lines ≡ surveys.adds.0
        same_more = same_lines ∙ surveys.adds.1

        clear : (flaw : Flaw) → IsFlaw model decisions state flaw → IsUnorderedFlaw flaw
        clear = only_unordered surveys.clear

        said : (line : Line) → IsLineOfPlaces model decisions state line → IsLineIn model decisions state line
        said line is = is.1.2.0

        value_there : (number : ℕ) (value : ℤ) → GivesOnly state (variables.Global number) value → slice_get globals number ≡ Some value
        value_there number value has =
            let got = global_given number has.0 has.1 in
            let same : got.0 ≡ value = value_once state settled.consistent.is_state.order (variables.Global number) got.0 value got.2 has in
            subst (λ v. slice_get globals number ≡ Some v) same got.1

  -- ---- the lines of one token

  module _ (token : TokenName) where
    own_or_local : (line : Line) → IsLineOfToken model decisions state token line → IsOwnLine model decisions state token line ⊎ IsLocalsLine model decisions state token line
    own_or_local (lines.Token other fact values) (is, belongs) = inl (is, ap (λ t. variables.Token t Start) belongs)
    own_or_local (lines.Merged other target) (is, belongs) = inl (is, ap (λ t. variables.Token t Start) belongs)
    own_or_local (lines.Rejected other) (is, belongs) = inl (is, ap (λ t. variables.Token t Start) belongs)
    own_or_local (lines.Local (variables.Local other rule number) value) (is, belongs) =
        inr (rule, (number, (value, subst (λ t. GivesOnly state (variables.Local t rule number) value) belongs is.1, ap (λ t. lines.Local (variables.Local t rule number) value) belongs)))
    own_or_local (lines.Local (variables.Token other part) value) (is, belongs) = absurd is
    own_or_local (lines.Local (variables.Global number) value) (is, belongs) = absurd is

    own_of_token : (line : Line) → IsOwnLine model decisions state token line → IsLineOfToken model decisions state token line
    own_of_token line (is, named) = (is, subst (λ n. BelongsTo n token) (sym named) refl)

    local_of_token : (IsRejected decisions token → ⊥) → (line : Line) → IsLocalsLine model decisions state token line → IsLineOfToken model decisions state token line
    local_of_token kept line is =
        subst (λ l. IsLineOfToken model decisions state token l) (sym is.1.1.2) ((kept, is.1.1.1), refl)

    -- a flaw of the token is one of its own or of its locals
    own_or_local_flaw : (flaw : Flaw) → IsFlawOf token flaw → IsFlaw model decisions state flaw → IsOwnFlaw token flaw ⊎ IsLocalsFlaw model decisions state token flaw
    own_or_local_flaw (Undecided other) of is = inl of
    own_or_local_flaw (Undetermined (variables.Global number)) of is = absurd of
    own_or_local_flaw (Undetermined (variables.Token other part)) of is = inl (part, ap (λ t. variables.Token t part) of)
    own_or_local_flaw (Undetermined (variables.Local other rule number)) of is =
        inr (rule, (number, ap (λ t. Undetermined (variables.Local t rule number)) of))
    own_or_local_flaw (Unordered one other) of is = absurd of
    own_or_local_flaw (Untimed (variables.Global number)) of is = absurd of
    own_or_local_flaw (Untimed (variables.Token other part)) of is = inl (part, ap (λ t. variables.Token t part) of)
    own_or_local_flaw (Untimed (variables.Local other rule number)) of is = absurd is.0

    -- nothing is said of the locals of a rejected token, and none of them is a flaw
    rejected_only : IsRejected decisions token → (line : Line) → IsLineOfToken model decisions state token line → IsOwnLine model decisions state token line
    rejected_only rejected (lines.Token other fact values) (is, belongs) = (is, ap (λ t. variables.Token t Start) belongs)
    rejected_only rejected (lines.Merged other target) (is, belongs) = (is, ap (λ t. variables.Token t Start) belongs)
    rejected_only rejected (lines.Rejected other) (is, belongs) = (is, ap (λ t. variables.Token t Start) belongs)
    rejected_only rejected (lines.Local (variables.Local other rule number) value) (is, belongs) =
        absurd (is.0 (subst (λ t. IsRejected decisions t) (sym belongs) rejected))
    rejected_only rejected (lines.Local (variables.Token other part) value) (is, belongs) = absurd is
    rejected_only rejected (lines.Local (variables.Global number) value) (is, belongs) = absurd is

    rejected_flaw : IsRejected decisions token → (flaw : Flaw) → IsFlawOf token flaw → IsFlaw model decisions state flaw → IsOwnFlaw token flaw
    rejected_flaw rejected (Undecided other) of is = of
    rejected_flaw rejected (Undetermined (variables.Global number)) of is = absurd of
    rejected_flaw rejected (Undetermined (variables.Token other part)) of is = (part, ap (λ t. variables.Token t part) of)
    rejected_flaw rejected (Undetermined (variables.Local other rule number)) of is =
        absurd (is.1.kept (token, of, rejected))
    rejected_flaw rejected (Unordered one other) of is = absurd of
    rejected_flaw rejected (Untimed (variables.Global number)) of is = absurd of
    rejected_flaw rejected (Untimed (variables.Token other part)) of is = (part, ap (λ t. variables.Token t part) of)
    rejected_flaw rejected (Untimed (variables.Local other rule number)) of is = absurd is.0

    pub token_kept : (a b c : List Line) → (IsRejected decisions token → ⊥)
        → Surveys model decisions state (IsOwnLine model decisions state token) (IsOwnFlaw token) a b
        → Surveys model decisions state (IsLocalsLine model decisions state token) (IsLocalsFlaw model decisions state token) b c
        → Surveys model decisions state (IsLineOfToken model decisions state token) (IsFlawOf token) a c
    token_kept a b c kept own locals =
        surveys_both model decisions state (IsOwnLine model decisions state token) (IsLocalsLine model decisions state token) (IsLineOfToken model decisions state token)
        (IsOwnFlaw token) (IsLocalsFlaw model decisions state token) (IsFlawOf token) a b c own_of_token (local_of_token kept) own_or_local own_or_local_flaw
        (own_first model decisions state token) own locals

    pub token_rejected : (a b : List Line) → IsRejected decisions token
        → Surveys model decisions state (IsOwnLine model decisions state token) (IsOwnFlaw token) a b
        → Surveys model decisions state (IsLineOfToken model decisions state token) (IsFlawOf token) a b
    token_rejected a b rejected own =
        surveys_same model decisions state (IsOwnLine model decisions state token) (IsLineOfToken model decisions state token) (IsOwnFlaw token) (IsFlawOf token) a b
        own_of_token (rejected_only rejected) (rejected_flaw rejected) own
