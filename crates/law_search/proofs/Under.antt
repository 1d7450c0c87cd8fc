-- What stands under two tokens that may change places, and what variables are given where they have.
use Rattle.std.proofs.Common.{◌≡◌, ◌≢◌, inl, inr, ℕ, ℤ, false, List, [], ◌∷◌, slice_index_or, refl, ap, ◌∙◌, subst}
use Rattle.std.specs.Prelude.{AllPairs, Contains}
use Rattle.std.proofs.lemmas.List.{append-nil}
use Rattle.std.proofs.lemmas.List.Elements.{All-contains}
use Rattle.eu_name.specs.declared.name.Step.{Step}
use Rattle.eu_name.specs.declared.name.TokenName.{TokenName}
use Rattle.eu_name.specs.declared.name.VarName.{VarName}
use Rattle.eu_name.specs.declared.name.VarName.TheVariants as names
use Rattle.eu_name.specs.NameOrder.{IsVarBefore}
use Rattle.eu_name.proofs.Members.{get_from_contains}
use Rattle.eu_name.proofs.Orders.{var_order}
use Rattle.model_core.specs.declared.decision.ConArg.TheVariants.{Var}
use Rattle.model_core.specs.declared.decision.Decision.{Decision}
use Rattle.model_core.specs.declared.decision.Decision.TheVariants.{Specify, Activate, Merge, Reject, Order, Constrain, Relate}
use Rattle.model_core.specs.declared.model.Model.{Model}
use Rattle.model_core.specs.Decided.{IsActivated, IsActive}
use Rattle.model_core.specs.State.{State}
use Rattle.plan_defs.specs.declared.plan.Clause.TheVariants.{V6}
use Rattle.plan_defs.specs.declared.plan.Line as the_line
use Rattle.plan_defs.specs.declared.plan.Line.TheVariants as lines
use Rattle.plan_defs.specs.declared.plan.Place.TheVariants as places
use Rattle.plan_defs.specs.declared.plan.Plan.{Plan}
use Rattle.plan_defs.specs.Broken.{AgreesWith}
use Rattle.plan_defs.specs.Closure.{IsLeast}
use Rattle.plan_defs.specs.Flaws.{Undecided, IsFlaw}
use Rattle.plan_defs.specs.Plans.{IsLineBefore, IsPlanOf, IsActivatedIn, GivesValue, order_name}
use Rattle.plan_defs.specs.Settling.{IsSettled}
use Rattle.plan_defs.specs.Support.{front_token}
use Rattle.plan_defs.specs.Valid.{IsValid, IsAsked}
use Rattle.plan_defs.proofs.Saying.{own_or_merged}
use Rattle.law_search.specs.Swapping.{token_under, swapped_token, swapped_name}
use Rattle.law_search.specs.Under.{IsUnder, IsVariableUnder, IsLineUnder, NamesUnder}
use Rattle.law_search.specs.SwapLaws.{StandsUnderActive, IsOfActive, IsArgumentOfActive, IsGrounded, MayChangePlaces, IsLineAbout, StandApart, HaveSameValues}
use Rattle.law_search.proofs.Renaming.{stands}
use Rattle.law_search.proofs.Having.{HaveSwapped, KeepsValues, flipped, name_twice, values_moved, values_kept}
use Rattle.law_search.proofs.Agreeing.{stand_apart}
use Rattle.law_search.proofs.Grounding.{settled_grounded, least_tokens_stand}

-- ---- whose places may change

pub undecided_may : (model : Model) (decisions : List Decision) (state : State) (plan : Plan) (token target : TokenName)
    → IsSettled model decisions → IsLeast model decisions state → IsFlaw model decisions state (Undecided token)
    → IsPlanOf model plan → IsValid model plan → AgreesWith model plan decisions
    → Contains plan.lines (lines.Merged token target) → (IsActive model decisions target → ⊥)
    → MayChangePlaces model decisions plan token target
undecided_may model decisions state plan token target settled least flaw is_plan valid agrees merged inactive = record {
  is_plan = is_plan;
  valid = valid;
  agrees = agrees;
  grounded = settled_grounded model decisions settled;
  under = least_tokens_stand model decisions state token settled least flaw.0;
  undecided = flaw.1;
  inactive = inactive;
  merged = merged;
}

module _ (model : Model) (decisions : List Decision) (plan : Plan) (one other : TokenName) (may : MayChangePlaces model decisions plan one other) where
  -- ---- lines

  apart : StandApart plan one other
  apart = stand_apart model decisions plan one other may

  about_none : (line : the_line.Line) (token : TokenName) → Contains plan.lines line → IsLineAbout line token → IsUnder one token → ⊥
  about_none line token there about under =
      apart.none line under.step under.steps there (subst (λ (t : TokenName). IsLineAbout line t) under.is about)

  -- a local has a line only where its token takes place, and the one doesn't
  no_local : (token : TokenName) (rule number : ℕ) (value : ℤ) → Contains plan.lines (lines.Local (names.Local token rule number) value) → token ≡ one → ⊥
  no_local token rule number value there same =
      let line = lines.Local (names.Local token rule number) value in
      let at = get_from_contains plan.lines line there in
      let asks : IsAsked model plan (lines.Local (names.Local token rule number) value) = may.valid V6 (places.Line at.0) line at.1 in
      let activated : IsActivatedIn plan one = subst (λ (t : TokenName). IsActivatedIn plan t) same asks.is_open.activated in
      own_or_merged plan may.is_plan.order one other activated.0 (false, activated.1) may.merged

  pub no_line : (line : the_line.Line) → Contains plan.lines line → IsLineUnder one line → ⊥
  no_line (lines.Token token fact values) there under = about_none (lines.Token token fact values) token there refl under
  no_line (lines.Merged token target) there under = about_none (lines.Merged token target) token there refl under
  no_line (lines.Rejected token) there under = about_none (lines.Rejected token) token there refl under
  no_line (lines.Local (names.Global number) value) there under = absurd under
  no_line (lines.Local (names.Token token part) value) there under = about_none (lines.Local (names.Token token part) value) token there refl under
  no_line (lines.Local (names.Local token rule number) value) there (inl own) = no_local token rule number value there own
  no_line (lines.Local (names.Local token rule number) value) there (inr under) =
      about_none (lines.Local (names.Local token rule number) value) token there refl under

  -- ---- decisions

  not_activated : (token : TokenName) → IsActivated decisions token → token ≡ other → ⊥
  not_activated token activated same = may.inactive (inr (subst (λ (t : TokenName). IsActivated decisions t) same activated))

  not_under : (token : TokenName) → StandsUnderActive decisions token → IsUnder other token → ⊥
  not_under token active under =
      not_activated (front_token token other.steps)
      (active other.steps under.step under.steps (ap (λ (t : TokenName). t.steps) under.is))
      (λ i. record { root = ap (λ (t : TokenName). t.root) under.is i; steps = other.steps })

  no_variable_under : (name : VarName) → IsOfActive decisions name → IsVariableUnder other name → ⊥
  no_variable_under (names.Global number) of under = absurd under
  no_variable_under (names.Token token part) of under = not_under token of under
  no_variable_under (names.Local token rule number) of (inl own) = not_activated token of.0 own
  no_variable_under (names.Local token rule number) of (inr under) = not_under token of.1 under

  none_named : (decision : Decision) → IsGrounded model decisions decision → NamesUnder other decision → ⊥
  none_named (Specify name value) grounded under = no_variable_under name grounded under
  none_named (Activate token) grounded under = not_under token grounded under
  none_named (Merge token target) grounded (inl under) = not_under token grounded.0 under
  none_named (Merge token target) grounded (inr under) = not_under target grounded.1.0 under
  none_named (Reject token) grounded under = not_under token grounded under
  none_named (Order a b) grounded (inl under) = not_under a grounded.0.0 under
  none_named (Order a b) grounded (inr under) = not_under b grounded.1.0 under
  none_named (Constrain kind arguments) grounded under =
      no_variable_under under.0 (All-contains (IsArgumentOfActive decisions) arguments (Var under.0) grounded under.1) under.2
  none_named (Relate relation a b) grounded (inl under) = not_under a grounded.0 under
  none_named (Relate relation a b) grounded (inr under) = not_under b grounded.1 under

  pub no_decision : (decision : Decision) → Contains decisions decision → NamesUnder other decision → ⊥
  no_decision decision there under = none_named decision (may.grounded decision there) under

-- ---- values

module _ (model : Model) (old new : Plan) (one other : TokenName) (has : HaveSwapped model old new one other) where
  -- what stands under neither keeps its name, or is one of the two
  keeps : (token : TokenName) → (IsUnder one token → ⊥) → (IsUnder other token → ⊥) → KeepsValues one other token
  keeps token not_one not_other = elim (stands one other has.apart token) [
    | inl found ↦ from_one found.0 found.1
    | inr (inl found) ↦ from_other found.0 found.1
    | inr (inr elsewhere) ↦ inl elsewhere.stays
  ]
    where
      from_one : (steps : List Step) → token ≡ token_under one steps → KeepsValues one other token
      from_one [] is = inr (inl (is ∙ (λ i. record { root = one.root; steps = append-nil one.steps i })))
      from_one (step ∷ steps) is = absurd (not_one (record { step = step; steps = steps; is = is }))

      from_other : (steps : List Step) → token ≡ token_under other steps → KeepsValues one other token
      from_other [] is = inr (inr (is ∙ (λ i. record { root = other.root; steps = append-nil other.steps i })))
      from_other (step ∷ steps) is = absurd (not_other (record { step = step; steps = steps; is = is }))

  owner_stays : (token : TokenName) (rule number : ℕ) → (IsVariableUnder one (names.Local token rule number) → ⊥)
      → (IsVariableUnder other (names.Local token rule number) → ⊥) → swapped_token one other token ≡ token
  owner_stays token rule number not_one not_other = elim (keeps token (λ under. not_one (inr under)) (λ under. not_other (inr under))) [
    | inl stays ↦ stays
    | inr (inl is) ↦ absurd (not_one (inl is))
    | inr (inr is) ↦ absurd (not_other (inl is))
  ]

  given_still : (name : VarName) (value : ℤ) → (IsVariableUnder one name → ⊥) → (IsVariableUnder other name → ⊥) → GivesValue old name value
      → GivesValue new name value
  given_still (names.Global number) value not_one not_other gives = values_moved model old new one other has (names.Global number) value gives
  given_still (names.Token token part) value not_one not_other gives =
      values_kept model old new one other has token (keeps token not_one not_other) part value gives
  given_still (names.Local token rule number) value not_one not_other gives =
      subst (λ (t : TokenName). GivesValue new (names.Local t rule number) value) (owner_stays token rule number not_one not_other)
      (values_moved model old new one other has (names.Local token rule number) value gives)

differ : (line later : the_line.Line) → IsLineBefore line later → order_name line ≡ order_name later → ⊥
differ line later before same =
    var_order.irreflexive (order_name later) (subst (λ (name : VarName). IsVarBefore name (order_name later)) same before)

names_once : (some : List the_line.Line) → AllPairs IsLineBefore some → AllPairs (λ line later. order_name line ≢ order_name later) some
names_once some order = λ i j d less within. differ (slice_index_or some i d) (slice_index_or some j d) (order i j d less within)

pub same_values : (model : Model) (old new : Plan) (one other : TokenName) → HaveSwapped model old new one other → HaveSameValues old new one other
same_values model old new one other has =
    let back = flipped model old new one other has in
    record {
      renamed = λ name value. (
        values_moved model old new one other has name value,
        λ gives. subst (λ (n : VarName). GivesValue old n value) (name_twice one other has.apart name)
            (values_moved model new old other one back (swapped_name one other name) value gives),
      );
      kept = λ name value not_one not_other. (
        given_still model old new one other has name value not_one not_other,
        given_still model new old other one back name value not_other not_one,
      );
      once = names_once new.lines has.swap.order;
    }
