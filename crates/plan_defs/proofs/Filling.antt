-- The own state of a valid plan keeps resources too, so it is closed.
use Rattle.std.proofs.Common.{◌≡◌, ℤ, pos, ◌+ℤ◌, ◌≤ℤ◌, Bool, List, [], ◌∷◌, Some, ⊎_elim, inl, inr, refl, sym, ap, ◌∙◌, subst, arith}
use Rattle.std.specs.Prelude.{AllPairs, Contains, slice_get, codes}
use Rattle.std.specs.List.{AllZip}
use Rattle.std.proofs.lemmas.Int.{ints}
use Rattle.domain_core.specs.Domain.{Domain, Range, Has, IsSingle, IsDomain}
use Rattle.domain_core.proofs.Words.{single_least, single_greatest}
use Rattle.eu_name.specs.declared.name.Part.{Part}
use Rattle.eu_name.specs.declared.name.Part.TheVariants.{Start, End, Object, Param}
use Rattle.eu_name.specs.declared.name.TokenName.{TokenName}
use Rattle.eu_name.specs.declared.name.VarName.{VarName}
use Rattle.eu_name.specs.declared.name.VarName.TheVariants.{Token}
use Rattle.eu_name.specs.NameOrder.{IsTokenBefore, IsVarBefore}
use Rattle.eu_name.proofs.Orders.{token_order}
use Rattle.model_core.specs.declared.class.Pred.{Pred}
use Rattle.model_core.specs.declared.class.PredKind.{PredKind}
use Rattle.model_core.specs.declared.class.PredKind.TheVariants.{Plain, Uses, Produce, Consume}
use Rattle.model_core.specs.declared.decision.Decision.{Decision}
use Rattle.model_core.specs.declared.model.Model.{Model}
use Rattle.model_core.specs.declared.rule.Slot.{Slot}
use Rattle.model_core.specs.declared.variable.Base.TheVariants.{Given}
use Rattle.model_core.specs.declared.variable.ValueKind.TheVariants as kinds
use Rattle.model_core.specs.declared.variable.VarDecl.{VarDecl}
use Rattle.model_core.specs.Lawful.{IsLawful, HasQuantity}
use Rattle.model_core.specs.State.{State, Gives}
use Rattle.model_core.proofs.Leading.{token_once}
use Rattle.plan_defs.specs.declared.plan.Clause.TheVariants.{V9}
use Rattle.plan_defs.specs.declared.plan.Line as the_line
use Rattle.plan_defs.specs.declared.plan.Line.TheVariants as lines
use Rattle.plan_defs.specs.declared.plan.Place.TheVariants as places
use Rattle.plan_defs.specs.declared.plan.Plan.{Plan}
use Rattle.plan_defs.specs.Broken.{AgreesWith}
use Rattle.plan_defs.specs.Claims.{HasPart}
use Rattle.plan_defs.specs.PlanStates.{HasLine, IsPlanState}
use Rattle.plan_defs.specs.Plans.{IsPlanOf, IsLineBefore, order_name, TakesPlaceWith, GivesValue, place_in_values}
use Rattle.plan_defs.specs.Resources.{IsActor, HasStarted, IsLeastQuantity, SurelyUses, IsShare, KeepsCapacity, FitReusables}
use Rattle.plan_defs.specs.Refusals.{IsDeclared}
use Rattle.plan_defs.specs.Sums.{sum_of}
use Rattle.plan_defs.specs.Timelines.{IsOn}
use Rattle.plan_defs.specs.Valid.{IsValid, SuitsToken, IsOfSort, IsPartOf, HasActed, IsActing, IsUsed, IsWithinCapacity}
use Rattle.plan_defs.proofs.Closing.{suits, active_line}
use Rattle.eu_name.proofs.Members.{get_same}
use Rattle.eu_name.proofs.Ordered.{contains_head, contains_later, contains_cases, contains_none, ordered_head, ordered_tail, ordered_none, ordered_cons, same_members}
use Rattle.plan_defs.proofs.Saying.{one_own, own_or_merged, own_or_rejected}
use Rattle.plan_defs.proofs.States.{gives_domain}

-- ---- the tokens of lines, in order

-- the line is the token's own
abbrev pub IsTokensLine : the_line.Line → TokenName → Type 0
IsTokensLine (lines.Token name fact values) token = name ≡ token
IsTokensLine (lines.Merged name target) token = name ≡ token
IsTokensLine (lines.Rejected name) token = name ≡ token
IsTokensLine (lines.Local name value) token = ⊥

abbrev pub tokens_of : List the_line.Line → List TokenName
tokens_of [] = []
tokens_of (lines.Token name fact values ∷ more) = name ∷ tokens_of more
tokens_of (lines.Merged name target ∷ more) = name ∷ tokens_of more
tokens_of (lines.Rejected name ∷ more) = name ∷ tokens_of more
tokens_of (lines.Local name value ∷ more) = tokens_of more

pub tokens_in : (listed : List the_line.Line) (token : TokenName) → Contains (tokens_of listed) token → (line : the_line.Line) × Contains listed line × IsTokensLine line token
tokens_in [] token there = absurd (contains_none token there)
tokens_in (lines.Token name fact values ∷ more) token there = ⊎_elim
    (λ same. (lines.Token name fact values, contains_head (lines.Token name fact values) more, same))
    (λ later. let found = tokens_in more token later in (found.0, contains_later (lines.Token name fact values) found.0 more found.1, found.2))
    (contains_cases name token (tokens_of more) there)
tokens_in (lines.Merged name target ∷ more) token there = ⊎_elim
    (λ same. (lines.Merged name target, contains_head (lines.Merged name target) more, same))
    (λ later. let found = tokens_in more token later in (found.0, contains_later (lines.Merged name target) found.0 more found.1, found.2))
    (contains_cases name token (tokens_of more) there)
tokens_in (lines.Rejected name ∷ more) token there = ⊎_elim
    (λ same. (lines.Rejected name, contains_head (lines.Rejected name) more, same))
    (λ later. let found = tokens_in more token later in (found.0, contains_later (lines.Rejected name) found.0 more found.1, found.2))
    (contains_cases name token (tokens_of more) there)
tokens_in (lines.Local name value ∷ more) token there =
    let found = tokens_in more token there in (found.0, contains_later (lines.Local name value) found.0 more found.1, found.2)

-- a token whose line comes first is first
pub first_token : (first line : the_line.Line) (name token : TokenName) → IsTokensLine first name → IsTokensLine line token → IsLineBefore first line → IsTokenBefore name token
first_token first line name token p q before = by_token name token (names first line name token p q before)
  where
    by_token : (a b : TokenName) → IsVarBefore (Token a Start) (Token b Start) → IsTokenBefore a b
    by_token a b (inl earlier) = earlier
    by_token a b (inr tied) = absurd (omega (arith, tied.1))

    named : (line : the_line.Line) (token : TokenName) → IsTokensLine line token → order_name line ≡ Token token Start
    named (lines.Token name fact values) token e = ap (λ (t : TokenName). Token t Start) e
    named (lines.Merged name target) token e = ap (λ (t : TokenName). Token t Start) e
    named (lines.Rejected name) token e = ap (λ (t : TokenName). Token t Start) e
    named (lines.Local name value) token e = absurd e

    names : (first line : the_line.Line) (name token : TokenName) → IsTokensLine first name → IsTokensLine line token → IsLineBefore first line → IsVarBefore (Token name Start) (Token token Start)
    names first line name token p q before =
        subst (λ (n : VarName). IsVarBefore (Token name Start) n) (named line token q)
        (subst (λ (n : VarName). IsVarBefore n (order_name line)) (named first name p) before)

pub tokens_ordered : (listed : List the_line.Line) → AllPairs IsLineBefore listed → AllPairs IsTokenBefore (tokens_of listed)
tokens_ordered [] order = ordered_none IsTokenBefore
tokens_ordered (lines.Token name fact values ∷ more) order =
    let line = lines.Token name fact values in
    ordered_cons IsTokenBefore name (tokens_of more)
    (λ token there. let found = tokens_in more token there in first_token line found.0 name token refl found.2 (ordered_head IsLineBefore line more order found.0 found.1))
    (tokens_ordered more (ordered_tail IsLineBefore line more order))
tokens_ordered (lines.Merged name target ∷ more) order =
    let line = lines.Merged name target in
    ordered_cons IsTokenBefore name (tokens_of more)
    (λ token there. let found = tokens_in more token there in first_token line found.0 name token refl found.2 (ordered_head IsLineBefore line more order found.0 found.1))
    (tokens_ordered more (ordered_tail IsLineBefore line more order))
tokens_ordered (lines.Rejected name ∷ more) order =
    let line = lines.Rejected name in
    ordered_cons IsTokenBefore name (tokens_of more)
    (λ token there. let found = tokens_in more token there in first_token line found.0 name token refl found.2 (ordered_head IsLineBefore line more order found.0 found.1))
    (tokens_ordered more (ordered_tail IsLineBefore line more order))
tokens_ordered (lines.Local name value ∷ more) order = tokens_ordered more (ordered_tail IsLineBefore (lines.Local name value) more order)

pub tokens_there : (listed : List the_line.Line) (line : the_line.Line) (token : TokenName) → Contains listed line → IsTokensLine line token → Contains (tokens_of listed) token
tokens_there [] line token there is = absurd (contains_none line there)
tokens_there (first ∷ more) line token there is = ⊎_elim
    (λ same. here first (subst (λ (l : the_line.Line). IsTokensLine l token) (sym same) is))
    (λ later. behind first (tokens_there more line token later is))
    (contains_cases first line more there)
  where
    here : (first : the_line.Line) → IsTokensLine first token → Contains (tokens_of (first ∷ more)) token
    here (lines.Token name fact values) e = subst (λ (t : TokenName). Contains (name ∷ tokens_of more) t) e (contains_head name (tokens_of more))
    here (lines.Merged name target) e = subst (λ (t : TokenName). Contains (name ∷ tokens_of more) t) e (contains_head name (tokens_of more))
    here (lines.Rejected name) e = subst (λ (t : TokenName). Contains (name ∷ tokens_of more) t) e (contains_head name (tokens_of more))
    here (lines.Local name value) e = absurd e

    behind : (first : the_line.Line) → Contains (tokens_of more) token → Contains (tokens_of (first ∷ more)) token
    behind (lines.Token name fact values) c = contains_later name token (tokens_of more) c
    behind (lines.Merged name target) c = contains_later name token (tokens_of more) c
    behind (lines.Rejected name) c = contains_later name token (tokens_of more) c
    behind (lines.Local name value) c = c

-- lists of numbers for lines and for their tokens, with the same sum
module _ (Has : the_line.Line → ℤ → Type 0) (Is : TokenName → ℤ → Type 0) where
  pub record Shared (listed : List the_line.Line) (sum : ℤ) : Type 0 where
    pub shares : List ℤ
    pub are : AllZip Is (tokens_of listed) shares
    pub same : sum_of shares ≡ sum

  pub shared : (listed : List the_line.Line) (amounts : List ℤ) → AllZip Has listed amounts
      → ((line : the_line.Line) (token : TokenName) (amount : ℤ) → Contains listed line → IsTokensLine line token → Has line amount → Is token amount)
      → ((name : VarName) (value amount : ℤ) → Has (lines.Local name value) amount → amount ≡ pos 0)
      → Shared listed (sum_of amounts)
  shared [] [] have to none = record { shares = []; are = tt; same = refl }
  shared [] (amount ∷ amounts) have to none = absurd have
  shared (line ∷ more) [] have to none = absurd have
  shared (lines.Token name fact values ∷ more) (amount ∷ amounts) have to none =
      let first = lines.Token name fact values in
      let rest = shared more amounts have.1 (λ line token n there. to line token n (contains_later first line more there)) none in
      record { shares = amount ∷ rest.shares; are = (to first name amount (contains_head first more) refl have.0, rest.are); same = ap (λ n. amount +ℤ n) rest.same }
  shared (lines.Merged name target ∷ more) (amount ∷ amounts) have to none =
      let first = lines.Merged name target in
      let rest = shared more amounts have.1 (λ line token n there. to line token n (contains_later first line more there)) none in
      record { shares = amount ∷ rest.shares; are = (to first name amount (contains_head first more) refl have.0, rest.are); same = ap (λ n. amount +ℤ n) rest.same }
  shared (lines.Rejected name ∷ more) (amount ∷ amounts) have to none =
      let first = lines.Rejected name in
      let rest = shared more amounts have.1 (λ line token n there. to line token n (contains_later first line more there)) none in
      record { shares = amount ∷ rest.shares; are = (to first name amount (contains_head first more) refl have.0, rest.are); same = ap (λ n. amount +ℤ n) rest.same }
  shared (lines.Local name value ∷ more) (amount ∷ amounts) have to none =
      let first = lines.Local name value in
      let rest = shared more amounts have.1 (λ line token n there. to line token n (contains_later first line more there)) none in
      let nothing = none name value amount have.0 in
      let same = rest.same in
      record { shares = rest.shares; are = rest.are; same = omega (arith, ints, nothing, same) }

-- ---- the parameter of what uses, produces or consumes

quantity_of : (kind : PredKind) (params : List VarDecl) → (kind ≡ Plain → ⊥) → HasQuantity kind params
    → params ≡ record { name = codes "quantity"; kind = kinds.Int; base = Given (Range (pos 0) (pos 1000000)) } ∷ []
quantity_of Plain params not_plain is = absurd (not_plain refl)
quantity_of Uses params not_plain is = is
quantity_of Produce params not_plain is = is
quantity_of Consume params not_plain is = is

from_zero : (base : Domain) (value : ℤ) → Given base ≡ Given (Range (pos 0) (pos 1000000)) → Has base value → pos 0 ≤ℤ value
from_zero base value e has = let same : base ≡ Range (pos 0) (pos 1000000) = cc in (subst (λ (d : Domain). Has d value) same has).0

pub same_some : {X : Type 0} (x y : X) → Some x ≡ Some y → x ≡ y
same_some x y e = cc

-- a token is of one sort
pub one_sort : (model : Model) (token : TokenName) (kind other : PredKind) → IsOfSort model kind token → IsOfSort model other token → kind ≡ other
one_sort model token kind other p q =
    let slots = token_once model token p.slot q.slot p.has_token q.has_token in
    let at : slice_get model.preds p.slot.pred ≡ Some q.predicate = subst (λ (s : Slot). slice_get model.preds s.pred ≡ Some q.predicate) (sym slots) q.is_predicate in
    let preds = get_same model.preds p.slot.pred p.predicate q.predicate p.is_predicate at in
    sym p.is_kind ∙ (ap (λ (pred : Pred). pred.kind) preds ∙ q.is_kind)

pub produce_consume : Produce ≡ Consume → ⊥
produce_consume e = absurd (cc)

uses_plain : Uses ≡ Plain → ⊥
uses_plain e = absurd (cc)

pub produce_plain : Produce ≡ Plain → ⊥
produce_plain e = absurd (cc)

pub consume_plain : Consume ≡ Plain → ⊥
consume_plain e = absurd (cc)

module _ (model : Model) (decisions : List Decision) (plan : Plan) (state : State) (lawful : IsLawful model) (of_model : IsPlanOf model plan)
    (valid : IsValid model plan) (agrees : AgreesWith model plan decisions) (own : IsPlanState model plan state) where
  -- ---- the state's tokens are those of the lines

  has_line : (line : the_line.Line) (token : TokenName) → Contains plan.lines line → IsTokensLine line token → HasLine plan token
  has_line (lines.Token name fact values) token there e =
      inl (values, (fact, subst (λ (t : TokenName). Contains plan.lines (lines.Token t fact values)) e there))
  has_line (lines.Merged name target) token there e =
      inr (inl (target, subst (λ (t : TokenName). Contains plan.lines (lines.Merged t target)) e there))
  has_line (lines.Rejected name) token there e = inr (inr (subst (λ (t : TokenName). Contains plan.lines (lines.Rejected t)) e there))
  has_line (lines.Local name value) token there e = absurd e

  line_there : (token : TokenName) → HasLine plan token → Contains (tokens_of plan.lines) token
  line_there token (inl (values, takes)) = tokens_there plan.lines (lines.Token token takes.0 values) token takes.1 refl
  line_there token (inr (inl (target, there))) = tokens_there plan.lines (lines.Merged token target) token there refl
  line_there token (inr (inr there)) = tokens_there plan.lines (lines.Rejected token) token there refl

  pub tokens_same : state.tokens ≡ tokens_of plan.lines
  tokens_same = same_members IsTokenBefore token_order.irreflexive token_order.transitive state.tokens (tokens_of plan.lines)
      own.is_state.order.tokens (tokens_ordered plan.lines of_model.order)
      (λ token there. line_there token ((own.tokens token).0 there))
      (λ token there. let found = tokens_in plan.lines token there in (own.tokens token).1 (has_line found.0 token found.1 found.2))

  -- ---- values

  suited : (token : TokenName) (values : List ℤ) → TakesPlaceWith plan token values → SuitsToken model plan token
  suited token values takes = suits model decisions plan state lawful of_model valid agrees own token values takes

  record ValueAt (token : TokenName) (values : List ℤ) (part : Part) : Type 0 where
    value : ℤ
    at : IsPartOf values part value
    declared : IsDeclared model (Token token part) value

  value_at : (token : TokenName) (values : List ℤ) (part : Part) → TakesPlaceWith plan token values → HasPart model token part → ValueAt token values part
  value_at token values part takes has =
      let found = (suited token values takes).parts part has in
      record { value = found.0; at = there found.0 found.1; declared = found.2 }
    where
      there : (value : ℤ) → GivesValue plan (Token token part) value → IsPartOf values part value
      there value (inl (others, taken, at)) =
          subst (λ (vs : List ℤ). slice_get vs (place_in_values part) ≡ Some value) (one_own plan of_model.order token others values taken takes) at
      there value (inr (target, merged, has_value)) = absurd (own_or_merged plan of_model.order token target values takes merged)

  single : (token : TokenName) (values : List ℤ) (part : Part) (value : ℤ) (domain : Domain) → TakesPlaceWith plan token values → IsPartOf values part value
      → Gives state (Token token part) domain → IsSingle domain value
  single token values part value domain takes at gives = own.values (Token token part) value domain (inl (values, takes, at)) gives

  is_domain : (name : VarName) (domain : Domain) → Gives state name domain → IsDomain domain
  is_domain name domain gives = gives_domain model state own.is_state name domain gives

  pub sort_of : (kind : PredKind) (token : TokenName) → IsActor model decisions kind token → IsOfSort model kind token
  sort_of kind token actor = record { slot = actor.slot; has_token = actor.has_token; predicate = actor.predicate; is_predicate = actor.is_predicate; is_kind = actor.is_kind }

  quantity_part : (kind : PredKind) (token : TokenName) → (kind ≡ Plain → ⊥) → IsOfSort model kind token → HasPart model token (Param 0)
  quantity_part kind token not_plain sort =
      let has = (lawful.preds sort.slot.pred sort.predicate sort.is_predicate).quantity in
      let params = quantity_of sort.predicate.kind sort.predicate.params (λ e. not_plain (sym sort.is_kind ∙ e)) has in (
        sort.slot,
        sort.has_token,
        (
          _,
          (
            record { name = codes "quantity"; kind = kinds.Int; base = Given (Range (pos 0) (pos 1000000)) },
            record { predicate = sort.predicate; is_predicate = sort.is_predicate; declared = ap (λ (ps : List VarDecl). slice_get ps 0) params },
            refl,
          ),
        ),
      )

  pub quantity_from_zero : (kind : PredKind) (token : TokenName) (values : List ℤ) (quantity : ℤ) → (kind ≡ Plain → ⊥) → IsOfSort model kind token → TakesPlaceWith plan token values
      → IsPartOf values (Param 0) quantity → pos 0 ≤ℤ quantity
  quantity_from_zero kind token values quantity not_plain sort takes at =
      let found = value_at token values (Param 0) takes (quantity_part kind token not_plain sort) in
      let same = same_some found.value quantity (sym found.at ∙ at) in
      let base = found.declared.1 in
      let inner = base.2.1 in
      let slots = token_once model token base.0 sort.slot base.1 sort.has_token in
      let moved : slice_get model.preds sort.slot.pred ≡ Some inner.predicate = subst (λ (s : Slot). slice_get model.preds s.pred ≡ Some inner.predicate) slots inner.is_predicate in
      let preds = get_same model.preds sort.slot.pred inner.predicate sort.predicate moved sort.is_predicate in
      let has = (lawful.preds sort.slot.pred sort.predicate sort.is_predicate).quantity in
      let params = quantity_of sort.predicate.kind sort.predicate.params (λ e. not_plain (sym sort.is_kind ∙ e)) has in
      let listed : slice_get sort.predicate.params 0 ≡ Some base.2.0 = subst (λ (p : Pred). slice_get p.params 0 ≡ Some base.2.0) preds inner.declared in
      let variable = same_some _ base.2.0 (sym (ap (λ (ps : List VarDecl). slice_get ps 0) params) ∙ listed) in
      let given : Given found.declared.0 ≡ Given (Range (pos 0) (pos 1000000)) = base.2.2 ∙ sym (ap (λ (v : VarDecl). v.base) variable) in
      subst (λ v. pos 0 ≤ℤ v) same (from_zero found.declared.0 found.value given found.declared.2)

  -- ---- what surely acts in the state acts in the plan

  module _ (object instant : ℤ) where
    pub acted : (kind : PredKind) (token : TokenName) (values : List ℤ) (quantity : ℤ) → (kind ≡ Plain → ⊥) → TakesPlaceWith plan token values → IsActor model decisions kind token
        → IsOn state token object → HasStarted state token instant → IsLeastQuantity state token quantity → HasActed model object instant kind token values quantity
    acted kind token values quantity not_plain takes actor on started least_quantity =
        let sort = sort_of kind token actor in
        let objects = value_at token values Object takes (actor.slot, actor.has_token, (actor.slot.object, refl)) in
        let starts = value_at token values Start takes (actor.slot, actor.has_token, (Given (Range model.problem.start model.problem.end), refl)) in
        let quantities = value_at token values (Param 0) takes (quantity_part kind token not_plain sort) in
        let on_single = single token values Object objects.value on.0 takes objects.at on.1 in
        let start_single = single token values Start starts.value started.0 takes starts.at started.1 in
        let quantity_single = single token values (Param 0) quantities.value least_quantity.0 takes quantities.at least_quantity.1 in
        let object_same : object ≡ objects.value = on_single.only object on.2.has in
        let start_same = single_greatest started.0 starts.value (is_domain (Token token Start) started.0 started.1) start_single in
        let quantity_same = least_quantity.2 ∙ single_least least_quantity.0 quantities.value (is_domain (Token token (Param 0)) least_quantity.0 least_quantity.1) quantity_single in
        let before = started.2 in
        record {
          sort = sort;
          on = subst (λ v. IsPartOf values Object v) (sym object_same) objects.at;
          start = starts.value;
          starts = starts.at;
          started = omega (arith, ints, start_same, before);
          has_quantity = subst (λ v. IsPartOf values (Param 0) v) (sym quantity_same) quantities.at;
        }

    acting : (token : TokenName) (values : List ℤ) (quantity : ℤ) → TakesPlaceWith plan token values → SurelyUses model decisions state object instant token quantity
        → IsActing model object instant Uses token values quantity
    acting token values quantity takes p =
        let actor = p.actor in
        let ends = value_at token values End takes (actor.slot, actor.has_token, (Given (Range model.problem.start model.problem.end), refl)) in
        let end = p.not_ended in
        let end_single = single token values End ends.value end.0 takes ends.at end.1 in
        let same = single_least end.0 ends.value (is_domain (Token token End) end.0 end.1) end_single in
        let late = end.2 in
        record {
          acted = acted Uses token values quantity uses_plain takes actor p.on p.started p.least;
          end = ends.value;
          ends = ends.at;
          not_ended = omega (arith, ints, same, late);
        }

    -- an actor takes place
    takes_of : (kind : PredKind) (token : TokenName) → IsActor model decisions kind token → (values : List ℤ) × TakesPlaceWith plan token values
    takes_of kind token actor = active_line model decisions plan state lawful of_model valid agrees own token actor.active

    pub merged_acts : (kind : PredKind) (token target : TokenName) → Contains plan.lines (lines.Merged token target) → IsActor model decisions kind token → ⊥
    merged_acts kind token target there actor = let takes = takes_of kind token actor in own_or_merged plan of_model.order token target takes.0 takes.1 there

    pub rejected_acts : (kind : PredKind) (token : TokenName) → Contains plan.lines (lines.Rejected token) → IsActor model decisions kind token → ⊥
    rejected_acts kind token there actor = let takes = takes_of kind token actor in own_or_rejected plan of_model.order token takes.0 takes.1 there

    -- ---- shares

    abbrev Share : TokenName → ℤ → Type 0
    Share token amount = IsShare model decisions state object instant token amount

    token_share : (token : TokenName) (fact : Bool) (values : List ℤ) (amount : ℤ) → Contains plan.lines (lines.Token token fact values)
        → IsUsed model object instant (lines.Token token fact values) amount → Share token amount
    token_share token fact values amount there (inl used) = record {
      none = quantity_from_zero Uses token values amount uses_plain used.acted.sort (fact, there) used.acted.has_quantity;
      enough = λ quantity surely.
          let same = same_some quantity amount (sym (acting token values quantity (fact, there) surely).acted.has_quantity ∙ used.acted.has_quantity) in
          omega (arith, ints, same);
    }
    token_share token fact values amount there (inr not_used) =
        let zero_amount = not_used.1 in
        record {
          none = omega (arith, ints, zero_amount);
          enough = λ quantity surely. absurd (not_used.0 quantity (acting token values quantity (fact, there) surely));
        }

    share : (line : the_line.Line) (token : TokenName) (amount : ℤ) → Contains plan.lines line → IsTokensLine line token → IsUsed model object instant line amount → Share token amount
    share (lines.Token name fact values) token amount there e used = subst (λ (t : TokenName). Share t amount) e (token_share name fact values amount there used)
    share (lines.Merged name target) token amount there e (inl used) = absurd used
    share (lines.Merged name target) token amount there e (inr not_used) =
        let zero_amount = not_used.1 in
        subst (λ (t : TokenName). Share t amount) e (record { none = omega (arith, ints, zero_amount); enough = λ quantity surely. absurd (merged_acts Uses name target there surely.actor) })
    share (lines.Rejected name) token amount there e (inl used) = absurd used
    share (lines.Rejected name) token amount there e (inr not_used) =
        let zero_amount = not_used.1 in
        subst (λ (t : TokenName). Share t amount) e (record { none = omega (arith, ints, zero_amount); enough = λ quantity surely. absurd (rejected_acts Uses name there surely.actor) })
    share (lines.Local name value) token amount there e used = absurd e

    local_unused : (name : VarName) (value amount : ℤ) → IsUsed model object instant (lines.Local name value) amount → amount ≡ pos 0
    local_unused name value amount (inl used) = absurd used
    local_unused name value amount (inr not_used) = not_used.1

    capacity_kept : (capacity : ℤ) → IsWithinCapacity model object instant plan capacity → KeepsCapacity model decisions state object instant capacity
    capacity_kept capacity kept =
        let found = shared (IsUsed model object instant) Share plan.lines kept.amounts kept.are_used share local_unused in
        let same = found.same in
        let enough = kept.enough in
        record {
          shares = found.shares;
          are_shares = subst (λ (ts : List TokenName). AllZip Share ts found.shares) (sym tokens_same) found.are;
          enough = omega (arith, ints, same, enough);
        }

  pub fit_reusables : FitReusables model decisions state
  fit_reusables value object capacity instant is kind within =
      subst (λ v. KeepsCapacity model decisions state v instant capacity) (sym is.1)
      (capacity_kept (pos is.0) instant capacity (valid V9 (places.Instant is.0 instant) object capacity is.2 kind within))
