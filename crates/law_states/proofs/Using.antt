-- What the plan of a state without a flaw uses of a reusable is what the state surely uses.
use Rattle.std.proofs.Common.{◌≡◌, ℤ, pos, ◌≤ℤ◌, ◌<ℤ◌, Bool, List, [], ◌∷◌, Some, ◌⊎◌, inl, inr, refl, sym, ap, ◌∙◌, subst, arith}
use Rattle.std.specs.Prelude.{Contains, slice_get, codes}
use Rattle.std.specs.List.{AllZip}
use Rattle.std.proofs.lemmas.Int.{ints, by_lt_z}
use Rattle.domain_core.specs.Domain.{Range}
use Rattle.domain_core.proofs.Words.{single_least, single_greatest}
use Rattle.eu_name.specs.declared.name.Part.{Part}
use Rattle.eu_name.specs.declared.name.Part.TheVariants.{Start, End, Object, Param}
use Rattle.eu_name.specs.declared.name.TokenName.{TokenName}
use Rattle.eu_name.specs.declared.name.VarName.TheVariants as variables
use Rattle.eu_name.proofs.Members.{get_same}
use Rattle.model_core.specs.declared.class.Pred.{Pred}
use Rattle.model_core.specs.declared.class.PredKind.{PredKind}
use Rattle.model_core.specs.declared.class.PredKind.TheVariants.{Plain, Uses, Produce, Consume}
use Rattle.model_core.specs.declared.decision.Decision.{Decision}
use Rattle.model_core.specs.declared.model.Model.{Model}
use Rattle.model_core.specs.declared.rule.Slot.{Slot}
use Rattle.model_core.specs.declared.variable.Base.{Base}
use Rattle.model_core.specs.declared.variable.Base.TheVariants.{Given}
use Rattle.model_core.specs.declared.variable.ValueKind.TheVariants as kinds
use Rattle.model_core.specs.declared.variable.VarDecl.{VarDecl}
use Rattle.model_core.specs.Lawful.{HasQuantity}
use Rattle.model_core.specs.State.{State}
use Rattle.model_core.specs.Tokens.{HasToken}
use Rattle.model_core.specs.Variables.{HasPartBase}
use Rattle.model_core.proofs.Leading.{token_once}
use Rattle.plan_defs.specs.declared.plan.Line as the_line
use Rattle.plan_defs.specs.declared.plan.Line.TheVariants as lines
use Rattle.plan_defs.specs.declared.plan.Place.{Place}
use Rattle.plan_defs.specs.declared.plan.Place.TheVariants as places
use Rattle.plan_defs.specs.declared.plan.Plan.{Plan}
use Rattle.plan_defs.specs.Resources.{FitReusables, IsShare, SurelyUses, KeepsCapacity}
use Rattle.plan_defs.specs.Sums.{sum_of}
use Rattle.plan_defs.specs.Valid.{IsPartOf, IsActing, UsesAt, IsUsed, IsWithinCapacity, KeepsReusables}
use Rattle.eu_name.proofs.Ordered.{contains_head, contains_later}
use Rattle.plan_defs.specs.StatePlans.{GivesOnly, IsTokenLine, IsLineIn}
use Rattle.plan_defs.proofs.Kinding.{pred_of_slot}
use Rattle.plan_defs.proofs.Stating.{takes_not_rejected}
use Rattle.law_states.specs.Soundness.{IsFlawlessPlan}
use Rattle.law_states.proofs.Having.{is_state, token_has, domain_of, value_of}
use Rattle.law_states.proofs.Keeping.{part_kept, line_active}
use Rattle.plan_defs.proofs.Filling.{tokens_of}
use Rattle.law_states.proofs.Lining.{tokens_are}

pub number_or_not : (a b : ℤ) → (a ≡ b) ⊎ (a ≡ b → ⊥)
number_or_not a b =
    by_lt_z a b (λ less. inr (λ e. omega (arith, ints, less, e)))
    (λ not_less. by_lt_z b a (λ less. inr (λ e. omega (arith, ints, less, e))) (λ other. inl (omega (arith, ints, not_less, other))))

less_or_not : (a b : ℤ) → (a <ℤ b) ⊎ (a <ℤ b → ⊥)
less_or_not a b = by_lt_z a b (λ less. inl less) (λ not_less. inr (λ less. omega (arith, ints, less, not_less)))

pub most_or_not : (a b : ℤ) → (a ≤ℤ b) ⊎ (a ≤ℤ b → ⊥)
most_or_not a b = by_lt_z b a (λ less. inr (λ most. omega (arith, ints, less, most))) (λ not_less. inl not_less)

uses_or_not : (kind : PredKind) → (kind ≡ Uses) ⊎ (kind ≡ Uses → ⊥)
uses_or_not Uses = inl refl
uses_or_not Plain = inr (λ e. cc)
uses_or_not Produce = inr (λ e. cc)
uses_or_not Consume = inr (λ e. cc)

pub same_value : (x y : ℤ) → Some x ≡ Some y → x ≡ y
same_value x y e = cc

module _ (model : Model) (decisions : List Decision) (state : State) (plan : Plan) (is : IsFlawlessPlan model decisions state plan) (object instant : ℤ) where
  -- the value of a part of a token that takes place
  record Valued (token : TokenName) (values : List ℤ) (part : Part) : Type 0 where
    value : ℤ
    at : IsPartOf values part value
    has : GivesOnly state (variables.Token token part) value

  module _ (fact : Bool) (token : TokenName) (values : List ℤ) (line : IsTokenLine model decisions state fact token values)
      (slot : Slot) (has_token : HasToken model token slot) (pred : Pred) (is_pred : slice_get model.preds slot.pred ≡ Some pred) where
    valued : (part : Part) (base : Base) → HasPartBase model slot part base → Valued token values part
    valued part base has_base =
        let given = ((is_state model decisions state plan is).variables (variables.Token token part)).0 (line.there, (base, (slot, has_token, has_base))) in
        let value = value_of model decisions state plan is (variables.Token token part) given.0 given.1
        (part_kept model decisions state plan is token part (takes_not_rejected model decisions state is.settled fact token line.takes_place)) in
        let has : GivesOnly state (variables.Token token part) value.0 = (given.0, given.1, value.1) in
        record { value = value.0; at = (line.values_are part value.0).1 has; has = has }

    same_at : (part : Part) (v : Valued token values part) (other : ℤ) → IsPartOf values part other → v.value ≡ other
    same_at part v other at = same_value v.value other (sym v.at ∙ at)

    quantity_base : pred.kind ≡ Uses → (base : Base) × HasPartBase model slot (Param 0) base
    quantity_base kind =
        let params = quantity_of pred.kind pred.params kind (is.settled.lawful.preds slot.pred pred is_pred).quantity in
        let variable : VarDecl = record { name = codes "quantity"; kind = kinds.Int; base = Given (Range (pos 0) (pos 1000000)) } in
        (variable.base, (variable, record { predicate = pred; is_predicate = is_pred; declared = subst (λ (list : List VarDecl). slice_get list 0 ≡ Some variable) (sym params) refl }, refl))
      where
        quantity_of : (kind' : PredKind) (params : List VarDecl) → kind' ≡ Uses → HasQuantity kind' params
            → params ≡ record { name = codes "quantity"; kind = kinds.Int; base = Given (Range (pos 0) (pos 1000000)) } ∷ []
        quantity_of Uses params e q = q
        quantity_of Plain params e q = absurd (cc)
        quantity_of Produce params e q = absurd (cc)
        quantity_of Consume params e q = absurd (cc)

    surely : (quantity : ℤ) → IsActing model object instant Uses token values quantity → SurelyUses model decisions state object instant token quantity
    surely quantity acts =
        let start = (line.values_are Start acts.acted.start).0 acts.acted.starts in
        let end = (line.values_are End acts.end).0 acts.ends in
        let amount = (line.values_are (Param 0) quantity).0 acts.acted.has_quantity in
        record {
          actor = record {
            active = line_active model decisions state plan is fact token line.takes_place;
            slot = acts.acted.sort.slot;
            has_token = acts.acted.sort.has_token;
            predicate = acts.acted.sort.predicate;
            is_predicate = acts.acted.sort.is_predicate;
            is_kind = acts.acted.sort.is_kind;
          };
          on = (line.values_are Object object).0 acts.acted.on;
          started = (start.0, start.1, omega (arith, ints, acts.acted.started, single_greatest start.0 acts.acted.start (domain_of model decisions state plan is _ start.0 start.1) start.2));
          not_ended = (end.0, end.1, omega (arith, ints, acts.not_ended, single_least end.0 acts.end (domain_of model decisions state plan is _ end.0 end.1) end.2));
          least = (amount.0, amount.1, sym (single_least amount.0 quantity (domain_of model decisions state plan is _ amount.0 amount.1) amount.2));
        }

    abbrev Acts : Type 0
    Acts = (quantity : ℤ) × IsActing model object instant Uses token values quantity

    by_time : pred.kind ≡ Uses → Valued token values Object → Valued token values Start → Valued token values End → Valued token values (Param 0)
        → Acts ⊎ ((quantity : ℤ) → IsActing model object instant Uses token values quantity → ⊥)
    by_time kind on start end amount = elim (number_or_not on.value object) [
      | inr other ↦ inr (λ quantity acts. other (same_at Object on object acts.acted.on))
      | inl same ↦ elim (most_or_not start.value instant) [
        | inr late ↦ inr (λ quantity acts. late (subst (λ v. v ≤ℤ instant) (sym (same_at Start start acts.acted.start acts.acted.starts)) acts.acted.started))
        | inl started ↦ elim (less_or_not instant end.value) [
          | inr early ↦ inr (λ quantity acts. early (subst (λ v. instant <ℤ v) (sym (same_at End end acts.end acts.ends)) acts.not_ended))
          | inl not_ended ↦ inl (
            amount.value,
            record {
              acted = record {
                sort = record { slot = slot; has_token = has_token; predicate = pred; is_predicate = is_pred; is_kind = kind };
                on = subst (λ v. IsPartOf values Object v) same on.at;
                start = start.value;
                starts = start.at;
                started = started;
                has_quantity = amount.at;
              };
              end = end.value;
              ends = end.at;
              not_ended = not_ended;
            },
          )
        ]
      ]
    ]

    acts_or_not : Acts ⊎ ((quantity : ℤ) → IsActing model object instant Uses token values quantity → ⊥)
    acts_or_not = elim (uses_or_not pred.kind) [
      | inr other ↦ inr (λ quantity acts. other (
          let sort = acts.acted.sort in
          let slots = token_once model token slot sort.slot has_token sort.has_token in
          let preds : pred ≡ sort.predicate = get_same model.preds slot.pred pred sort.predicate is_pred
          (subst (λ (s : Slot). slice_get model.preds s.pred ≡ Some sort.predicate) (sym slots) sort.is_predicate) in
          ap (λ (p : Pred). p.kind) preds ∙ sort.is_kind))
      | inl kind ↦
          let base = quantity_base kind in
          by_time kind (valued Object slot.object refl) (valued Start (Given _) refl) (valued End (Given _) refl) (valued (Param 0) base.0 base.1)
    ]

  -- what the line's token uses is no more than its share
  record Used (line : the_line.Line) (share : ℤ) : Type 0 where
    amount : ℤ
    used : IsUsed model object instant line amount
    most : amount ≤ℤ share

  no_use : (line : the_line.Line) (share : ℤ) → ((quantity : ℤ) → UsesAt model object instant line quantity → ⊥) → pos 0 ≤ℤ share → Used line share
  no_use line share none zero_most = record { amount = pos 0; used = inr (none, refl); most = zero_most }

  own_use : (fact : Bool) (token : TokenName) (values : List ℤ) (share : ℤ) → IsTokenLine model decisions state fact token values → IsShare model decisions state object instant token share
      → Used (lines.Token token fact values) share
  own_use fact token values share line is_share =
      let has = token_has model decisions state plan is token line.there in
      let pred = pred_of_slot model token has.0 is.settled.lawful has.1 in
      elim (acts_or_not fact token values line has.0 has.1 pred.0 pred.1) [
        | inl acts ↦ record { amount = acts.0; used = inl acts.1; most = is_share.enough acts.0 (surely fact token values line has.0 has.1 pred.0 pred.1 acts.0 acts.1) }
        | inr none ↦ no_use (lines.Token token fact values) share none is_share.none
      ]

  record AllUsed (listed : List the_line.Line) (shares : List ℤ) : Type 0 where
    amounts : List ℤ
    used : AllZip (IsUsed model object instant) listed amounts
    most : sum_of amounts ≤ℤ sum_of shares

  one_more : (line : the_line.Line) (more : List the_line.Line) (share : ℤ) (shares : List ℤ) → Used line share → AllUsed more shares → AllUsed (line ∷ more) (share ∷ shares)
  one_more line more share shares first rest =
      record { amounts = first.amount ∷ rest.amounts; used = (first.used, rest.used); most = omega (arith, ints, first.most, rest.most) }

  all_used : (listed : List the_line.Line) (shares : List ℤ) → ((line : the_line.Line) → Contains listed line → IsLineIn model decisions state line)
      → AllZip (IsShare model decisions state object instant) (tokens_of listed) shares → AllUsed listed shares
  all_used [] [] lines_in are = record { amounts = []; used = tt; most = omega (arith, ints) }
  all_used [] (share ∷ shares) lines_in are = absurd are
  all_used (lines.Local name value ∷ more) shares lines_in are =
      let rest = all_used more shares (λ line there. lines_in line (contains_later (lines.Local name value) line more there)) are in
      record { amounts = pos 0 ∷ rest.amounts; used = (inr ((λ quantity uses. uses), refl), rest.used); most = omega (arith, ints, rest.most) }
  all_used (lines.Token token fact values ∷ more) [] lines_in are = absurd are
  all_used (lines.Token token fact values ∷ more) (share ∷ shares) lines_in are =
      let line = lines.Token token fact values in
      one_more line more share shares (own_use fact token values share (lines_in line (contains_head line more)) are.0)
      (all_used more shares (λ other there. lines_in other (contains_later line other more there)) are.1)
  all_used (lines.Merged token target ∷ more) [] lines_in are = absurd are
  all_used (lines.Merged token target ∷ more) (share ∷ shares) lines_in are =
      let line = lines.Merged token target in
      one_more line more share shares (no_use line share (λ quantity uses. uses) are.0.none) (all_used more shares (λ other there. lines_in other (contains_later line other more there)) are.1)
  all_used (lines.Rejected token ∷ more) [] lines_in are = absurd are
  all_used (lines.Rejected token ∷ more) (share ∷ shares) lines_in are =
      let line = lines.Rejected token in
      one_more line more share shares (no_use line share (λ quantity uses. uses) are.0.none) (all_used more shares (λ other there. lines_in other (contains_later line other more there)) are.1)

  within : (capacity : ℤ) → KeepsCapacity model decisions state object instant capacity → IsWithinCapacity model object instant plan capacity
  within capacity keeps =
      let shares = subst (λ (tokens : List TokenName). AllZip (IsShare model decisions state object instant) tokens keeps.shares) (tokens_are model decisions state plan is) keeps.are_shares in
      let found = all_used plan.lines keeps.shares (λ line there. (is.is_plan.lines line).0 there) shares in
      record { amounts = found.amounts; are_used = found.used; enough = omega (arith, ints, found.most, keeps.enough) }

pub keeps_reusables : (model : Model) (decisions : List Decision) (state : State) (plan : Plan) → IsFlawlessPlan model decisions state plan → FitReusables model decisions state
    → (place : Place) → KeepsReusables model plan place
keeps_reusables model decisions state plan is fit (places.Instant number instant) = λ object capacity at kind inside.
    within model decisions state plan is (pos number) instant capacity (fit (pos number) object capacity instant (number, refl, at) kind inside)
keeps_reusables model decisions state plan is fit (places.Global number) = tt
keeps_reusables model decisions state plan is fit (places.Root number) = tt
keeps_reusables model decisions state plan is fit (places.Line number) = tt
keeps_reusables model decisions state plan is fit (places.Slot line rule slot) = tt
keeps_reusables model decisions state plan is fit (places.Local line rule number) = tt
keeps_reusables model decisions state plan is fit (places.Problem number) = tt
keeps_reusables model decisions state plan is fit (places.Item line rule item) = tt
keeps_reusables model decisions state plan is fit (places.Pair one other) = tt
