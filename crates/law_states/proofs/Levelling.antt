-- Where no further token can come, the level of a reservoir in the plan of a state without a flaw lies between those that the
-- state leaves.
use Rattle.std.proofs.Common.{◌≡◌, ℤ, pos, ◌≤ℤ◌, ◌+ℤ◌, ◌-ℤ◌, Bool, List, [], ◌∷◌, Some, ◌⊎◌, inl, inr, refl, sym, ap, ◌∙◌, subst, arith}
use Rattle.std.specs.Prelude.{Contains, slice_get, codes}
use Rattle.std.specs.List.{AllZip}
use Rattle.std.proofs.lemmas.Int.{ints}
use Rattle.domain_core.specs.Domain.{Domain, Range, IsSingle, IsWithin}
use Rattle.domain_core.proofs.Words.{single_least, single_greatest}
use Rattle.eu_name.specs.declared.name.Part.{Part}
use Rattle.eu_name.specs.declared.name.Part.TheVariants.{Start, Object, Param}
use Rattle.eu_name.specs.declared.name.TokenName.{TokenName}
use Rattle.eu_name.specs.declared.name.VarName.TheVariants as variables
use Rattle.eu_name.proofs.Members.{get_same}
use Rattle.model_core.specs.declared.class.Pred.{Pred}
use Rattle.model_core.specs.declared.class.PredKind.{PredKind}
use Rattle.model_core.specs.declared.class.PredKind.TheVariants.{Plain, Uses, Produce, Consume}
use Rattle.model_core.specs.declared.decision.Decision.{Decision}
use Rattle.model_core.specs.declared.model.Model.{Model}
use Rattle.model_core.specs.declared.rule.Slot.{Slot}
use Rattle.model_core.specs.declared.variable.Base.{Base}
use Rattle.model_core.specs.declared.variable.Base.TheVariants.{Given}
use Rattle.model_core.specs.declared.variable.ValueKind.TheVariants as kinds
use Rattle.model_core.specs.declared.variable.VarDecl.{VarDecl}
use Rattle.model_core.specs.Decided.{IsActive}
use Rattle.model_core.specs.Lawful.{HasQuantity}
use Rattle.model_core.specs.State.{State, Gives}
use Rattle.model_core.specs.Tokens.{HasToken}
use Rattle.model_core.specs.Variables.{HasPartBase, IsInBase}
use Rattle.model_core.proofs.Leading.{token_once}
use Rattle.plan_defs.specs.declared.plan.Line as the_line
use Rattle.plan_defs.specs.declared.plan.Line.TheVariants as lines
use Rattle.plan_defs.specs.declared.plan.Place.{Place}
use Rattle.plan_defs.specs.declared.plan.Place.TheVariants as places
use Rattle.plan_defs.specs.declared.plan.Plan.{Plan}
use Rattle.plan_defs.specs.Resources.{FitReservoirs, IsTokenComplete, IsActor, MayChange, SurelyChanges, IsHighChange, IsLowChange, StaysWithin}
use Rattle.plan_defs.specs.Sums.{sum_of}
use Rattle.plan_defs.specs.Valid.{IsOfSort, IsPartOf, HasActed, LeavesLevel, IsRise, IsLevelWithin, KeepsReservoirs}
use Rattle.plan_defs.proofs.States.{gives_same}
use Rattle.eu_name.proofs.Ordered.{contains_head, contains_later}
use Rattle.plan_defs.specs.StatePlans.{GivesOnly, IsTokenLine, IsLineIn}
use Rattle.plan_defs.proofs.Kinding.{pred_of_slot}
use Rattle.plan_defs.proofs.Stating.{takes_not_rejected}
use Rattle.law_states.specs.Soundness.{IsFlawlessPlan}
use Rattle.law_states.proofs.Having.{is_state, token_has, domain_of, value_of, active_not_merged, active_not_rejected}
use Rattle.law_states.proofs.Keeping.{part_kept, line_active}
use Rattle.plan_defs.proofs.Filling.{tokens_of}
use Rattle.law_states.proofs.Lining.{tokens_are}
use Rattle.law_states.proofs.Using.{number_or_not, most_or_not, same_value}

quantity : VarDecl
quantity = record { name = codes "quantity"; kind = kinds.Int; base = Given (Range (pos 0) (pos 1000000)) }

quantity_of : (kind : PredKind) (params : List VarDecl) → (kind ≡ Plain → ⊥) → HasQuantity kind params → params ≡ quantity ∷ []
unfolding quantity
quantity_of Produce params some q = q
quantity_of Consume params some q = q
quantity_of Uses params some q = q
quantity_of Plain params some q = absurd (some refl)

quantity_base : quantity.base ≡ Given (Range (pos 0) (pos 1000000))
unfolding quantity
quantity_base = refl

first_is : (x y : VarDecl) → Some x ≡ Some y → x ≡ y
first_is x y e = cc

produce_some : (kind : PredKind) → kind ≡ Produce → kind ≡ Plain → ⊥
produce_some kind p q = cc

consume_some : (kind : PredKind) → kind ≡ Consume → kind ≡ Plain → ⊥
consume_some kind p q = cc

produce_or_consume : (kind : PredKind) → kind ≡ Produce → kind ≡ Consume → ⊥
produce_or_consume kind p q = cc

module _ (model : Model) (decisions : List Decision) (state : State) (plan : Plan) (is : IsFlawlessPlan model decisions state plan) (object instant : ℤ) where
  -- the value of a part of a token that takes place
  record Valued (token : TokenName) (values : List ℤ) (part : Part) : Type 0 where
    value : ℤ
    at : IsPartOf values part value
    has : GivesOnly state (variables.Token token part) value

  -- a rise that is no less than the one number and no more than the other
  record Rises (line : the_line.Line) (high low : ℤ) : Type 0 where
    rise : ℤ
    is_rise : IsRise model object instant line rise
    above : high ≤ℤ rise
    below : rise ≤ℤ low

  module _ (fact : Bool) (token : TokenName) (values : List ℤ) (line : IsTokenLine model decisions state fact token values)
      (slot : Slot) (has_token : HasToken model token slot) (pred : Pred) (is_pred : slice_get model.preds slot.pred ≡ Some pred) where
    valued : (part : Part) (base : Base) → HasPartBase model slot part base → Valued token values part
    valued part base has_base =
        let given = ((is_state model decisions state plan is).variables (variables.Token token part)).0 (line.there, (base, (slot, has_token, has_base))) in
        let value = value_of model decisions state plan is (variables.Token token part) given.0 given.1
        (part_kept model decisions state plan is token part (takes_not_rejected model decisions state is.settled fact token line.takes_place)) in
        let has : GivesOnly state (variables.Token token part) value.0 = (given.0, given.1, value.1) in
        record { value = value.0; at = (line.values_are part value.0).1 has; has = has }

    same_at : (part : Part) (v : Valued token values part) (other : ℤ) → IsPartOf values part other → v.value ≡ other
    same_at part v other at = same_value v.value other (sym v.at ∙ at)

    -- what the state says of a part
    same_domain : (part : Part) (v : Valued token values part) (domain : Domain) → Gives state (variables.Token token part) domain → IsSingle domain v.value
    same_domain part v domain gives =
        subst (λ d. IsSingle d v.value) (gives_same state (is_state model decisions state plan is).order (variables.Token token part) v.has.0 domain v.has.1 gives) v.has.2

    pred_is : (s : Slot) (p : Pred) → HasToken model token s → slice_get model.preds s.pred ≡ Some p → pred ≡ p
    pred_is s p has at =
        let slots = token_once model token slot s has_token has in
        get_same model.preds slot.pred pred p is_pred (subst (λ (x : Slot). slice_get model.preds x.pred ≡ Some p) (sym slots) at)

    actor_kind : (kind : PredKind) → IsActor model decisions kind token → pred.kind ≡ kind
    actor_kind kind actor = ap (λ (p : Pred). p.kind) (pred_is actor.slot actor.predicate actor.has_token actor.is_predicate) ∙ actor.is_kind

    sort_kind : (kind : PredKind) → IsOfSort model kind token → pred.kind ≡ kind
    sort_kind kind sort = ap (λ (p : Pred). p.kind) (pred_is sort.slot sort.predicate sort.has_token sort.is_predicate) ∙ sort.is_kind

    module _ (some : pred.kind ≡ Plain → ⊥) where
      params : pred.params ≡ quantity ∷ []
      params = quantity_of pred.kind pred.params some (is.settled.lawful.preds slot.pred pred is_pred).quantity

      amount : Valued token values (Param 0)
      amount =
          let at : slice_get pred.params 0 ≡ Some quantity = subst (λ (list : List VarDecl). slice_get list 0 ≡ Some quantity) (sym params) refl in
          valued (Param 0) quantity.base (quantity, record { predicate = pred; is_predicate = is_pred; declared = at }, refl)

      on : Valued token values Object
      on = valued Object slot.object refl

      start : Valued token values Start
      start = valued Start (Given _) refl

      -- a quantity isn't negative
      from_zero : pos 0 ≤ℤ amount.value
      from_zero =
          let inside = is.settled.consistent.in_base (variables.Token token (Param 0)) amount.has.0 amount.has.1 in
          let param = inside.1.2 in
          let preds = pred_is inside.1.0 param.1.predicate inside.1.1 param.1.is_predicate in
          let at : slice_get (quantity ∷ []) 0 ≡ Some param.0 = subst (λ (list : List VarDecl). slice_get list 0 ≡ Some param.0) params
          (subst (λ (p : Pred). slice_get p.params 0 ≡ Some param.0) (sym preds) param.1.declared) in
          let variable : quantity ≡ param.0 = first_is quantity param.0 at in
          let base : inside.0 ≡ Given (Range (pos 0) (pos 1000000)) = param.2 ∙ (ap (λ (v : VarDecl). v.base) (sym variable) ∙ quantity_base) in
          let within : IsWithin amount.has.0 (Range (pos 0) (pos 1000000)) = subst (λ b. IsInBase amount.has.0 b) base inside.2 in
          (within.values amount.value amount.has.2.has).0

      acted_or_not : (kind : PredKind) → pred.kind ≡ kind → HasActed model object instant kind token values amount.value
          ⊎ ((other : ℤ) → HasActed model object instant kind token values other → ⊥)
      acted_or_not kind is_kind = elim (number_or_not on.value object) [
        | inr apart ↦ inr (λ other acted. apart (same_at Object on object acted.on))
        | inl same ↦ elim (most_or_not start.value instant) [
          | inr late ↦ inr (λ other acted. late (subst (λ v. v ≤ℤ instant) (sym (same_at Start start acted.start acted.starts)) acted.started))
          | inl started ↦ inl (record {
            sort = record { slot = slot; has_token = has_token; predicate = pred; is_predicate = is_pred; is_kind = is_kind };
            on = subst (λ v. IsPartOf values Object v) same on.at;
            start = start.value;
            starts = start.at;
            started = started;
            has_quantity = amount.at;
          })
        ]
      ]

      surely : (kind : PredKind) → HasActed model object instant kind token values amount.value → SurelyChanges model decisions state object instant kind token amount.value
      surely kind acted =
          let begun = (line.values_are Start acted.start).0 acted.starts in
          record {
            actor = record {
              active = line_active model decisions state plan is fact token line.takes_place;
              slot = acted.sort.slot;
              has_token = acted.sort.has_token;
              predicate = acted.sort.predicate;
              is_predicate = acted.sort.is_predicate;
              is_kind = acted.sort.is_kind;
            };
            on = (line.values_are Object object).0 acted.on;
            started = (begun.0, begun.1, omega (arith, ints, acted.started, single_greatest begun.0 acted.start (domain_of model decisions state plan is _ begun.0 begun.1) begun.2));
            least = (amount.has.0, amount.has.1, sym (single_least amount.has.0 amount.value (domain_of model decisions state plan is _ amount.has.0 amount.has.1) amount.has.2));
          }

      -- what it may change it changes, and by this quantity
      may_acted : (kind : PredKind) (other : ℤ) → MayChange model decisions state object instant kind token other
          → HasActed model object instant kind token values amount.value × (other ≡ amount.value)
      may_acted kind other may =
          let on_single = same_domain Object on may.on.0 may.on.1 in
          let start_single = same_domain Start start may.started.0 may.started.1 in
          let amount_single = same_domain (Param 0) amount may.greatest.0 may.greatest.1 in (
            record {
              sort = record { slot = slot; has_token = has_token; predicate = pred; is_predicate = is_pred; is_kind = actor_kind kind may.actor };
              on = subst (λ v. IsPartOf values Object v) (sym (on_single.only object may.on.2)) on.at;
              start = start.value;
              starts = start.at;
              started = omega (arith, ints, may.started.2, single_least may.started.0 start.value (domain_of model decisions state plan is _ may.started.0 may.started.1) start_single);
              has_quantity = amount.at;
            },
            may.greatest.2 ∙ single_greatest may.greatest.0 amount.value (domain_of model decisions state plan is _ may.greatest.0 may.greatest.1) amount_single,
          )

      produce : pred.kind ≡ Produce → (high low : ℤ) → IsHighChange model decisions state object instant token high → IsLowChange model decisions state object instant token low
          → Rises (lines.Token token fact values) high low
      produce is_kind high low is_high is_low = elim (acted_or_not Produce is_kind) [
        | inl acted ↦ record {
          rise = amount.value;
          is_rise = inl acted;
          above = elim is_high.adds [
            | inl none ↦ omega (arith, ints, none, from_zero)
            | inr adds ↦ (let same = (may_acted Produce adds.0 adds.1).1 in omega (arith, ints, adds.2, same))
          ];
          below = is_low.adds amount.value (surely Produce acted);
        }
        | inr none ↦ record {
          rise = pos 0;
          is_rise = inr (inr (record { adds_none = none; takes_none = λ other took. produce_or_consume pred.kind is_kind (sort_kind Consume took.sort) }, refl));
          above = elim is_high.adds [
            | inl nothing ↦ nothing
            | inr adds ↦ absurd (none amount.value (may_acted Produce adds.0 adds.1).0)
          ];
          below = elim is_low.takes [
            | inl nothing ↦ nothing
            | inr takes ↦ absurd (produce_or_consume pred.kind is_kind (actor_kind Consume takes.1.actor))
          ];
        }
      ]

      consume : pred.kind ≡ Consume → (high low : ℤ) → IsHighChange model decisions state object instant token high → IsLowChange model decisions state object instant token low
          → Rises (lines.Token token fact values) high low
      consume is_kind high low is_high is_low = elim (acted_or_not Consume is_kind) [
        | inl acted ↦
            let down = negated amount.value in
            record {
              rise = down.0;
              is_rise = inr (inl (amount.value, acted, down.1));
              above = omega (arith, ints, is_high.takes amount.value (surely Consume acted), down.1);
              below = elim is_low.takes [
                | inl none ↦ omega (arith, ints, none, from_zero, down.1)
                | inr takes ↦ (let same = (may_acted Consume takes.0 takes.1).1 in omega (arith, ints, takes.2, same, down.1))
              ];
            }
        | inr none ↦ record {
          rise = pos 0;
          is_rise = inr (inr (record { adds_none = λ other added. produce_or_consume pred.kind (sort_kind Produce added.sort) is_kind; takes_none = none }, refl));
          above = elim is_high.adds [
            | inl nothing ↦ nothing
            | inr adds ↦ absurd (produce_or_consume pred.kind (actor_kind Produce adds.1.actor) is_kind)
          ];
          below = elim is_low.takes [
            | inl nothing ↦ nothing
            | inr takes ↦ absurd (none amount.value (may_acted Consume takes.0 takes.1).0)
          ];
        }
      ]
        where
          negated : (n : ℤ) → (m : ℤ) × (m +ℤ n ≡ pos 0)
          negated n = ((pos 0 -ℤ n), omega (arith, ints))

    neither : (pred.kind ≡ Produce → ⊥) → (pred.kind ≡ Consume → ⊥) → (high low : ℤ) → IsHighChange model decisions state object instant token high
        → IsLowChange model decisions state object instant token low → Rises (lines.Token token fact values) high low
    neither no_produce no_consume high low is_high is_low = record {
      rise = pos 0;
      is_rise = inr (inr (record { adds_none = λ other added. no_produce (sort_kind Produce added.sort); takes_none = λ other took. no_consume (sort_kind Consume took.sort) }, refl));
      above = elim is_high.adds [ inl nothing ↦ nothing | inr adds ↦ absurd (no_produce (actor_kind Produce adds.1.actor)) ];
      below = elim is_low.takes [ inl nothing ↦ nothing | inr takes ↦ absurd (no_consume (actor_kind Consume takes.1.actor)) ];
    }

    by_kind : (kind : PredKind) → pred.kind ≡ kind → (high low : ℤ) → IsHighChange model decisions state object instant token high → IsLowChange model decisions state object instant token low
        → Rises (lines.Token token fact values) high low
    by_kind Produce e = produce (produce_some pred.kind e) e
    by_kind Consume e = consume (consume_some pred.kind e) e
    by_kind Plain e = neither (λ f. let g : Plain ≡ Produce = sym e ∙ f in cc) (λ f. let g : Plain ≡ Consume = sym e ∙ f in cc)
    by_kind Uses e = neither (λ f. let g : Uses ≡ Produce = sym e ∙ f in cc) (λ f. let g : Uses ≡ Consume = sym e ∙ f in cc)

  own_rise : (fact : Bool) (token : TokenName) (values : List ℤ) (high low : ℤ) → IsTokenLine model decisions state fact token values
      → IsHighChange model decisions state object instant token high → IsLowChange model decisions state object instant token low → Rises (lines.Token token fact values) high low
  own_rise fact token values high low line is_high is_low =
      let has = token_has model decisions state plan is token line.there in
      let pred = pred_of_slot model token has.0 is.settled.lawful has.1 in
      by_kind fact token values line has.0 has.1 pred.0 pred.1 pred.0.kind refl high low is_high is_low

  -- a token that isn't active leaves the level
  idle : (line : the_line.Line) (token : TokenName) (high low : ℤ) → LeavesLevel model object instant line → (IsActive model decisions token → ⊥)
      → IsHighChange model decisions state object instant token high → IsLowChange model decisions state object instant token low → Rises line high low
  idle line token high low leaves not is_high is_low = record {
    rise = pos 0;
    is_rise = inr (inr (leaves, refl));
    above = elim is_high.adds [ inl nothing ↦ nothing | inr adds ↦ absurd (not adds.1.actor.active) ];
    below = elim is_low.takes [ inl nothing ↦ nothing | inr takes ↦ absurd (not takes.1.actor.active) ];
  }

  record AllRise (listed : List the_line.Line) (highs lows : List ℤ) : Type 0 where
    rises : List ℤ
    are : AllZip (IsRise model object instant) listed rises
    above : sum_of highs ≤ℤ sum_of rises
    below : sum_of rises ≤ℤ sum_of lows

  one_more : (line : the_line.Line) (more : List the_line.Line) (high low : ℤ) (highs lows : List ℤ) → Rises line high low → AllRise more highs lows
      → AllRise (line ∷ more) (high ∷ highs) (low ∷ lows)
  one_more line more high low highs lows first rest = record {
    rises = first.rise ∷ rest.rises;
    are = (first.is_rise, rest.are);
    above = omega (arith, ints, first.above, rest.above);
    below = omega (arith, ints, first.below, rest.below);
  }

  all_rise : (listed : List the_line.Line) (highs lows : List ℤ) → ((line : the_line.Line) → Contains listed line → IsLineIn model decisions state line)
      → AllZip (IsHighChange model decisions state object instant) (tokens_of listed) highs → AllZip (IsLowChange model decisions state object instant) (tokens_of listed) lows
      → AllRise listed highs lows
  all_rise [] [] [] lines_in are are' = record { rises = []; are = tt; above = omega (arith, ints); below = omega (arith, ints) }
  all_rise [] [] (low ∷ lows) lines_in are are' = absurd are'
  all_rise [] (high ∷ highs) lows lines_in are are' = absurd are
  all_rise (lines.Local name value ∷ more) highs lows lines_in are are' =
      let rest = all_rise more highs lows (λ line there. lines_in line (contains_later (lines.Local name value) line more there)) are are' in
      record {
        rises = pos 0 ∷ rest.rises;
        are = (inr (inr (record { adds_none = λ other added. added; takes_none = λ other took. took }, refl)), rest.are);
        above = omega (arith, ints, rest.above);
        below = omega (arith, ints, rest.below);
      }
  all_rise (lines.Token token fact values ∷ more) [] lows lines_in are are' = absurd are
  all_rise (lines.Token token fact values ∷ more) (high ∷ highs) [] lines_in are are' = absurd are'
  all_rise (lines.Token token fact values ∷ more) (high ∷ highs) (low ∷ lows) lines_in are are' =
      let line = lines.Token token fact values in
      one_more line more high low highs lows (own_rise fact token values high low (lines_in line (contains_head line more)) are.0 are'.0)
      (all_rise more highs lows (λ other there. lines_in other (contains_later line other more there)) are.1 are'.1)
  all_rise (lines.Merged token target ∷ more) [] lows lines_in are are' = absurd are
  all_rise (lines.Merged token target ∷ more) (high ∷ highs) [] lines_in are are' = absurd are'
  all_rise (lines.Merged token target ∷ more) (high ∷ highs) (low ∷ lows) lines_in are are' =
      let line = lines.Merged token target in
      one_more line more high low highs lows (idle line token high low (record { adds_none = λ other added. added; takes_none = λ other took. took })
      (λ active. active_not_merged model decisions state plan is token target active (lines_in line (contains_head line more)).1) are.0 are'.0)
      (all_rise more highs lows (λ other there. lines_in other (contains_later line other more there)) are.1 are'.1)
  all_rise (lines.Rejected token ∷ more) [] lows lines_in are are' = absurd are
  all_rise (lines.Rejected token ∷ more) (high ∷ highs) [] lines_in are are' = absurd are'
  all_rise (lines.Rejected token ∷ more) (high ∷ highs) (low ∷ lows) lines_in are are' =
      let line = lines.Rejected token in
      one_more line more high low highs lows (idle line token high low (record { adds_none = λ other added. added; takes_none = λ other took. took })
      (λ active. active_not_rejected model decisions state plan is token active (lines_in line (contains_head line more)).1) are.0 are'.0)
      (all_rise more highs lows (λ other there. lines_in other (contains_later line other more there)) are.1 are'.1)

  level_within : (initial low high : ℤ) → StaysWithin model decisions state object instant initial low high → IsLevelWithin model object instant plan initial low high
  level_within initial low high stays =
      let same = tokens_are model decisions state plan is in
      let found = all_rise plan.lines stays.rises stays.falls (λ line there. (is.is_plan.lines line).0 there)
      (subst (λ (tokens : List TokenName). AllZip (IsHighChange model decisions state object instant) tokens stays.rises) same stays.are_rises)
      (subst (λ (tokens : List TokenName). AllZip (IsLowChange model decisions state object instant) tokens stays.falls) same stays.are_falls) in
      record {
        rises = found.rises;
        are_rises = found.are;
        high_enough = omega (arith, ints, stays.high_enough, found.above);
        low_enough = omega (arith, ints, stays.low_enough, found.below);
      }

pub keeps_reservoirs : (model : Model) (decisions : List Decision) (state : State) (plan : Plan) → IsFlawlessPlan model decisions state plan → FitReservoirs model decisions state
    → IsTokenComplete model decisions state → (place : Place) → KeepsReservoirs model plan place
keeps_reservoirs model decisions state plan is fit complete (places.Instant number instant) = λ object initial low high at kind inside.
    level_within model decisions state plan is (pos number) instant initial low high (fit complete (pos number) object initial low high instant (number, refl, at) kind inside)
keeps_reservoirs model decisions state plan is fit complete (places.Global number) = tt
keeps_reservoirs model decisions state plan is fit complete (places.Root number) = tt
keeps_reservoirs model decisions state plan is fit complete (places.Line number) = tt
keeps_reservoirs model decisions state plan is fit complete (places.Slot line rule slot) = tt
keeps_reservoirs model decisions state plan is fit complete (places.Local line rule number) = tt
keeps_reservoirs model decisions state plan is fit complete (places.Problem number) = tt
keeps_reservoirs model decisions state plan is fit complete (places.Item line rule item) = tt
keeps_reservoirs model decisions state plan is fit complete (places.Pair one other) = tt
