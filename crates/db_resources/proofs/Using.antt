-- What tokens surely use of an object, at each instant.
use Rattle.std.proofs.Common.{◌≡◌, ◌↔◌, ℤ, pos, ◌≤ℤ◌, ◌<ℤ◌, List, [], ◌∷◌, ◌⊎◌, inl, inr, Bool, true, false, not, IsTrue, Option, Some, None, refl, sym, ◌∙◌, ap, subst, arith}
use Rattle.std.specs.Prelude.{Contains, All, ⊤, IfSome, IfNone, is_some, int_le, int_lt}
use Rattle.std.proofs.lemmas.Int.{ints, by_lt_z}
use Rattle.domain_core.specs.Domain.{Domain, least, greatest}
use Rattle.domain_core.proofs.Words.{between_ends, has_least}
use Rattle.eu_name.specs.declared.name.Part.TheVariants.{Start, End, Param}
use Rattle.eu_name.specs.declared.name.TokenName.{TokenName}
use Rattle.eu_name.specs.declared.name.VarName.TheVariants.{Token}
use Rattle.model_core.specs.declared.class.PredKind.TheVariants.{Uses}
use Rattle.model_core.specs.declared.decision.Decision.{Decision}
use Rattle.model_core.specs.declared.model.Model.{Model}
use Rattle.model_core.specs.State.{State, Gives}
use Rattle.plan_defs.specs.Laws.{ListsUses}
use Rattle.plan_defs.specs.Resources.{IsActor, IsInstant, SurelyUses, KeepsCapacity}
use Rattle.plan_defs.specs.Sums.{Amount, sum_of_amounts}
use Rattle.plan_defs.specs.Timelines.{IsOn}
use Rattle.eu_name.proofs.Ordered.{contains_head}
use Rattle.plan_defs.proofs.Sharing.{shares_are_sums}
use Rattle.plan_defs.proofs.States.{gives_same, gives_domain}
use Rattle.db_resources.specs.Actors.{IsSoundView, IsActorOf}
use Rattle.db_resources.specs.Effects.{IsUseOn}
use Rattle.db_resources.specs.Picks.{Picks}
use Rattle.db_resources.specs.declared.actor.Actor.{Actor}
use Rattle.db_resources.proofs.Acting.{one_token, actor_once, actor_bounded, acting, quantity_ends, start_ends, end_ends}
use Rattle.db_resources.proofs.Listing.{Counted, Lists, lists, lists_all}
use Rattle.db_resources.proofs.Picking.{picks_through, picked_all}
use Rattle.resource_profile.specs.Instant.{IsFirst}
use Rattle.resource_profile.specs.Usage.{quantity_at, taken_at, IsOverUsed}
use Rattle.resource_profile.specs.declared.usage.Use.{Use}

-- whether the use holds at the instant, with what it takes then
abbrev Holds : ℤ → Use → Type 0
Holds instant usage = (usage.from ≤ℤ instant) × (instant <ℤ usage.until)

holds_or : (instant : ℤ) (usage : Use) → (Holds instant usage × (quantity_at usage instant ≡ usage.quantity)) ⊎ ((Holds instant usage → ⊥) × (quantity_at usage instant ≡ pos 0))
holds_or instant usage =
    by_lt_z instant usage.from
    (λ before. inr (λ holds. (let begun = holds.0 in omega (arith, ints, begun)), (let test : int_le usage.from instant ≡ false = grind (arith, ints) in rw test)))
    (λ begun. by_lt_z instant usage.until
    (λ on. inl ((begun, on), (let first : int_le usage.from instant ≡ true = grind (arith, ints) in let second : int_lt instant usage.until ≡ true = grind (arith, ints) in rw (first, second))))
    (λ ended. inr (λ holds. (let still = holds.1 in omega (arith, ints, still)), (let first : int_le usage.from instant ≡ true = grind (arith, ints) in let second : int_lt instant usage.until ≡ false = grind (arith, ints) in rw (first, second)))))

use_once : (state : State) (object : ℤ) (actor : Actor) (one other : Use) → IsUseOn state object actor one → IsUseOn state object actor other → one ≡ other
use_once state object actor one other p q =
    let from : one.from ≡ other.from = p.from ∙ sym q.from in
    let until : one.until ≡ other.until = p.until ∙ sym q.until in
    let quantity : one.quantity ≡ other.quantity = p.quantity ∙ sym q.quantity in
    (λ i. record { from = from i; until = until i; quantity = quantity i })

module _ (model : Model) (decisions : List Decision) (state : State) (sound : IsSoundView model decisions state) (object : ℤ) where
  -- the use by a token
  abbrev HasUse : TokenName → Use → Type 0
  HasUse token usage = (actor : Actor) × IsActorOf model decisions state token actor × IsUseOn state object actor usage

  has_once : (token : TokenName) (one other : Use) → HasUse token one → HasUse token other → one ≡ other
  has_once token one other (actor, is, taking) (actor', is', taking') =
      let same : actor' ≡ actor = actor_once model decisions state sound token actor' actor is' is in
      use_once state object actor one other taking (subst (λ a. IsUseOn state object a other) same taking')

  into : (instant : ℤ) (token : TokenName) (usage : Use) → HasUse token usage → Holds instant usage → SurelyUses model decisions state object instant token usage.quantity
  into instant token usage (actor, is, taking) holds = record {
    actor = subst (λ k. IsActor model decisions k token) taking.kind is.acts;
    on = subst (λ t. IsOn state t object) (one_token state actor.place taking.on.0 token taking.on.1 is.measured.at) taking.on.2;
    started = (is.measured.start, is.measured.gives_start, subst (λ n. n ≤ℤ instant) (taking.from ∙ is.measured.start_hi) holds.0);
    not_ended = (is.measured.end, is.measured.gives_end, subst (λ n. instant <ℤ n) (taking.until ∙ is.measured.end_lo) holds.1);
    least = (is.measured.quantity, is.measured.gives_quantity, taking.quantity ∙ is.measured.quantity_lo);
  }

  back : (instant : ℤ) (token : TokenName) (number : ℤ) → SurelyUses model decisions state object instant token number
      → (usage : Use) × (HasUse token usage × Holds instant usage × (number ≡ usage.quantity))
  back instant token number uses =
      let found = acting model decisions state sound token Uses uses.least.0 tt uses.least.1 uses.actor in
      let measured = found.1.measured in
      let order = sound.is_state.order in
      let start = gives_same state order (Token token Start) measured.start uses.started.0 measured.gives_start uses.started.1 in
      let end = gives_same state order (Token token End) measured.end uses.not_ended.0 measured.gives_end uses.not_ended.1 in
      let quantity = gives_same state order (Token token (Param 0)) uses.least.0 measured.quantity uses.least.1 measured.gives_quantity in (
        record { from = found.0.start_hi; until = found.0.end_lo; quantity = found.0.quantity_lo },
        (
          (found.0, found.1, record { kind = found.2; on = (token, measured.at, uses.on); from = refl; until = refl; quantity = refl }),
          (
            subst (λ n. n ≤ℤ instant) (sym (measured.start_hi ∙ ap greatest start)) uses.started.2,
            subst (λ n. instant <ℤ n) (sym (measured.end_lo ∙ ap least end)) uses.not_ended.2,
          ),
          uses.least.2 ∙ ap least quantity ∙ sym measured.quantity_lo,
        ),
      )

  counted : (instant : ℤ) → Counted HasUse (SurelyUses model decisions state object instant) (Holds instant) (λ usage. usage.quantity) (λ usage. quantity_at usage instant)
  counted instant = record { once = has_once; either = holds_or instant; into = into instant; back = back instant }

  not_negative : (instant : ℤ) (token : TokenName) (quantity : ℤ) → SurelyUses model decisions state object instant token quantity → pos 0 ≤ℤ quantity
  not_negative instant token quantity uses =
      let ends = quantity_ends model decisions state sound Uses token uses.least.0 tt uses.actor uses.least.1 in
      let is = uses.least.2 in
      omega (arith, ints, ends.0, is)

  start_order : (token : TokenName) (domain : Domain) → Gives state (Token token Start) domain → least domain ≤ℤ greatest domain
  start_order token domain gives =
      let ok = gives_domain model state sound.is_state (Token token Start) domain gives in
      (between_ends domain (least domain) ok (has_least domain ok)).1

  end_order : (token : TokenName) (domain : Domain) → Gives state (Token token End) domain → least domain ≤ℤ greatest domain
  end_order token domain gives =
      let ok = gives_domain model state sound.is_state (Token token End) domain gives in
      (between_ends domain (least domain) ok (has_least domain ok)).1

  in_horizon : (instant : ℤ) (token : TokenName) (quantity : ℤ) → SurelyUses model decisions state object instant token quantity → IsInstant model instant
  in_horizon instant token quantity uses =
      let starts = start_ends model decisions state sound token uses.started.0 uses.started.1 in
      let ends = end_ends model decisions state sound token uses.not_ended.0 uses.not_ended.1 in
      let order = (start_order token uses.started.0 uses.started.1) in
      let order' = (end_order token uses.not_ended.0 uses.not_ended.1) in
      let begun = uses.started.2 in
      let still = uses.not_ended.2 in
      (omega (arith, ints, starts.0, order, begun), omega (arith, ints, ends.1, order', still))

  there : (instant : ℤ) (token : TokenName) (quantity : ℤ) → SurelyUses model decisions state object instant token quantity → Contains state.tokens token
  there instant token quantity uses = ((sound.is_state.variables (Token token (Param 0))).1 (uses.least.0, uses.least.1)).0

  module _ (actors : List Actor) (uses : List Use) (acting : Picks (IsActorOf model decisions state) state.tokens actors) (using : Picks (IsUseOn state object) actors uses) where
    listed : (instant : ℤ) → Lists (SurelyUses model decisions state object instant) state.tokens (taken_at uses instant)
    listed instant =
        lists HasUse (SurelyUses model decisions state object instant) (Holds instant) (λ usage. usage.quantity) (λ usage. quantity_at usage instant) (counted instant)
        (λ list. taken_at list instant) refl (λ thing things. refl) state.tokens sound.is_state.order.tokens uses
        (picks_through (IsActorOf model decisions state) (IsUseOn state object) (actor_once model decisions state sound) state.tokens actors uses acting using)

    lists_uses : (instant : ℤ) → ListsUses model decisions state object instant (listed instant).listed
    lists_uses instant = record {
      all = lists_all (SurelyUses model decisions state object instant) state.tokens (taken_at uses instant) (listed instant) (there instant);
      whole = not_negative instant;
    }

    -- the capacity is kept exactly where what is taken isn't more
    pub kept : (instant capacity : ℤ) → KeepsCapacity model decisions state object instant capacity ↔ (taken_at uses instant ≤ℤ capacity)
    kept instant capacity =
        subst (λ n. KeepsCapacity model decisions state object instant capacity ↔ (n ≤ℤ capacity)) (sym (listed instant).is_sum)
        (shares_are_sums model decisions state object instant sound.is_state (listed instant).listed (lists_uses instant) capacity)

    -- where something is taken there is an instant of the horizon
    some_listed : (instant : ℤ) (list : List Amount) → ((each : Amount) → Contains list each → SurelyUses model decisions state object instant each.token each.amount)
        → pos 0 <ℤ sum_of_amounts list → IsInstant model instant
    some_listed instant [] each more = absurd (omega (arith, ints))
    some_listed instant (first ∷ rest) each more = in_horizon instant first.token first.amount (each first (contains_head first rest))

    pub over_in_horizon : (instant capacity : ℤ) → pos 0 ≤ℤ capacity → IsOverUsed uses capacity instant → IsInstant model instant
    over_in_horizon instant capacity room over =
        let is_sum = (listed instant).is_sum in
        some_listed instant (listed instant).listed (λ each c. ((listed instant).have each c).0) (omega (arith, ints, room, over, is_sum))

    -- the quantities aren't negative
    pub quantities : All (λ usage. pos 0 ≤ℤ usage.quantity) uses
    quantities =
        picked_all HasUse (λ token. ⊤) (λ usage. pos 0 ≤ℤ usage.quantity)
        (λ token usage whole (actor, is, taking). (
        let bounds = (actor_bounded model decisions state sound token actor is).lo in
        let quantity = taking.quantity in
        omega (arith, ints, bounds, quantity)))
        state.tokens uses (λ k d within. tt)
        (picks_through (IsActorOf model decisions state) (IsUseOn state object) (actor_once model decisions state sound) state.tokens actors uses acting using)

    KeptAll : ℤ → Type 0
    KeptAll capacity = (instant : ℤ) → IsInstant model instant → KeepsCapacity model decisions state object instant capacity

    none_over : (capacity : ℤ) → ((instant : ℤ) → IsOverUsed uses capacity instant → ⊥) → KeptAll capacity
    unfolding KeptAll
    none_over capacity none instant within =
        (kept instant capacity).1 (by_lt_z capacity (taken_at uses instant) (λ over. absurd (none instant over)) (λ enough. enough))

    some_over : (capacity instant : ℤ) → pos 0 ≤ℤ capacity → IsOverUsed uses capacity instant → KeptAll capacity → ⊥
    unfolding KeptAll
    some_over capacity instant room over all =
        let enough = (kept instant capacity).0 (all instant (over_in_horizon instant capacity room over)) in
        omega (arith, ints, over, enough)

    -- no first instant of too much use is exactly that the capacity is kept
    pub told : (capacity : ℤ) (found : Option ℤ) (none : Bool) → pos 0 ≤ℤ capacity → is_some found ≡ not none
        → IfSome found (IsFirst (IsOverUsed uses capacity)) → IfNone found ((instant : ℤ) → IsOverUsed uses capacity instant → ⊥)
        → IsTrue none ↔ ((instant : ℤ) → IsInstant model instant → KeepsCapacity model decisions state object instant capacity)
    unfolding KeptAll
    told capacity None true room is first nothing = (λ _. none_over capacity nothing, λ _. refl)
    told capacity None false room is first nothing = absurd (let e : false ≡ true = is in cc)
    told capacity (Some instant) true room is first nothing = absurd (let e : true ≡ false = is in cc)
    told capacity (Some instant) false room is first nothing = (λ told. cc, λ all. absurd (some_over capacity instant room first.0 all))
