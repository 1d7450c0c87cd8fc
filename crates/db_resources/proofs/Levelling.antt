-- The highest and the lowest level of an object, at each instant.
use Rattle.std.proofs.Common.{◌≡◌, ◌↔◌, IsTrue, ℤ, pos, ◌+ℤ◌, ◌≤ℤ◌, ◌<ℤ◌, List, [], ◌∷◌, ◌⊎◌, inl, inr, Bool, true, false, ◌&&◌, refl, sym, ◌∙◌, ap, subst, arith}
use Rattle.std.specs.Prelude.{Contains, All, ⊤, int_le}
use Rattle.std.proofs.lemmas.Int.{ints, by_lt_z}
use Rattle.domain_core.specs.Domain.{least, greatest}
use Rattle.eu_name.specs.declared.name.Part.TheVariants.{Start, Param}
use Rattle.eu_name.specs.declared.name.TokenName.{TokenName}
use Rattle.eu_name.specs.declared.name.VarName.TheVariants.{Token}
use Rattle.model_core.specs.declared.class.PredKind.{PredKind}
use Rattle.model_core.specs.declared.class.PredKind.TheVariants.{Plain, Uses, Produce, Consume}
use Rattle.model_core.specs.declared.decision.Decision.{Decision}
use Rattle.model_core.specs.declared.model.Model.{Model}
use Rattle.model_core.specs.State.{State}
use Rattle.plan_defs.specs.Laws.{ListsChanges}
use Rattle.plan_defs.specs.Resources.{IsActor, IsInstant, MayBeOn, SurelyChanges, MayChange, HasGreatestChange, HasLeastChange, StaysWithin}
use Rattle.plan_defs.specs.Timelines.{IsOn}
use Rattle.plan_defs.proofs.Sharing.{changes_are_sums}
use Rattle.plan_defs.proofs.States.{gives_same}
use Rattle.db_resources.specs.Actors.{IsSoundView, IsRole, IsActorOf, IsBounded}
use Rattle.db_resources.specs.Effects.{IsPossible, IsSure, IsChangeAs, IsChangeOf}
use Rattle.db_resources.specs.Picks.{Picks}
use Rattle.db_resources.specs.declared.actor.Actor.{Actor}
use Rattle.db_resources.specs.declared.change.Extreme.{Extreme}
use Rattle.db_resources.specs.declared.change.Extreme.TheVariants.{Highest, Lowest}
use Rattle.db_resources.proofs.Acting.{one_token, actor_once, actor_bounded, acting, quantity_ends}
use Rattle.db_resources.proofs.Listing.{Counted, Lists, lists, lists_all}
use Rattle.db_resources.proofs.Picking.{picks_through, picked_all}
use Rattle.resource_profile.specs.Instant.{IsFirst}
use Rattle.resource_profile.specs.Level.{added_at, level_at, IsSmall, IsPastAt, IsPastFrom}
use Rattle.resource_profile.specs.declared.level.LevelChange.{LevelChange}
use Rattle.resource_profile.specs.declared.level.Limit.{Limit}
use Rattle.resource_profile.specs.declared.level.Limit.TheVariants.{Low, High}

-- whether the change has come by the instant, with what it adds then
abbrev Comes : ℤ → LevelChange → Type 0
Comes instant change = change.at ≤ℤ instant

comes_or : (instant : ℤ) (change : LevelChange) → (Comes instant change × (added_at change instant ≡ change.add)) ⊎ ((Comes instant change → ⊥) × (added_at change instant ≡ pos 0))
comes_or instant change =
    by_lt_z instant change.at
    (λ before. inr (λ comes. omega (arith, ints, comes), (let test : int_le change.at instant ≡ false = grind (arith, ints) in rw test)))
    (λ come. inl (come, (let test : int_le change.at instant ≡ true = grind (arith, ints) in rw test)))

-- the initial level is added once
level_from : (changes : List LevelChange) (initial instant : ℤ) → level_at changes initial instant ≡ initial +ℤ level_at changes (pos 0) instant
level_from [] initial instant = omega (arith, ints)
level_from (change ∷ changes) initial instant = let rest = level_from changes initial instant in omega (arith, ints)

same_change : (one other : LevelChange) → one.at ≡ other.at → one.add ≡ other.add → one ≡ other
same_change one other at add = (λ i. record { at = at i; add = add i })

-- what each extreme lists
abbrev HasExtreme : Model → List Decision → State → ℤ → ℤ → Extreme → TokenName → ℤ → Type 0
HasExtreme model decisions state object instant Highest = HasGreatestChange model decisions state object instant
HasExtreme model decisions state object instant Lowest = HasLeastChange model decisions state object instant

-- a quantity that is added or taken away is small
small_of : (actor : Actor) (change : LevelChange) → pos 0 ≤ℤ actor.quantity_lo → actor.quantity_lo ≤ℤ actor.quantity_hi → actor.quantity_hi ≤ℤ pos 1000000
    → ((change.add ≡ actor.quantity_lo) ⊎ (change.add ≡ actor.quantity_hi))
    ⊎ ((n : ℤ) × ((n ≡ actor.quantity_lo) ⊎ (n ≡ actor.quantity_hi)) × (change.add +ℤ n ≡ pos 0)) → IsSmall change
small_of actor change lo order hi (inl (inl is)) = (omega (arith, ints), omega (arith, ints))
small_of actor change lo order hi (inl (inr is)) = (omega (arith, ints), omega (arith, ints))
small_of actor change lo order hi (inr (n, inl is, sum)) = (omega (arith, ints), omega (arith, ints))
small_of actor change lo order hi (inr (n, inr is, sum)) = (omega (arith, ints), omega (arith, ints))

module _ (state : State) (object : ℤ) where
  change_once : (extreme : Extreme) (kind : PredKind) (actor : Actor) (one other : LevelChange) → IsChangeAs state object extreme kind actor one → IsChangeAs state object extreme kind actor other → one ≡ other
  change_once Highest Produce actor one other p q = same_change one other (p.at ∙ sym q.at) (p.quantity ∙ sym q.quantity)
  change_once Highest Consume actor one other (n, p, sum) (m, q, total) =
      same_change one other (p.at ∙ sym q.at) (let a = p.quantity in let b = q.quantity in omega (arith, ints, a, b, sum, total))
  change_once Highest Plain actor one other p q = absurd p
  change_once Highest Uses actor one other p q = absurd p
  change_once Lowest Produce actor one other p q = same_change one other (p.at ∙ sym q.at) (p.quantity ∙ sym q.quantity)
  change_once Lowest Consume actor one other (n, p, sum) (m, q, total) =
      same_change one other (p.at ∙ sym q.at) (let a = p.quantity in let b = q.quantity in omega (arith, ints, a, b, sum, total))
  change_once Lowest Plain actor one other p q = absurd p
  change_once Lowest Uses actor one other p q = absurd p

  change_small : (extreme : Extreme) (kind : PredKind) (actor : Actor) (change : LevelChange) → IsBounded actor → IsChangeAs state object extreme kind actor change → IsSmall change
  change_small Highest Produce actor change bounds p = small_of actor change bounds.lo bounds.order bounds.hi (inl (inr p.quantity))
  change_small Highest Consume actor change bounds (n, p, sum) = small_of actor change bounds.lo bounds.order bounds.hi (inr (n, inl p.quantity, sum))
  change_small Highest Plain actor change bounds p = absurd p
  change_small Highest Uses actor change bounds p = absurd p
  change_small Lowest Produce actor change bounds p = small_of actor change bounds.lo bounds.order bounds.hi (inl (inl p.quantity))
  change_small Lowest Consume actor change bounds (n, p, sum) = small_of actor change bounds.lo bounds.order bounds.hi (inr (n, inr p.quantity, sum))
  change_small Lowest Plain actor change bounds p = absurd p
  change_small Lowest Uses actor change bounds p = absurd p

module _ (model : Model) (decisions : List Decision) (state : State) (sound : IsSoundView model decisions state) (object : ℤ) where
  -- the change by a token
  abbrev HasChange : Extreme → TokenName → LevelChange → Type 0
  HasChange extreme token change = (actor : Actor) × IsActorOf model decisions state token actor × IsChangeOf state object extreme actor change

  has_once : (extreme : Extreme) (token : TokenName) (one other : LevelChange) → HasChange extreme token one → HasChange extreme token other → one ≡ other
  has_once extreme token one other (actor, is, changes) (actor', is', changes') =
      let same : actor' ≡ actor = actor_once model decisions state sound token actor' actor is' is in
      change_once state object extreme actor.kind actor one other changes (subst (λ a. IsChangeOf state object extreme a other) same changes')

  -- ---- what an actor does is what its token does

  module _ (instant : ℤ) (token : TokenName) (actor : Actor) (is : IsActorOf model decisions state token actor) (kind : PredKind) (kinds : actor.kind ≡ kind) where
    acts_as : IsActor model decisions kind token
    acts_as = subst (λ k. IsActor model decisions k token) kinds is.acts

    possible_may : (at quantity : ℤ) → IsPossible state object actor at quantity → at ≤ℤ instant → MayChange model decisions state object instant kind token quantity
    possible_may at quantity possible come = record {
      actor = acts_as;
      on = subst (λ t. MayBeOn state t object) (one_token state actor.place possible.on.0 token possible.on.1 is.measured.at) possible.on.2;
      started = (is.measured.start, is.measured.gives_start, subst (λ n. n ≤ℤ instant) (possible.at ∙ is.measured.start_lo) come);
      greatest = (is.measured.quantity, is.measured.gives_quantity, possible.quantity ∙ is.measured.quantity_hi);
    }

    sure_surely : (at quantity : ℤ) → IsSure state object actor at quantity → at ≤ℤ instant → SurelyChanges model decisions state object instant kind token quantity
    sure_surely at quantity sure come = record {
      actor = acts_as;
      on = subst (λ t. IsOn state t object) (one_token state actor.place sure.on.0 token sure.on.1 is.measured.at) sure.on.2;
      started = (is.measured.start, is.measured.gives_start, subst (λ n. n ≤ℤ instant) (sure.at ∙ is.measured.start_hi) come);
      least = (is.measured.quantity, is.measured.gives_quantity, sure.quantity ∙ is.measured.quantity_lo);
    }

  into_as : (instant : ℤ) (extreme : Extreme) (kind : PredKind) (token : TokenName) (actor : Actor) (change : LevelChange) → IsActorOf model decisions state token actor → actor.kind ≡ kind
      → IsChangeAs state object extreme kind actor change → Comes instant change → HasExtreme model decisions state object instant extreme token change.add
  into_as instant Highest Produce token actor change is kinds possible come = inl (possible_may instant token actor is Produce kinds change.at change.add possible come)
  into_as instant Highest Consume token actor change is kinds (quantity, sure, sum) come = inr (quantity, sure_surely instant token actor is Consume kinds change.at quantity sure come, sum)
  into_as instant Highest Plain token actor change is kinds none come = absurd none
  into_as instant Highest Uses token actor change is kinds none come = absurd none
  into_as instant Lowest Produce token actor change is kinds sure come = inl (sure_surely instant token actor is Produce kinds change.at change.add sure come)
  into_as instant Lowest Consume token actor change is kinds (quantity, possible, sum) come = inr (quantity, possible_may instant token actor is Consume kinds change.at quantity possible come, sum)
  into_as instant Lowest Plain token actor change is kinds none come = absurd none
  into_as instant Lowest Uses token actor change is kinds none come = absurd none

  into : (instant : ℤ) (extreme : Extreme) (token : TokenName) (change : LevelChange) → HasChange extreme token change → Comes instant change → HasExtreme model decisions state object instant extreme token change.add
  into instant extreme token change (actor, is, changes) come = into_as instant extreme actor.kind token actor change is refl changes come

  -- ---- and the other way round

  -- the actor of what may change a level, with what it may do
  record Possible (instant : ℤ) (kind : PredKind) (token : TokenName) (quantity : ℤ) : Type 0 where
    actor : Actor
    is : IsActorOf model decisions state token actor
    is_kind : actor.kind ≡ kind
    at : ℤ
    possible : IsPossible state object actor at quantity
    come : at ≤ℤ instant

  record Sure (instant : ℤ) (kind : PredKind) (token : TokenName) (quantity : ℤ) : Type 0 where
    actor : Actor
    is : IsActorOf model decisions state token actor
    is_kind : actor.kind ≡ kind
    at : ℤ
    sure : IsSure state object actor at quantity
    come : at ≤ℤ instant

  may_possible : (instant : ℤ) (kind : PredKind) (token : TokenName) (quantity : ℤ) → IsRole kind → MayChange model decisions state object instant kind token quantity → Possible instant kind token quantity
  may_possible instant kind token quantity role may =
      let found = acting model decisions state sound token kind may.greatest.0 role may.greatest.1 may.actor in
      let measured = found.1.measured in
      let order = sound.is_state.order in
      let start = gives_same state order (Token token Start) measured.start may.started.0 measured.gives_start may.started.1 in
      let quantities = gives_same state order (Token token (Param 0)) may.greatest.0 measured.quantity may.greatest.1 measured.gives_quantity in
      record {
        actor = found.0;
        is = found.1;
        is_kind = found.2;
        at = found.0.start_lo;
        possible = record { on = (token, measured.at, may.on); at = refl; quantity = may.greatest.2 ∙ ap greatest quantities ∙ sym measured.quantity_hi };
        come = subst (λ n. n ≤ℤ instant) (sym (measured.start_lo ∙ ap least start)) may.started.2;
      }

  surely_sure : (instant : ℤ) (kind : PredKind) (token : TokenName) (quantity : ℤ) → IsRole kind → SurelyChanges model decisions state object instant kind token quantity → Sure instant kind token quantity
  surely_sure instant kind token quantity role surely =
      let found = acting model decisions state sound token kind surely.least.0 role surely.least.1 surely.actor in
      let measured = found.1.measured in
      let order = sound.is_state.order in
      let start = gives_same state order (Token token Start) measured.start surely.started.0 measured.gives_start surely.started.1 in
      let quantities = gives_same state order (Token token (Param 0)) surely.least.0 measured.quantity surely.least.1 measured.gives_quantity in
      record {
        actor = found.0;
        is = found.1;
        is_kind = found.2;
        at = found.0.start_hi;
        sure = record { on = (token, measured.at, surely.on); at = refl; quantity = surely.least.2 ∙ ap least quantities ∙ sym measured.quantity_lo };
        come = subst (λ n. n ≤ℤ instant) (sym (measured.start_hi ∙ ap greatest start)) surely.started.2;
      }

  backed_by : (instant : ℤ) (extreme : Extreme) (kind : PredKind) (token : TokenName) (number : ℤ) (actor : Actor) (change : LevelChange) → IsActorOf model decisions state token actor → actor.kind ≡ kind
      → IsChangeAs state object extreme kind actor change → Comes instant change → number ≡ change.add
      → (change : LevelChange) × (HasChange extreme token change × Comes instant change × (number ≡ change.add))
  backed_by instant extreme kind token number actor change is kinds changes come same =
      (change, ((actor, is, subst (λ k. IsChangeAs state object extreme k actor change) (sym kinds) changes), come, same))

  back : (instant : ℤ) (extreme : Extreme) (token : TokenName) (number : ℤ) → HasExtreme model decisions state object instant extreme token number
      → (change : LevelChange) × (HasChange extreme token change × Comes instant change × (number ≡ change.add))
  back instant Highest token number (inl may) =
      let p = may_possible instant Produce token number tt may in
      backed_by instant Highest Produce token number p.actor (record { at = p.at; add = number }) p.is p.is_kind p.possible p.come refl
  back instant Highest token number (inr (quantity, surely, sum)) =
      let p = surely_sure instant Consume token quantity tt surely in
      backed_by instant Highest Consume token number p.actor (record { at = p.at; add = number }) p.is p.is_kind (quantity, p.sure, sum) p.come refl
  back instant Lowest token number (inl surely) =
      let p = surely_sure instant Produce token number tt surely in
      backed_by instant Lowest Produce token number p.actor (record { at = p.at; add = number }) p.is p.is_kind p.sure p.come refl
  back instant Lowest token number (inr (quantity, may, sum)) =
      let p = may_possible instant Consume token quantity tt may in
      backed_by instant Lowest Consume token number p.actor (record { at = p.at; add = number }) p.is p.is_kind (quantity, p.possible, sum) p.come refl

  counted : (instant : ℤ) (extreme : Extreme) → Counted (HasChange extreme) (HasExtreme model decisions state object instant extreme) (Comes instant) (λ change. change.add) (λ change. added_at change instant)
  counted instant extreme = record { once = has_once extreme; either = comes_or instant; into = into instant extreme; back = back instant extreme }

  -- ---- what is listed

  may_there : (instant : ℤ) (kind : PredKind) (token : TokenName) (quantity : ℤ) → MayChange model decisions state object instant kind token quantity → Contains state.tokens token
  may_there instant kind token quantity may = ((sound.is_state.variables (Token token (Param 0))).1 (may.greatest.0, may.greatest.1)).0

  surely_there : (instant : ℤ) (kind : PredKind) (token : TokenName) (quantity : ℤ) → SurelyChanges model decisions state object instant kind token quantity → Contains state.tokens token
  surely_there instant kind token quantity surely = ((sound.is_state.variables (Token token (Param 0))).1 (surely.least.0, surely.least.1)).0

  there : (instant : ℤ) (extreme : Extreme) (token : TokenName) (number : ℤ) → HasExtreme model decisions state object instant extreme token number → Contains state.tokens token
  there instant Highest token number (inl may) = may_there instant Produce token number may
  there instant Highest token number (inr (quantity, surely, sum)) = surely_there instant Consume token quantity surely
  there instant Lowest token number (inl surely) = surely_there instant Produce token number surely
  there instant Lowest token number (inr (quantity, may, sum)) = may_there instant Consume token quantity may

  not_negative : (instant : ℤ) (kind : PredKind) (token : TokenName) (quantity : ℤ) → IsRole kind
      → (MayChange model decisions state object instant kind token quantity ⊎ SurelyChanges model decisions state object instant kind token quantity) → pos 0 ≤ℤ quantity
  not_negative instant kind token quantity role (inl may) =
      let ends = quantity_ends model decisions state sound kind token may.greatest.0 role may.actor may.greatest.1 in
      let is = may.greatest.2 in
      omega (arith, ints, ends.0, ends.1, is)
  not_negative instant kind token quantity role (inr surely) =
      let ends = quantity_ends model decisions state sound kind token surely.least.0 role surely.actor surely.least.1 in
      let is = surely.least.2 in
      omega (arith, ints, ends.0, is)

  module _ (actors : List Actor) (acting : Picks (IsActorOf model decisions state) state.tokens actors) where
    listed : (instant : ℤ) (extreme : Extreme) (changes : List LevelChange) → Picks (IsChangeOf state object extreme) actors changes
        → Lists (HasExtreme model decisions state object instant extreme) state.tokens (level_at changes (pos 0) instant)
    listed instant extreme changes changing =
        lists (HasChange extreme) (HasExtreme model decisions state object instant extreme) (Comes instant) (λ change. change.add) (λ change. added_at change instant) (counted instant extreme)
        (λ list. level_at list (pos 0) instant) refl (λ thing things. refl) state.tokens sound.is_state.order.tokens changes
        (picks_through (IsActorOf model decisions state) (IsChangeOf state object extreme) (actor_once model decisions state sound) state.tokens actors changes acting changing)

    module _ (rises falls : List LevelChange) (rising : Picks (IsChangeOf state object Highest) actors rises) (falling : Picks (IsChangeOf state object Lowest) actors falls) where
      up : (instant : ℤ) → Lists (HasGreatestChange model decisions state object instant) state.tokens (level_at rises (pos 0) instant)
      up instant = listed instant Highest rises rising

      down : (instant : ℤ) → Lists (HasLeastChange model decisions state object instant) state.tokens (level_at falls (pos 0) instant)
      down instant = listed instant Lowest falls falling

      lists_changes : (instant : ℤ) → ListsChanges model decisions state object instant (up instant).listed (down instant).listed
      lists_changes instant = record {
        greatest = lists_all (HasGreatestChange model decisions state object instant) state.tokens (level_at rises (pos 0) instant) (up instant) (there instant Highest);
        least = lists_all (HasLeastChange model decisions state object instant) state.tokens (level_at falls (pos 0) instant) (down instant) (there instant Lowest);
        produced = λ token quantity is. not_negative instant Produce token quantity tt is;
        consumed = λ token quantity is. not_negative instant Consume token quantity tt is;
      }

      -- the level can stay within its limits exactly where the highest isn't below the one nor the lowest above the other
      pub stays : (instant initial low high : ℤ) → StaysWithin model decisions state object instant initial low high
          ↔ ((IsPastAt rises initial (Low low) instant → ⊥) × (IsPastAt falls initial (High high) instant → ⊥))
      stays instant initial low high =
          let sums = changes_are_sums model decisions state object instant sound.is_state (up instant).listed (down instant).listed (lists_changes instant) initial low high in
          let rise = (up instant).is_sum in
          let fall = (down instant).is_sum in
          let highest = level_from rises initial instant in
          let lowest = level_from falls initial instant in (
            λ within. (let both = sums.0 within in (λ past. omega (arith, ints, both.0, rise, highest, past), λ past. omega (arith, ints, both.1, fall, lowest, past))),
            λ neither. sums.1 (
              by_lt_z (level_at rises initial instant) low (λ past. absurd (neither.0 past)) (λ enough. omega (arith, ints, rise, highest, enough)),
              by_lt_z high (level_at falls initial instant) (λ past. absurd (neither.1 past)) (λ enough. omega (arith, ints, fall, lowest, enough)),
            ),
          )

      -- so it can at each instant where each keeps its limit at each
      pub told : (initial low high : ℤ) (high_enough low_enough : Bool)
          → IsTrue high_enough ↔ ((instant : ℤ) → IsInstant model instant → IsPastAt rises initial (Low low) instant → ⊥)
          → IsTrue low_enough ↔ ((instant : ℤ) → IsInstant model instant → IsPastAt falls initial (High high) instant → ⊥)
          → IsTrue (high_enough && low_enough) ↔ ((instant : ℤ) → IsInstant model instant → StaysWithin model decisions state object instant initial low high)
      told initial low high true true up_is down_is =
          (λ both instant within. (stays instant initial low high).1 (up_is.0 refl instant within, down_is.0 refl instant within), λ all. refl)
      told initial low high true false up_is down_is =
          (λ both. cc, λ all. down_is.1 (λ instant within. ((stays instant initial low high).0 (all instant within)).1))
      told initial low high false low_enough up_is down_is =
          (λ both. cc, λ all. up_is.1 (λ instant within. ((stays instant initial low high).0 (all instant within)).0))

-- the changes are small
pub changes_small : (state : State) (object : ℤ) (extreme : Extreme) (actors : List Actor) (changes : List LevelChange) → All IsBounded actors → Picks (IsChangeOf state object extreme) actors changes → All IsSmall changes
changes_small state object extreme actors changes bounded changing =
    picked_all (IsChangeOf state object extreme) IsBounded IsSmall (λ actor change bounds is. change_small state object extreme actor.kind actor change bounds is) actors changes bounded changing

-- the actors are bounded
pub actors_bounded : (model : Model) (decisions : List Decision) (state : State) → IsSoundView model decisions state → (actors : List Actor) → Picks (IsActorOf model decisions state) state.tokens actors → All IsBounded actors
actors_bounded model decisions state sound actors acting =
    picked_all (IsActorOf model decisions state) (λ token. ⊤) IsBounded (λ token actor whole is. actor_bounded model decisions state sound token actor is) state.tokens actors (λ k d within. tt) acting

-- whether the first instant past the limit is behind the end
pub limit_told : (changes : List LevelChange) (initial : ℤ) (limit : Limit) (start end first : ℤ) (told : Bool) → (end <ℤ first → told ≡ true) → (first ≤ℤ end → told ≡ false)
    → IsFirst (IsPastFrom changes initial limit start) first
    → IsTrue told ↔ ((instant : ℤ) → (start ≤ℤ instant) × (instant ≤ℤ end) → IsPastAt changes initial limit instant → ⊥)
limit_told changes initial limit start end first told behind within is =
    by_lt_z end first
    (λ after. (
      λ yes_told instant inside past. is.1 instant (let last = inside.1 in omega (arith, ints, last, after)) (inside.0, past),
      λ all. behind after,
    ))
    (λ not_after. (
      λ yes_told. absurd (let a = within not_after in cc),
      λ all. absurd (all first (is.0.0, not_after) is.0.1),
    ))

-- what is told of numbers is told of their equals
pub along_levels : (model : Model) (decisions : List Decision) (state : State) (told : Bool) (object initial low high object' initial' low' high' : ℤ) → object ≡ object' → initial ≡ initial' → low ≡ low' → high ≡ high'
    → IsTrue told ↔ ((instant : ℤ) → IsInstant model instant → StaysWithin model decisions state object instant initial low high)
    → IsTrue told ↔ ((instant : ℤ) → IsInstant model instant → StaysWithin model decisions state object' instant initial' low' high')
along_levels model decisions state told object initial low high object' initial' low' high' p q r s is =
    subst (λ o. IsTrue told ↔ ((instant : ℤ) → IsInstant model instant → StaysWithin model decisions state o instant initial' low' high')) p
    (subst (λ n. IsTrue told ↔ ((instant : ℤ) → IsInstant model instant → StaysWithin model decisions state object instant n low' high')) q
    (subst (λ n. IsTrue told ↔ ((instant : ℤ) → IsInstant model instant → StaysWithin model decisions state object instant initial n high')) r
    (subst (λ n. IsTrue told ↔ ((instant : ℤ) → IsInstant model instant → StaysWithin model decisions state object instant initial low n)) s is)))
