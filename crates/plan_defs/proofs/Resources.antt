-- Resources that fit in a lower state fit in the higher one.
use Rattle.std.proofs.Common.{◌≡◌, ℤ, pos, ◌≤ℤ◌, List, inl, inr, refl, subst, arith}
use Rattle.std.specs.Prelude.{Contains}
use Rattle.std.proofs.lemmas.Int.{ints}
use Rattle.domain_core.specs.Domain.{Domain, IsWithin, least, greatest}
use Rattle.eu_name.specs.declared.name.Part.TheVariants.{Start, Object, Param}
use Rattle.eu_name.specs.declared.name.TokenName.{TokenName}
use Rattle.eu_name.specs.declared.name.VarName.{VarName}
use Rattle.eu_name.specs.declared.name.VarName.TheVariants.{Token}
use Rattle.model_core.specs.declared.class.PredKind.{PredKind}
use Rattle.model_core.specs.declared.class.PredKind.TheVariants.{Produce, Consume}
use Rattle.model_core.specs.declared.decision.Decision.{Decision}
use Rattle.model_core.specs.declared.model.Model.{Model}
use Rattle.model_core.specs.Decided.{IsActive}
use Rattle.model_core.specs.State.{State, Gives, IsState, IsBelow}
use Rattle.plan_defs.specs.Resources.{HasStarted, HasNotEnded, IsLeastQuantity, SurelyUses, IsShare, SurelyChanges, MayChange, IsHighChange, IsLowChange, KeepsCapacity, StaysWithin, FitReusables}
use Rattle.plan_defs.proofs.Lower.{least_rises, greatest_falls, on_below}
use Rattle.plan_defs.proofs.States.{gives_domain, gives_same}
use Rattle.plan_defs.proofs.Chosen.{Leans, chosen}

-- a sum of the numbers of more tokens is at most the other one where what is idle adds nothing, and at least where it takes nothing
less : Leans ◌≤ℤ◌ (λ number. number ≤ℤ pos 0)
less = record {
  start = omega (arith, ints);
  both = λ number one other le. omega (arith, ints, le);
  more = λ number one other idle le. omega (arith, ints, idle, le);
}

more : Leans (λ one other. other ≤ℤ one) (λ number. pos 0 ≤ℤ number)
more = record {
  start = omega (arith, ints);
  both = λ number one other le. omega (arith, ints, le);
  more = λ number one other idle le. omega (arith, ints, idle, le);
}

module _ (model : Model) (decisions : List Decision) (high low : State) (high_ok : IsState model high) (low_ok : IsState model low) (below : IsBelow high low) where
  -- a variable's domain in the lower state, with its ends
  record Down (name : VarName) (domain : Domain) : Type 0 where
    lower : Domain
    gives : Gives low name lower
    within : IsWithin lower domain
    rises : least domain ≤ℤ least lower
    falls : greatest lower ≤ℤ greatest domain

  down : (name : VarName) (domain : Domain) → Gives high name domain → Down name domain
  down name domain gives =
      let found = below.variables name domain gives in
      let outer = gives_domain model high high_ok name domain gives in
      let inner = gives_domain model low low_ok name found.0 found.1 in
      record {
        lower = found.0;
        gives = found.1;
        within = found.2;
        rises = least_rises found.0 domain inner outer found.2;
        falls = greatest_falls found.0 domain inner outer found.2;
      }

  -- the least quantity rises
  least_below : (token : TokenName) (quantity : ℤ) → IsLeastQuantity high token quantity → (more : ℤ) × IsLeastQuantity low token more × (quantity ≤ℤ more)
  least_below token quantity is =
      let d = down _ is.0 is.1 in
      let at = is.2 in
      let rises = d.rises in
      (least d.lower, (d.lower, d.gives, refl), omega (arith, ints, at, rises))

  started_below : (token : TokenName) (instant : ℤ) → HasStarted high token instant → HasStarted low token instant
  started_below token instant is =
      let d = down _ is.0 is.1 in
      let at = is.2 in
      let falls = d.falls in
      (d.lower, d.gives, omega (arith, ints, at, falls))

  not_ended_below : (token : TokenName) (instant : ℤ) → HasNotEnded high token instant → HasNotEnded low token instant
  not_ended_below token instant is =
      let d = down _ is.0 is.1 in
      let at = is.2 in
      let rises = d.rises in
      (d.lower, d.gives, omega (arith, ints, at, rises))

  module _ (object instant : ℤ) where
    -- what is surely used of the higher state is used further down, and no less
    uses_below : (token : TokenName) (quantity : ℤ) → SurelyUses model decisions high object instant token quantity
        → (more : ℤ) × SurelyUses model decisions low object instant token more × (quantity ≤ℤ more)
    uses_below token quantity uses =
        let amount = least_below token quantity uses.least in (
          amount.0,
          record {
            actor = uses.actor;
            on = on_below model decisions high low high_ok low_ok below token object uses.on;
            started = started_below token instant uses.started;
            not_ended = not_ended_below token instant uses.not_ended;
            least = amount.1;
          },
          amount.2,
        )

    share_above : (token : TokenName) (share : ℤ) → IsShare model decisions low object instant token share → IsShare model decisions high object instant token share
    share_above token share is = record {
      none = is.none;
      enough = λ quantity uses. let found = uses_below token quantity uses in let enough = is.enough found.0 found.1 in let at = found.2 in omega (arith, ints, enough, at);
    }

    capacity_above : (capacity : ℤ) → KeepsCapacity model decisions low object instant capacity → KeepsCapacity model decisions high object instant capacity
    capacity_above capacity keeps =
        let shares = chosen _ _ more (IsShare model decisions low object instant) (IsShare model decisions high object instant) low.tokens high.tokens
        low_ok.order.tokens high_ok.order.tokens below.tokens
        (record { shared = λ token share c is. share_above token share is; idle = λ token share c none is. is.none }) keeps.shares keeps.are_shares in
        let lies = shares.lies in
        let enough = keeps.enough in
        record { shares = shares.numbers; are_shares = shares.are; enough = omega (arith, ints, lies, enough) }

    -- ---- levels

    changes_below : (kind : PredKind) (token : TokenName) (quantity : ℤ) → SurelyChanges model decisions high object instant kind token quantity
        → (more : ℤ) × SurelyChanges model decisions low object instant kind token more × (quantity ≤ℤ more)
    changes_below kind token quantity changes =
        let amount = least_below token quantity changes.least in (
          amount.0,
          record {
            actor = changes.actor;
            on = on_below model decisions high low high_ok low_ok below token object changes.on;
            started = started_below token instant changes.started;
            least = amount.1;
          },
          amount.2,
        )

    module _ (kind : PredKind) (token : TokenName) (there : Contains high.tokens token) where
      -- a variable that the lower state gives the token, the higher one gives it too, and it may be more
      record Up (name : VarName) (lower : Domain) : Type 0 where
        upper : Domain
        gives : Gives high name upper
        within : IsWithin lower upper
        rises : least upper ≤ℤ least lower
        falls : greatest lower ≤ℤ greatest upper

      up : (part : _) (lower : Domain) → Gives low (Token token part) lower → Up (Token token part) lower
      up part lower gives =
          let about = (low_ok.variables (Token token part)).1 (lower, gives) in
          let upper = (high_ok.variables (Token token part)).0 (there, about.1) in
          let d = down (Token token part) upper.0 upper.1 in
          let same = one_domain (Token token part) d.lower lower d.gives gives in
          record {
            upper = upper.0;
            gives = upper.1;
            within = subst (λ x. IsWithin x upper.0) same d.within;
            rises = subst (λ x. least upper.0 ≤ℤ least x) same d.rises;
            falls = subst (λ x. greatest x ≤ℤ greatest upper.0) same d.falls;
          }
        where
          one_domain : (name : VarName) (one other : Domain) → Gives low name one → Gives low name other → one ≡ other
          one_domain name one other p q = gives_same low low_ok.order name one other p q

      -- what may change the level further down may do so here, and no less
      may_above : (quantity : ℤ) → MayChange model decisions low object instant kind token quantity
          → (more : ℤ) × MayChange model decisions high object instant kind token more × (quantity ≤ℤ more)
      may_above quantity may =
          let on = up Object may.on.0 may.on.1 in
          let started = up Start may.started.0 may.started.1 in
          let amount = up (Param 0) may.greatest.0 may.greatest.1 in
          let begun = may.started.2 in
          let rises = started.rises in
          let at = may.greatest.2 in
          let falls = amount.falls in (
            greatest amount.upper,
            record {
              actor = may.actor;
              on = (on.upper, on.gives, on.within.values object may.on.2);
              started = (started.upper, started.gives, omega (arith, ints, begun, rises));
              greatest = (amount.upper, amount.gives, refl);
            },
            omega (arith, ints, at, falls),
          )

    module _ (token : TokenName) (there : Contains high.tokens token) where
      high_above : (change : ℤ) → IsHighChange model decisions low object instant token change → IsHighChange model decisions high object instant token change
      high_above change is = record {
        adds = elim is.adds [
          | inl none ↦ inl none
          | inr some ↦ inr (let found = may_above Produce token there some.0 some.1 in let at = some.2 in let le = found.2 in (found.0, found.1, omega (arith, ints, at, le)))
        ];
        takes = λ quantity changes. let found = changes_below Consume token quantity changes in let at = is.takes found.0 found.1 in let le = found.2 in omega (arith, ints, at, le);
      }

      low_above : (change : ℤ) → IsLowChange model decisions low object instant token change → IsLowChange model decisions high object instant token change
      low_above change is = record {
        takes = elim is.takes [
          | inl none ↦ inl none
          | inr some ↦ inr (let found = may_above Consume token there some.0 some.1 in let at = some.2 in let le = found.2 in (found.0, found.1, omega (arith, ints, at, le)))
        ];
        adds = λ quantity changes. let found = changes_below Produce token quantity changes in let at = is.adds found.0 found.1 in let le = found.2 in omega (arith, ints, at, le);
      }

    -- a token that isn't active changes no level
    idle_high : (token : TokenName) (change : ℤ) → (IsActive model decisions token → ⊥) → IsHighChange model decisions low object instant token change → change ≤ℤ pos 0
    idle_high token change idle is = elim is.adds [ inl none ↦ none | inr some ↦ absurd (idle some.1.actor.active) ]

    idle_low : (token : TokenName) (change : ℤ) → (IsActive model decisions token → ⊥) → IsLowChange model decisions low object instant token change → pos 0 ≤ℤ change
    idle_low token change idle is = elim is.takes [ inl none ↦ none | inr some ↦ absurd (idle some.1.actor.active) ]

    pub level_above : ((token : TokenName) → IsActive model decisions token → Contains high.tokens token) → (initial bottom top : ℤ)
        → StaysWithin model decisions low object instant initial bottom top → StaysWithin model decisions high object instant initial bottom top
    level_above active initial bottom top stays =
        let rises = chosen _ _ less (IsHighChange model decisions low object instant) (IsHighChange model decisions high object instant) low.tokens high.tokens
        low_ok.order.tokens high_ok.order.tokens below.tokens
        (record { shared = λ token change c is. high_above token c change is; idle = λ token change c none is. idle_high token change (λ a. none (active token a)) is })
        stays.rises stays.are_rises in
        let falls = chosen _ _ more (IsLowChange model decisions low object instant) (IsLowChange model decisions high object instant) low.tokens high.tokens
        low_ok.order.tokens high_ok.order.tokens below.tokens
        (record { shared = λ token change c is. low_above token c change is; idle = λ token change c none is. idle_low token change (λ a. none (active token a)) is })
        stays.falls stays.are_falls in
        let up = rises.lies in
        let down = falls.lies in
        let high_enough = stays.high_enough in
        let low_enough = stays.low_enough in
        record {
          rises = rises.numbers;
          are_rises = rises.are;
          high_enough = omega (arith, ints, up, high_enough);
          falls = falls.numbers;
          are_falls = falls.are;
          low_enough = omega (arith, ints, down, low_enough);
        }

  pub reusables_above : FitReusables model decisions low → FitReusables model decisions high
  reusables_above fit value object capacity instant is kind within = capacity_above value instant capacity (fit value object capacity instant is kind within)
