-- Shares of a capacity suffice exactly where it suffices for the sum, and rises and falls of a level where their sums do.
use Rattle.std.proofs.Common.{◌≡◌, ℤ, pos, ◌+ℤ◌, ◌≤ℤ◌, List, inl, inr, arith}
use Rattle.std.specs.Prelude.{neg_ℤ, Contains, ◌↔◌}
use Rattle.std.proofs.lemmas.Int.{ints}
use Rattle.std.proofs.lemmas.List.Elements.{All-contains}
use Rattle.eu_name.specs.declared.name.Part.TheVariants.{Param}
use Rattle.eu_name.specs.declared.name.TokenName.{TokenName}
use Rattle.eu_name.specs.declared.name.VarName.TheVariants.{Token}
use Rattle.model_core.specs.declared.decision.Decision.{Decision}
use Rattle.model_core.specs.declared.model.Model.{Model}
use Rattle.model_core.specs.State.{State, IsState}
use Rattle.plan_defs.specs.Laws.{ListsUses, ListsChanges}
use Rattle.plan_defs.specs.Resources.{SurelyUses, IsShare, KeepsCapacity}
use Rattle.plan_defs.specs.Resources.{HasGreatestChange, HasLeastChange, IsHighChange, IsLowChange, StaysWithin}
use Rattle.plan_defs.specs.Sums.{Amount, ListsAll, sum_of_amounts}
use Rattle.plan_defs.proofs.Summing.{IsListed, IsSummed, Bounds, one_amount, zip_mapped, listed_bounds, listed_reached}

-- ---- the two ways to bound

-- a number that is at least another one
abbrev AtLeast : ℤ → ℤ → Type 0
AtLeast bound number = bound ≤ℤ number

at_least : IsSummed AtLeast
at_least = record { same = λ number. omega (arith, ints); sums = λ a b c d p q. omega (arith, ints, p, q) }

-- a number that is at most another one
abbrev AtMost : ℤ → ℤ → Type 0
AtMost bound number = number ≤ℤ bound

at_most : IsSummed AtMost
at_most = record { same = λ number. omega (arith, ints); sums = λ a b c d p q. omega (arith, ints, p, q) }

-- what makes nothing of a quantity
taken_away : (quantity : ℤ) → (change : ℤ) × (change +ℤ quantity ≡ pos 0)
taken_away quantity = (neg_ℤ quantity, omega (arith, ints))

-- ---- what is listed, and where

module _ (HasAmount : TokenName → ℤ → Type 0) (listed : List Amount) (lists : ListsAll HasAmount listed) where
  amount_of : (token : TokenName) (amount : ℤ) → IsListed listed token amount → HasAmount token amount
  amount_of token amount c = All-contains (λ (a : Amount). HasAmount a.token a.amount) listed (record { token = token; amount = amount }) lists.have c

  same_amount : (token : TokenName) (one other : ℤ) → HasAmount token one → HasAmount token other → one ≡ other
  same_amount token one other p q = one_amount listed token one other lists.once (lists.all token one p) (lists.all token other q)

module _ (model : Model) (decisions : List Decision) (state : State) (object instant : ℤ) (ok : IsState model state) where
  -- ---- shares

  module _ (listed : List Amount) (lists : ListsUses model decisions state object instant listed) where
    abbrev Uses : TokenName → ℤ → Type 0
    Uses = SurelyUses model decisions state object instant

    uses_of : (token : TokenName) (amount : ℤ) → IsListed listed token amount → Uses token amount
    uses_of = amount_of Uses listed lists.all

    use_there : (each : Amount) → Contains listed each → Contains state.tokens each.token
    use_there each c = let quantity = (uses_of each.token each.amount c).least in ((ok.variables (Token each.token (Param 0))).1 (quantity.0, quantity.1)).0

    share_bounds : (token : TokenName) (share : ℤ) → IsShare model decisions state object instant token share → Bounds AtLeast listed token share
    share_bounds token share is = record { some = inl is.none; each = λ amount c. is.enough amount (uses_of token amount c) }

    bounds_share : (token : TokenName) (share : ℤ) → Bounds AtLeast listed token share → IsShare model decisions state object instant token share
    bounds_share token share bounds = record {
      none = elim bounds.some [
        | inl whole ↦ whole
        | inr some ↦ (let whole = lists.whole token some.0 (uses_of token some.0 some.1) in let less = some.2 in omega (arith, ints, whole, less))
      ];
      enough = λ quantity uses. bounds.each quantity (lists.all.all token quantity uses);
    }

    pub shares_are_sums : (capacity : ℤ) → KeepsCapacity model decisions state object instant capacity ↔ (sum_of_amounts listed ≤ℤ capacity)
    shares_are_sums capacity = (
      λ keeps. (
          let below = listed_bounds AtLeast at_least listed lists.all.once state.tokens ok.order.tokens use_there keeps.shares (zip_mapped share_bounds state.tokens keeps.shares keeps.are_shares) in
          let enough = keeps.enough in
          omega (arith, ints, below, enough)),
      λ few. (
          let found = listed_reached AtLeast at_least listed lists.all.once state.tokens ok.order.tokens use_there in
          let is_sum = found.is_sum in
          record { shares = found.numbers; are_shares = zip_mapped bounds_share state.tokens found.numbers found.are; enough = omega (arith, ints, few, is_sum) }),
    )

  -- ---- rises and falls

  module _ (rises falls : List Amount) (lists : ListsChanges model decisions state object instant rises falls) where
    abbrev Greatest : TokenName → ℤ → Type 0
    Greatest = HasGreatestChange model decisions state object instant

    abbrev Least : TokenName → ℤ → Type 0
    Least = HasLeastChange model decisions state object instant

    greatest_there : (token : TokenName) (change : ℤ) → Greatest token change → Contains state.tokens token
    greatest_there token change (inl may) = let quantity = may.greatest in ((ok.variables (Token token (Param 0))).1 (quantity.0, quantity.1)).0
    greatest_there token change (inr takes) = let quantity = takes.1.least in ((ok.variables (Token token (Param 0))).1 (quantity.0, quantity.1)).0

    least_there : (token : TokenName) (change : ℤ) → Least token change → Contains state.tokens token
    least_there token change (inl surely) = let quantity = surely.least in ((ok.variables (Token token (Param 0))).1 (quantity.0, quantity.1)).0
    least_there token change (inr takes) = let quantity = takes.1.greatest in ((ok.variables (Token token (Param 0))).1 (quantity.0, quantity.1)).0

    rise_there : (each : Amount) → Contains rises each → Contains state.tokens each.token
    rise_there each c = greatest_there each.token each.amount (amount_of Greatest rises lists.greatest each.token each.amount c)

    fall_there : (each : Amount) → Contains falls each → Contains state.tokens each.token
    fall_there each c = least_there each.token each.amount (amount_of Least falls lists.least each.token each.amount c)

    high_below : (token : TokenName) (change amount : ℤ) → IsHighChange model decisions state object instant token change → Greatest token amount → change ≤ℤ amount
    high_below token change amount high (inl may) = elim high.adds [
      | inl none ↦ (let whole = lists.produced token amount (inl may) in omega (arith, ints, none, whole))
      | inr some ↦ (let same = same_amount Greatest rises lists.greatest token some.0 amount (inl some.1) (inl may) in let less = some.2 in omega (arith, ints, same, less))
    ]
    high_below token change amount high (inr takes) = let taken = high.takes takes.0 takes.1 in let is = takes.2 in omega (arith, ints, taken, is)

    high_bounds : (token : TokenName) (change : ℤ) → IsHighChange model decisions state object instant token change → Bounds AtMost rises token change
    high_bounds token change high = record {
      some = elim high.adds [ inl none ↦ inl none | inr some ↦ inr (some.0, lists.greatest.all token some.0 (inl some.1), some.2) ];
      each = λ amount c. high_below token change amount high (amount_of Greatest rises lists.greatest token amount c);
    }

    bounds_high : (token : TokenName) (change : ℤ) → Bounds AtMost rises token change → IsHighChange model decisions state object instant token change
    bounds_high token change bounds = record {
      adds = elim bounds.some [
        | inl none ↦ inl none
        | inr some ↦ (let less = some.2 in elim (amount_of Greatest rises lists.greatest token some.0 some.1) [
          | inl may ↦ inr (some.0, may, less)
          | inr takes ↦ inl (let whole = lists.consumed token takes.0 (inr takes.1) in let is = takes.2 in omega (arith, ints, less, whole, is))
        ])
      ];
      takes = λ quantity surely. (
          let away = taken_away quantity in
          let is = away.1 in
          let less = bounds.each away.0 (lists.greatest.all token away.0 (inr (quantity, surely, is))) in
          omega (arith, ints, less, is));
    }

    low_above : (token : TokenName) (change amount : ℤ) → IsLowChange model decisions state object instant token change → Least token amount → amount ≤ℤ change
    low_above token change amount low (inl surely) = low.adds amount surely
    low_above token change amount low (inr takes) = let is = takes.2 in elim low.takes [
      | inl none ↦ (let whole = lists.consumed token takes.0 (inl takes.1) in omega (arith, ints, none, whole, is))
      | inr some ↦ (
          let away = taken_away some.0 in
          let even = away.1 in
          let same = same_amount Least falls lists.least token away.0 amount (inr (some.0, some.1, even)) (inr takes) in
          let less = some.2 in
          omega (arith, ints, same, even, less))
    ]

    low_bounds : (token : TokenName) (change : ℤ) → IsLowChange model decisions state object instant token change → Bounds AtLeast falls token change
    low_bounds token change low = record {
      some = elim low.takes [
        | inl none ↦ inl none
        | inr some ↦ (
            let away = taken_away some.0 in
            let even = away.1 in
            let less = some.2 in
            inr (away.0, lists.least.all token away.0 (inr (some.0, some.1, even)), omega (arith, ints, even, less)))
      ];
      each = λ amount c. low_above token change amount low (amount_of Least falls lists.least token amount c);
    }

    bounds_low : (token : TokenName) (change : ℤ) → Bounds AtLeast falls token change → IsLowChange model decisions state object instant token change
    bounds_low token change bounds = record {
      takes = elim bounds.some [
        | inl none ↦ inl none
        | inr some ↦ (let less = some.2 in elim (amount_of Least falls lists.least token some.0 some.1) [
          | inl surely ↦ inl (let whole = lists.produced token some.0 (inr surely) in omega (arith, ints, less, whole))
          | inr takes ↦ (let is = takes.2 in inr (takes.0, takes.1, omega (arith, ints, less, is)))
        ])
      ];
      adds = λ quantity surely. bounds.each quantity (lists.least.all token quantity (inl surely));
    }

    pub changes_are_sums : (initial low high : ℤ) → StaysWithin model decisions state object instant initial low high
        ↔ ((low ≤ℤ (initial +ℤ sum_of_amounts rises)) × ((initial +ℤ sum_of_amounts falls) ≤ℤ high))
    changes_are_sums initial low high = (
      λ stays. (
          let above = listed_bounds AtMost at_most rises lists.greatest.once state.tokens ok.order.tokens rise_there stays.rises (zip_mapped high_bounds state.tokens stays.rises stays.are_rises) in
          let below = listed_bounds AtLeast at_least falls lists.least.once state.tokens ok.order.tokens fall_there stays.falls (zip_mapped low_bounds state.tokens stays.falls stays.are_falls) in
          let enough = stays.high_enough in
          let few = stays.low_enough in
          (omega (arith, ints, above, enough), omega (arith, ints, below, few))),
      λ within. (
          let up = listed_reached AtMost at_most rises lists.greatest.once state.tokens ok.order.tokens rise_there in
          let down = listed_reached AtLeast at_least falls lists.least.once state.tokens ok.order.tokens fall_there in
          let up_sum = up.is_sum in
          let down_sum = down.is_sum in
          let enough = within.0 in
          let few = within.1 in
          record {
            rises = up.numbers;
            are_rises = zip_mapped bounds_high state.tokens up.numbers up.are;
            high_enough = omega (arith, ints, up_sum, enough);
            falls = down.numbers;
            are_falls = zip_mapped bounds_low state.tokens down.numbers down.are;
            low_enough = omega (arith, ints, down_sum, few);
          }),
    )
