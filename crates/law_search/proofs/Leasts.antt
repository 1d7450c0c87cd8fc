-- Least states have nothing under a token that isn't activated.
use Rattle.std.proofs.Common.{◌≡◌, inl, inr, ℤ, pos, ◌≤ℤ◌, Bool, true, false, List, [], ◌∷◌, refl, sym, subst, cond, arith}
use Rattle.std.specs.Prelude.{Contains, filter}
use Rattle.std.specs.List.{AllZip}
use Rattle.std.proofs.lemmas.Int.{ints}
use Rattle.eu_name.specs.declared.name.Part.TheVariants.{Start, End, Object, Param}
use Rattle.eu_name.specs.declared.name.TokenName.{TokenName}
use Rattle.eu_name.specs.declared.name.VarName.TheVariants as names
use Rattle.model_core.specs.declared.class.PredKind.{PredKind}
use Rattle.model_core.specs.declared.class.PredKind.TheVariants.{Produce, Consume}
use Rattle.model_core.specs.declared.decision.Decision.{Decision}
use Rattle.model_core.specs.declared.model.Model.{Model}
use Rattle.model_core.specs.declared.rule.Guard.{Guard}
use Rattle.model_core.specs.Blocks.{TokenBlock}
use Rattle.model_core.specs.Decided.{IsActivated}
use Rattle.model_core.specs.State.{State}
use Rattle.plan_defs.specs.Closure.{IsClosed}
use Rattle.plan_defs.specs.Resources.{SurelyUses, IsShare, SurelyChanges, MayChange, IsHighChange, IsLowChange, KeepsCapacity, StaysWithin, IsCertain, IsTokenComplete}
use Rattle.plan_defs.specs.Terms.{InRule}
use Rattle.plan_defs.proofs.Lower.{opens_further}
use Rattle.law_search.specs.SwapLaws.{IsGrounded}
use Rattle.law_search.proofs.Tops.{IsUnderTop, keeps_token, kept_token, dropped_token}
use Rattle.law_search.proofs.Pruning.{pruned, given_kept, given_stays}
use Rattle.law_search.proofs.KeepingFit.{left_no_less, left_no_more, fewer, supported_still, open_still, taking_place_clear, low_propagated}

-- what the numbers are of those that pass the test
passing : {X : Type 0} (Has Other : X → ℤ → Type 0) (passes : X → Bool) → ((x : X) (number : ℤ) → passes x ≡ true → Has x number → Other x number)
    → (xs : List X) (numbers : List ℤ) → AllZip Has (filter passes xs) numbers → AllZip Other (filter passes xs) numbers
passing Has Other passes to [] [] are = are
passing Has Other passes to [] (number ∷ numbers) are = absurd are
passing {X} Has Other passes to (x ∷ xs) numbers are = by_test (passes x) refl numbers are (passing Has Other passes to xs)
  where
    by_test : (test : Bool) → passes x ≡ test → (numbers : List ℤ) → AllZip Has (cond (passes x) (x ∷ filter passes xs) (filter passes xs)) numbers
        → ((rest : List ℤ) → AllZip Has (filter passes xs) rest → AllZip Other (filter passes xs) rest)
        → AllZip Other (cond (passes x) (x ∷ filter passes xs) (filter passes xs)) numbers
    by_test true e numbers are further =
        subst (λ t. AllZip Other (cond t (x ∷ filter passes xs) (filter passes xs)) numbers) (sym e)
        (first numbers (subst (λ t. AllZip Has (cond t (x ∷ filter passes xs) (filter passes xs)) numbers) e are))
      where
        first : (numbers : List ℤ) → AllZip Has (x ∷ filter passes xs) numbers → AllZip Other (x ∷ filter passes xs) numbers
        first [] are = absurd are
        first (number ∷ rest) are = (to x number e are.0, further rest are.1)
    by_test false e numbers are further =
        subst (λ t. AllZip Other (cond t (x ∷ filter passes xs) (filter passes xs)) numbers) (sym e)
        (further numbers (subst (λ t. AllZip Has (cond t (x ∷ filter passes xs) (filter passes xs)) numbers) e are))

module _ (model : Model) (decisions : List Decision) (state : State) (top : TokenName)
    (grounded : (decision : Decision) → Contains decisions decision → IsGrounded model decisions decision) (idle : IsActivated decisions top → ⊥) where
  -- ---- resources

  module _ (object instant : ℤ) where
    uses_more : (token : TokenName) (quantity : ℤ) → SurelyUses model decisions (pruned top state) object instant token quantity
        → SurelyUses model decisions state object instant token quantity
    uses_more token quantity p = record {
      actor = p.actor;
      on = (p.on.0, (given_kept top state (names.Token token Object) p.on.0 p.on.1).0, p.on.2);
      started = (p.started.0, (given_kept top state (names.Token token Start) p.started.0 p.started.1).0, p.started.2);
      not_ended = (p.not_ended.0, (given_kept top state (names.Token token End) p.not_ended.0 p.not_ended.1).0, p.not_ended.2);
      least = (p.least.0, (given_kept top state (names.Token token (Param 0)) p.least.0 p.least.1).0, p.least.2);
    }

    changes_more : (kind : PredKind) (token : TokenName) (quantity : ℤ) → SurelyChanges model decisions (pruned top state) object instant kind token quantity
        → SurelyChanges model decisions state object instant kind token quantity
    changes_more kind token quantity p = record {
      actor = p.actor;
      on = (p.on.0, (given_kept top state (names.Token token Object) p.on.0 p.on.1).0, p.on.2);
      started = (p.started.0, (given_kept top state (names.Token token Start) p.started.0 p.started.1).0, p.started.2);
      least = (p.least.0, (given_kept top state (names.Token token (Param 0)) p.least.0 p.least.1).0, p.least.2);
    }

    may_still : (kind : PredKind) (token : TokenName) (quantity : ℤ) → (IsUnderTop top token → ⊥) → MayChange model decisions state object instant kind token quantity
        → MayChange model decisions (pruned top state) object instant kind token quantity
    may_still kind token quantity clear p = record {
      actor = p.actor;
      on = (p.on.0, given_stays top state (names.Token token Object) p.on.0 p.on.1 clear, p.on.2);
      started = (p.started.0, given_stays top state (names.Token token Start) p.started.0 p.started.1 clear, p.started.2);
      greatest = (p.greatest.0, given_stays top state (names.Token token (Param 0)) p.greatest.0 p.greatest.1 clear, p.greatest.2);
    }

    high_still : (token : TokenName) (change : ℤ) → keeps_token top token ≡ true → IsHighChange model decisions state object instant token change
        → IsHighChange model decisions (pruned top state) object instant token change
    high_still token change kept p = record {
      adds = elim p.adds [
        | inl none ↦ inl none
        | inr some ↦ inr (some.0, may_still Produce token some.0 (kept_token top token kept) some.1, some.2)
      ];
      takes = λ quantity takes. p.takes quantity (changes_more Consume token quantity takes);
    }

    low_still : (token : TokenName) (change : ℤ) → keeps_token top token ≡ true → IsLowChange model decisions state object instant token change
        → IsLowChange model decisions (pruned top state) object instant token change
    low_still token change kept p = record {
      takes = elim p.takes [
        | inl none ↦ inl none
        | inr some ↦ inr (some.0, may_still Consume token some.0 (kept_token top token kept) some.1, some.2)
      ];
      adds = λ quantity adds. p.adds quantity (changes_more Produce token quantity adds);
    }

    idle_high : (token : TokenName) (change : ℤ) → keeps_token top token ≡ false → IsHighChange model decisions state object instant token change → change ≤ℤ pos 0
    idle_high token change dropped p = elim p.adds [
      | inl none ↦ none
      | inr some ↦ absurd (taking_place_clear model decisions state top grounded idle token some.1.actor.active (dropped_token top token dropped))
    ]

    idle_low : (token : TokenName) (change : ℤ) → keeps_token top token ≡ false → IsLowChange model decisions state object instant token change → pos 0 ≤ℤ change
    idle_low token change dropped p = elim p.takes [
      | inl none ↦ none
      | inr some ↦ absurd (taking_place_clear model decisions state top grounded idle token some.1.actor.active (dropped_token top token dropped))
    ]

    capacity_still : (capacity : ℤ) → KeepsCapacity model decisions state object instant capacity → KeepsCapacity model decisions (pruned top state) object instant capacity
    capacity_still capacity p =
        let left = left_no_more (IsShare model decisions state object instant) (keeps_token top) (λ token share dropped is. is.none) state.tokens p.shares p.are_shares in
        record {
          shares = left.numbers;
          are_shares = passing (IsShare model decisions state object instant) (IsShare model decisions (pruned top state) object instant) (keeps_token top)
              (λ token share kept is. record { none = is.none; enough = λ quantity uses. is.enough quantity (uses_more token quantity uses) })
              state.tokens left.numbers left.are;
          enough = let less = left.sum in let whole = p.enough in omega (arith, ints, less, whole);
        }

    level_still : (initial low high : ℤ) → StaysWithin model decisions state object instant initial low high → StaysWithin model decisions (pruned top state) object instant initial low high
    level_still initial low high p =
        let rises = left_no_less (IsHighChange model decisions state object instant) (keeps_token top) idle_high state.tokens p.rises p.are_rises in
        let falls = left_no_more (IsLowChange model decisions state object instant) (keeps_token top) idle_low state.tokens p.falls p.are_falls in
        record {
          rises = rises.numbers;
          are_rises = passing (IsHighChange model decisions state object instant) (IsHighChange model decisions (pruned top state) object instant) (keeps_token top)
              high_still state.tokens rises.numbers rises.are;
          high_enough = let more = rises.sum in let whole = p.high_enough in omega (arith, ints, more, whole);
          falls = falls.numbers;
          are_falls = passing (IsLowChange model decisions state object instant) (IsLowChange model decisions (pruned top state) object instant) (keeps_token top)
              low_still state.tokens falls.numbers falls.are;
          low_enough = let less = falls.sum in let whole = p.low_enough in omega (arith, ints, less, whole);
        }

  complete_more : IsTokenComplete model decisions (pruned top state) → IsTokenComplete model decisions state
  complete_more complete = record {
    tokens = λ token supported. complete.tokens token (supported_still model decisions state top grounded idle token supported);
    guards = λ block entries guard then otherwise supported stands.
        certain_more block guard (complete.guards block entries guard then otherwise
        (record {
          supported = supported_still model decisions state top grounded idle block.token supported.supported;
          is_open = open_still model decisions state top grounded idle block entries supported.is_open;
        }) stands);
  }
    where
      certain_more : (block : TokenBlock) (guard : Guard) → IsCertain model decisions (pruned top state) block guard → IsCertain model decisions state block guard
      certain_more block guard (inl (inl opens)) = inl (inl (opens_further model _ _ (fewer model decisions state top grounded idle) (InRule block.token block.rule) guard _ opens))
      certain_more block guard (inl (inr opens)) = inl (inr (opens_further model _ _ (fewer model decisions state top grounded idle) (InRule block.token block.rule) guard _ opens))
      certain_more block guard (inr rejected) = inr rejected

  pub low_closed : IsClosed model decisions state → IsClosed model decisions (pruned top state)
  low_closed is = record {
    consistent = low_propagated model decisions state top grounded idle is.consistent;
    reusables = λ value object capacity instant found kind within. capacity_still value instant capacity (is.reusables value object capacity instant found kind within);
    reservoirs = λ complete value object initial low high instant found kind within.
        level_still value instant initial low high (is.reservoirs (complete_more complete) value object initial low high instant found kind within);
  }
