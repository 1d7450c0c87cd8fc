-- Arguments that a decision may post a constraint on can be posted.
use Rattle.std.proofs.Common.{◌≡◌, ℕ, ℤ, pos, negsuc, List, [], ◌∷◌, length, inl, inr, get_or, refl, arith}
use Rattle.std.specs.Prelude.{All}
use Rattle.std.proofs.lemmas.Bool.{cases_eq, cases_lt}
use Rattle.std.proofs.lemmas.Int.{ints}
use Rattle.std.proofs.lemmas.List.Elements.{All-cons, All-head, All-tail, All-weaker}
use Rattle.domain_core.specs.Constraints.{arity_of}
use Rattle.domain_core.specs.Domain.{IsValue}
use Rattle.domain_core.specs.declared.kind.Kind.{Kind}
use Rattle.domain_core.specs.declared.kind.Kind.TheVariants.{Eq, Neq, Lt, Leq, AddEq, MulEq, TestEq, TestLeq, AllDiff, Field}
use Rattle.model_core.specs.declared.decision.ConArg.{ConArg}
use Rattle.model_core.specs.declared.decision.ConArg.TheVariants as given
use Rattle.model_core.specs.declared.model.Model.{Model}
use Rattle.model_core.specs.declared.variable.ValueKind.{ValueKind}
use Rattle.model_core.specs.declared.variable.ValueKind.TheVariants as kinds
use Rattle.model_core.specs.Arguments.{IsInType, CanCompare, CanOrder, Takes}
use Rattle.model_core.specs.Lawful.{IsLawful}
use Rattle.db_posting.specs.Postable.{CanBeGiven, HasFactorArgument, AreArgumentsAllowed, CanPostArguments}
use Rattle.db_posting.specs.PostingLaws.{ArgumentsCanBePosted}
use Rattle.db_posting.proofs.Allowing.{value_of_kind}

-- ---- what suits can be posted

module _ (model : Model) (lawful : IsLawful model) where
  suits_given : (kind : ValueKind) (argument : ConArg) → IsInType model kind argument → CanBeGiven argument
  suits_given kind (given.Var name) is = tt
  suits_given kind (given.Value value) is = value_of_kind model lawful kind value is

  compared_given : (compared : List ConArg) → CanCompare (IsInType model) compared → All CanBeGiven compared
  compared_given compared (kind, are) = All-weaker (IsInType model kind) CanBeGiven (suits_given kind) compared are.suit

  ordered_given : (compared : List ConArg) → CanOrder (IsInType model) compared → All CanBeGiven compared
  ordered_given compared (kind, numeric, are) = All-weaker (IsInType model kind) CanBeGiven (suits_given kind) compared are.suit

  can_post : (kind : Kind) (arguments : List ConArg) → Takes (IsInType model) kind arguments → CanPostArguments kind arguments
  can_post Eq (one ∷ other ∷ []) takes = record { values = compared_given (one ∷ other ∷ []) takes; count = refl; allowed = tt }
  can_post Neq (one ∷ other ∷ []) takes = record { values = compared_given (one ∷ other ∷ []) takes; count = refl; allowed = tt }
  can_post Lt (one ∷ other ∷ []) takes = record { values = ordered_given (one ∷ other ∷ []) takes; count = refl; allowed = tt }
  can_post Leq (one ∷ other ∷ []) takes = record { values = ordered_given (one ∷ other ∷ []) takes; count = refl; allowed = tt }
  can_post AddEq (one ∷ other ∷ sum ∷ []) takes = record { values = ordered_given (one ∷ other ∷ sum ∷ []) takes; count = refl; allowed = tt }
  can_post MulEq (one ∷ given.Value factor ∷ product ∷ []) (ordered, value, not_zero) =
      let both = ordered_given (one ∷ product ∷ []) ordered in
      record {
        values = All-cons CanBeGiven one (given.Value factor ∷ product ∷ []) (All-head CanBeGiven one (product ∷ []) both)
            (All-cons CanBeGiven (given.Value factor) (product ∷ []) (suits_given kinds.Int (given.Value factor) value) (All-tail CanBeGiven one (product ∷ []) both));
        count = refl;
        allowed = not_zero;
      }
  can_post TestEq (truth ∷ one ∷ other ∷ []) (suits, compared) =
      let are = compared_given (one ∷ other ∷ []) compared in
      record { values = All-cons CanBeGiven truth (one ∷ other ∷ []) (suits_given kinds.Bool truth suits) are; count = refl; allowed = tt }
  can_post TestLeq (truth ∷ one ∷ other ∷ []) (suits, compared) =
      let are = ordered_given (one ∷ other ∷ []) compared in
      record { values = All-cons CanBeGiven truth (one ∷ other ∷ []) (suits_given kinds.Bool truth suits) are; count = refl; allowed = tt }
  can_post kind arguments takes = absurd takes

-- ---- what isn't impossible can be posted

abbrev IsPossible : Type 0 → Type 0
IsPossible P = (P → ⊥) → ⊥

possible_value : (value : ℤ) → IsPossible (IsValue value) → IsValue value
possible_value (pos n) possible = elim (cases_lt 1000000 n) [
  | inl over ↦ absurd (possible (λ is. let below = is.1 in absurd (omega (arith, ints, below, over))))
  | inr within ↦ (omega (arith, ints), omega (arith, ints, within))
]
possible_value (negsuc n) possible = elim (cases_lt 999999 n) [
  | inl under ↦ absurd (possible (λ is. let above = is.0 in absurd (omega (arith, ints, above, under))))
  | inr within ↦ (omega (arith, ints, within), omega (arith, ints))
]

possible_given : (argument : ConArg) → IsPossible (CanBeGiven argument) → CanBeGiven argument
possible_given (given.Var name) possible = tt
possible_given (given.Value value) possible = possible_value value possible

possible_count : (one other : ℕ) → IsPossible (one ≡ other) → one ≡ other
possible_count one other possible = elim (cases_eq one other) [ inl same ↦ same | inr apart ↦ absurd (possible apart) ]

possible_factor : (arguments : List ConArg) → IsPossible (HasFactorArgument arguments) → HasFactorArgument arguments
possible_factor (x ∷ given.Value factor ∷ z ∷ []) possible = λ zero. possible (λ has. has zero)
possible_factor arguments possible = possible (λ has. has)

possible_allowed : (kind : Kind) (arguments : List ConArg) → IsPossible (AreArgumentsAllowed kind arguments) → AreArgumentsAllowed kind arguments
possible_allowed MulEq arguments possible = possible_factor arguments possible
possible_allowed (Field number) arguments possible = possible (λ allowed. allowed)
possible_allowed AllDiff arguments possible = possible (λ allowed. allowed)
possible_allowed kind arguments possible = tt

possible_post : (kind : Kind) (arguments : List ConArg) → IsPossible (CanPostArguments kind arguments) → CanPostArguments kind arguments
possible_post kind arguments possible = record {
  values = λ k d below. possible_given (get_or arguments k d) (λ none. possible (λ can. none (can.values k d below)));
  count = possible_count (length arguments) (arity_of kind) (λ none. possible (λ can. none can.count));
  allowed = possible_allowed kind arguments (λ none. possible (λ can. none can.allowed));
}

pub arguments_can_be_posted : ArgumentsCanBePosted
arguments_can_be_posted model kind arguments lawful possible = possible_post kind arguments (λ none. possible (λ takes. none (can_post model lawful kind arguments takes)))
