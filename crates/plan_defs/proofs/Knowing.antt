-- Whether a thing is on a list can be told where things have an order, and so whether a state has what a decision names.
use Rattle.std.proofs.Common.{◌≡◌, ◌⊎◌, inl, inr, ⊎_elim, List, [], ◌∷◌, ap, subst}
use Rattle.std.specs.Prelude.{All, Contains}
use Rattle.domain_core.specs.Domain.{Domain}
use Rattle.eu_name.specs.declared.name.TokenName.{TokenName}
use Rattle.eu_name.specs.declared.name.VarName.{VarName}
use Rattle.eu_name.specs.NameOrder.{IsStrictTotalOrder, IsTokenBefore, IsVarBefore}
use Rattle.eu_name.proofs.Orders.{token_order, var_order}
use Rattle.model_core.specs.declared.decision.ConArg.{ConArg}
use Rattle.model_core.specs.declared.decision.ConArg.TheVariants.{Var, Value}
use Rattle.model_core.specs.declared.decision.Decision.{Decision}
use Rattle.model_core.specs.declared.decision.Decision.TheVariants.{Specify, Activate, Merge, Reject, Order, Constrain, Relate}
use Rattle.model_core.specs.State.{State, VarDomain}
use Rattle.plan_defs.specs.Refusals.{IsKnown, IsArgumentKnown}
use Rattle.std.proofs.lemmas.List.Elements.{All-nil, All-cons, All-head, All-tail}
use Rattle.eu_name.proofs.Ordered.{contains_head, contains_later, contains_cases, contains_none}

-- it is so, or it isn't
abbrev pub IsOrNot : Type 0 → Type 0
IsOrNot P = P ⊎ (P → ⊥)

pub both_or_not : (P Q : Type 0) → IsOrNot P → IsOrNot Q → IsOrNot (P × Q)
both_or_not P Q (inl p) (inl q) = inl (p, q)
both_or_not P Q (inl p) (inr none) = inr (λ both. none both.1)
both_or_not P Q (inr none) q = inr (λ both. none both.0)

pub all_or_not : {X : Type 0} (P : X → Type 0) → ((x : X) → IsOrNot (P x)) → (xs : List X) → IsOrNot (All P xs)
all_or_not P each [] = inl (All-nil P)
all_or_not P each (x ∷ xs) = elim (each x) [
  | inl first ↦ elim (all_or_not P each xs) [
    | inl rest ↦ inl (All-cons P x xs first rest)
    | inr none ↦ inr (λ all. none (All-tail P x xs all))
  ]
  | inr none ↦ inr (λ all. none (All-head P x xs all))
]

module _ {X : Type 0} (before : X → X → Type 0) (order : IsStrictTotalOrder before) where
  pub same_or_not : (one other : X) → IsOrNot (one ≡ other)
  same_or_not one other = elim (order.total one other) [
    | inl less ↦ inr (λ same. order.irreflexive other (subst (λ (x : X). before x other) same less))
    | inr (inl same) ↦ inl same
    | inr (inr more) ↦ inr (λ same. order.irreflexive other (subst (λ (x : X). before other x) same more))
  ]

  pub there_or_not : (xs : List X) (x : X) → IsOrNot (Contains xs x)
  there_or_not [] x = inr (contains_none x)
  there_or_not (first ∷ xs) x = elim (same_or_not first x) [
    | inl same ↦ inl (subst (Contains (first ∷ xs)) same (contains_head first xs))
    | inr other ↦ elim (there_or_not xs x) [
      | inl later ↦ inl (contains_later first x xs later)
      | inr none ↦ inr (λ there. ⊎_elim other none (contains_cases first x xs there))
    ]
  ]

pub same_token : (one other : TokenName) → IsOrNot (one ≡ other)
same_token = same_or_not IsTokenBefore token_order

pub same_name : (one other : VarName) → IsOrNot (one ≡ other)
same_name = same_or_not IsVarBefore var_order

pub token_or_not : (tokens : List TokenName) (token : TokenName) → IsOrNot (Contains tokens token)
token_or_not = there_or_not IsTokenBefore token_order

-- ---- what a state has

abbrev IsGivenIn : List VarDomain → VarName → Type 0
IsGivenIn entries name = (domain : Domain) × Contains entries (record { name = name; domain = domain })

pub given_or_not : (entries : List VarDomain) (name : VarName) → IsOrNot (IsGivenIn entries name)
given_or_not [] name = inr (λ given. contains_none _ given.1)
given_or_not (entry ∷ entries) name = elim (same_name entry.name name) [
  | inl same ↦ inl (entry.domain, subst (λ n. Contains (entry ∷ entries) (record { name = n; domain = entry.domain })) same (contains_head entry entries))
  | inr apart ↦ elim (given_or_not entries name) [
    | inl given ↦ inl (given.0, contains_later entry _ entries given.1)
    | inr none ↦ inr (λ given. ⊎_elim (λ same. apart (ap (λ (e : VarDomain). e.name) same)) (λ later. none (given.0, later)) (contains_cases entry _ entries given.1))
  ]
]

argument_or_not : (state : State) (argument : ConArg) → IsOrNot (IsArgumentKnown state argument)
argument_or_not state (Var name) = given_or_not state.entries name
argument_or_not state (Value value) = inl tt

pub known_or_not : (state : State) (decision : Decision) → IsOrNot (IsKnown state decision)
known_or_not state (Specify name value) = given_or_not state.entries name
known_or_not state (Activate token) = token_or_not state.tokens token
known_or_not state (Merge token target) = both_or_not _ _ (token_or_not state.tokens token) (token_or_not state.tokens target)
known_or_not state (Reject token) = token_or_not state.tokens token
known_or_not state (Order one other) = both_or_not _ _ (token_or_not state.tokens one) (token_or_not state.tokens other)
known_or_not state (Constrain kind arguments) = all_or_not (IsArgumentKnown state) (argument_or_not state) arguments
known_or_not state (Relate relation one other) = both_or_not _ _ (token_or_not state.tokens one) (token_or_not state.tokens other)
