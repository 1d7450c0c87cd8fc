-- States of two variables.
use Rattle.std.proofs.Common.{◌≡◌, ℕ, suc, zero, ◌<◌, List, [], ◌∷◌, ℤ, inl, inr, refl, sym, ap, subst, arith}
use Rattle.std.specs.Prelude.{Contains, All, AllPairs, ◌⊎◌}
use Rattle.domain_core.specs.Domain.{Domain, IsDomain, IsWithin}
use Rattle.eu_name.specs.declared.name.VarName.{VarName}
use Rattle.eu_name.specs.declared.name.VarName.TheVariants.{Global}
use Rattle.eu_name.specs.NameOrder.{IsTokenBefore}
use Rattle.eu_name.proofs.Orders.{var_order}
use Rattle.model_core.specs.declared.class.Class.{Class}
use Rattle.model_core.specs.declared.class.Object.{Object}
use Rattle.model_core.specs.declared.class.ObjectKind.TheVariants as kind
use Rattle.model_core.specs.declared.decision.Decision.{Decision}
use Rattle.model_core.specs.declared.item.Item.{Item}
use Rattle.model_core.specs.declared.model.Model.{Model}
use Rattle.model_core.specs.declared.variable.Base.TheVariants.{Given}
use Rattle.model_core.specs.declared.variable.VarDecl.{VarDecl}
use Rattle.model_core.specs.Blocks.{IsBlockBefore}
use Rattle.model_core.specs.Decided.{IsTaken}
use Rattle.model_core.specs.Kinds.{IsObject}
use Rattle.model_core.specs.State.{VarDomain, Gives, AreInOrder}
use Rattle.model_core.specs.Variables.{HasBase}
use Rattle.plan_defs.specs.Claims.{Claim, IsOfProblem}
use Rattle.plan_defs.specs.Closure.{IsClosed, AreInBase}
use Rattle.plan_defs.specs.Consistency.{IsClaimConsistent}
use Rattle.eu_name.proofs.Ordered.{contains_cases, ordered_none, ordered_one, ordered_link}
use Rattle.law_examples.specs.Globals.{problem_with, with_two}
use Rattle.law_examples.proofs.Lists.{all_members, only_member}
use Rattle.law_examples.proofs.Variables.{IsGranted, by_name, closed}

pub gives_first : (one other : Domain) → Gives (with_two one other) (Global 0) one
gives_first one other = (0, omega arith, refl)

pub gives_second : (one other : Domain) → Gives (with_two one other) (Global 1) other
gives_second one other = (1, omega arith, refl)

abbrev first_entry : Domain → VarDomain
first_entry one = record { name = Global 0; domain = one }

abbrev second_entry : Domain → VarDomain
second_entry other = record { name = Global 1; domain = other }

-- what is given is one of the two
pub one_of_two : (one other : Domain) (name : VarName) (domain : Domain) → Gives (with_two one other) name domain → ((Global 0 ≡ name) × (one ≡ domain)) ⊎ ((Global 1 ≡ name) × (other ≡ domain))
one_of_two one other name domain gives = elim (contains_cases (first_entry one) (record { name = name; domain = domain }) (second_entry other ∷ []) gives) [
  | inl same ↦ inl (ap (λ (e : VarDomain). e.name) same, ap (λ (e : VarDomain). e.domain) same)
  | inr later ↦ (let same = only_member (second_entry other) (record { name = name; domain = domain }) later in inr (ap (λ (e : VarDomain). e.name) same, ap (λ (e : VarDomain). e.domain) same))
]

entries_ordered : (one other : Domain) → AllPairs by_name (with_two one other).entries
entries_ordered one other =
    ordered_link by_name (λ a b c. var_order.transitive a.name b.name c.name) (first_entry one) (second_entry other) [] (omega arith) (ordered_one by_name (second_entry other))

pub two_ordered : (one other : Domain) → AreInOrder (with_two one other)
two_ordered one other = record { tokens = ordered_none IsTokenBefore; blocks = ordered_none IsBlockBefore; entries = entries_ordered one other }

module _ (classes : List Class) (objects : List Object) (v w : VarDecl) (items : List Item) (decisions : List Decision) (one other base other_base : Domain)
    (plain : (value : ℤ) (object : Object) → IsObject (problem_with classes objects (v ∷ w ∷ []) items) value object → object.kind ≡ kind.Plain)
    (v_base : Given base ≡ v.base) (w_base : Given other_base ≡ w.base) where
  abbrev model : Model
  model = problem_with classes objects (v ∷ w ∷ []) items

  -- it is closed where both are in their bases, the decisions granted, and the constraints consistent
  pub two_closed : IsDomain one → IsDomain other → IsWithin one base → IsWithin other other_base
      → ((decision : Decision) → Contains decisions decision → IsGranted model (with_two one other) decision)
      → ((claim : Claim) → IsOfProblem model (IsTaken decisions) claim → IsClaimConsistent model (with_two one other) claim) → IsClosed model decisions (with_two one other)
  two_closed ok ok' within within' granted consistent =
      closed classes objects (v ∷ w ∷ []) items decisions (with_two one other).entries plain (entries_ordered one other) there named domains in_base granted consistent
    where
      there : (number : ℕ) → number < 2 → (domain : Domain) × Gives (with_two one other) (Global number) domain
      there zero less = (one, gives_first one other)
      there (suc zero) less = (other, gives_second one other)
      there (suc (suc number)) less = absurd (omega (arith, less))

      named : (name : VarName) (domain : Domain) → Gives (with_two one other) name domain → (number : ℕ) × (name ≡ Global number) × (number < 2)
      named name domain gives = elim (one_of_two one other name domain gives) [
        | inl is ↦ (0, sym is.0, omega arith)
        | inr is ↦ (1, sym is.0, omega arith)
      ]

      domains : All (λ (entry : VarDomain). IsDomain entry.domain) (with_two one other).entries
      domains = all_members (λ (entry : VarDomain). IsDomain entry.domain) (with_two one other).entries (λ entry c. elim (one_of_two one other entry.name entry.domain c) [
        | inl is ↦ subst IsDomain is.1 ok
        | inr is ↦ subst IsDomain is.1 ok'
      ])

      in_base : AreInBase model (with_two one other)
      in_base name domain gives = elim (one_of_two one other name domain gives) [
        | inl is ↦ (Given base, subst (λ n. HasBase model n (Given base)) is.0 (v, refl, v_base), subst (λ d. IsWithin d base) is.1 within)
        | inr is ↦ (Given other_base, subst (λ n. HasBase model n (Given other_base)) is.0 (w, refl, w_base), subst (λ d. IsWithin d other_base) is.1 within')
      ]
