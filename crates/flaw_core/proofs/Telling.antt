-- What a view tells of the variables and tokens at its places.
use Rattle.std.proofs.Common.{◌≡◌, ℕ, inl, inr, List, Bool, true, false, Option, Some, None, ℤ, refl, sym, subst}
use Rattle.std.specs.Prelude.{◌↔◌, IsTrue, MatchBool}
use Rattle.domain_core.specs.Domain.{Domain, IsSingle}
use Rattle.eu_name.specs.declared.name.Part.{Part}
use Rattle.eu_name.specs.declared.name.TokenName.{TokenName}
use Rattle.eu_name.specs.declared.name.VarName.{VarName}
use Rattle.eu_name.specs.declared.name.VarName.TheVariants as names
use Rattle.model_core.specs.declared.decision.Decision.{Decision}
use Rattle.model_core.specs.declared.model.Model.{Model}
use Rattle.model_core.specs.declared.view.TokenState.{TokenState}
use Rattle.model_core.specs.declared.view.TokenState.TheVariants.{Inactive, Active, Fact, Merged, Rejected}
use Rattle.model_core.specs.Decided.{IsDecided}
use Rattle.model_core.specs.State.{State, Gives, AreInOrder}
use Rattle.model_core.specs.TokenStates.{HasTokenState}
use Rattle.model_core.specs.Views.{IsTokenAt, IsDomainIn, IsDomainAt}
use Rattle.plan_defs.proofs.States.{gives_same}
use Rattle.plan_defs.specs.StatePlans.{IsSettledState}
use Rattle.plan_defs.proofs.Telling.{one_at}
use Rattle.flaw_core.specs.declared.flaw.VarPlace.{VarPlace}
use Rattle.flaw_core.specs.declared.flaw.VarPlace.TheVariants as at
use Rattle.flaw_core.specs.Places.{IsVarAt}
use Rattle.flaw_core.specs.Rules.{IsLeastFor}
use Rattle.flaw_core.specs.Seeking.{HasSeveral, IsDomainOf, IsInactive}
use Rattle.flaw_core.proofs.Sorting.{var_once}

-- a least state is a settled one
pub settled_of : (model : Model) (decisions : List Decision) (state : State) → IsLeastFor model decisions state → IsSettledState model decisions state
settled_of model decisions state least = record { lawful = least.lawful; settled = least.settled; consistent = least.least.closed.consistent }

module _ (state : State) where
  pub global_domain : (number : ℕ) (found : Option Domain) → IsDomainIn state (names.Global number) found → IsDomainOf state (at.Global number) found
  global_domain number None none = λ name domain is gives. none domain (subst (λ (n : VarName). Gives state n domain) is gives)
  global_domain number (Some domain) gives = (names.Global number, refl, gives)

  pub part_domain : (place : ℕ) (part : Part) (found : Option Domain) → IsDomainAt state place (λ token. names.Token token part) found → IsDomainOf state (at.Part place part) found
  part_domain place part None none = λ name domain is gives. none is.0 domain is.1 (subst (λ (n : VarName). Gives state n domain) is.2 gives)
  part_domain place part (Some domain) (token, here, gives) = (names.Token token part, (token, here, refl), gives)

  pub local_domain : (place rule number : ℕ) (found : Option Domain) → IsDomainAt state place (λ token. names.Local token rule number) found → IsDomainOf state (at.Local place rule number) found
  local_domain place rule number None none = λ name domain is gives. none is.0 domain is.1 (subst (λ (n : VarName). Gives state n domain) is.2 gives)
  local_domain place rule number (Some domain) (token, here, gives) = (names.Local token rule number, (token, here, refl), gives)

  -- whether there are several values
  pub several_told : AreInOrder state → (place : VarPlace) (domain : Domain) (told : Bool) → ((name : VarName) × IsVarAt state place name × Gives state name domain)
      → MatchBool told ((value : ℤ) → IsSingle domain value → ⊥) ((value : ℤ) × IsSingle domain value)
      → MatchBool told ((name : VarName) × IsVarAt state place name × HasSeveral state name) ((name : VarName) → IsVarAt state place name → HasSeveral state name → ⊥)
  several_told order place domain true (name, here, gives) several = (name, here, (domain, gives, several))
  several_told order place domain false (name, here, gives) (value, single) = λ other there has.
      let names = var_once state place other name there here in
      let same = gives_same state order name has.0 domain (subst (λ (n : VarName). Gives state n has.0) names has.1) gives in
      has.2 value (subst (λ (d : Domain). IsSingle d value) (sym same) single)

module _ (model : Model) (decisions : List Decision) (state : State) where
  undecided_if : (found : TokenState) (token : TokenName) → IsInactive found → HasTokenState model state decisions token found → IsDecided model decisions token → ⊥
  undecided_if Inactive token is has = has
  undecided_if Active token is has = absurd is
  undecided_if Fact token is has = absurd is
  undecided_if (Merged place) token is has = absurd is
  undecided_if Rejected token is has = absurd is

  decided_if : (found : TokenState) (token : TokenName) → (IsInactive found → ⊥) → HasTokenState model state decisions token found → IsDecided model decisions token
  decided_if Inactive token not has = absurd (not tt)
  decided_if Active token not has = inr (inl (inl has))
  decided_if Fact token not has = inl has
  decided_if (Merged place) token not has = inr (inl (inr (has.0, has.2)))
  decided_if Rejected token not has = inr (inr has)

  pub undecided_told : (place : ℕ) (found : TokenState) (told : Bool) → IsTrue told ↔ IsInactive found
      → ((token : TokenName) × IsTokenAt state place token × HasTokenState model state decisions token found)
      → MatchBool told ((token : TokenName) × IsTokenAt state place token × (IsDecided model decisions token → ⊥))
      ((token : TokenName) → IsTokenAt state place token → (IsDecided model decisions token → ⊥) → ⊥)
  undecided_told place found true says (token, here, has) = (token, here, undecided_if found token (says.0 refl) has)
  undecided_told place found false says (token, here, has) = λ other there not.
      not (subst (IsDecided model decisions) (one_at state place token other here there)
      (decided_if found token (λ inactive. let p : false ≡ true = says.1 inactive in cc) has))
