-- Domains and variables that are alike.
use Rattle.std.specs.Prelude.{◌≡◌, ℤ}
use Rattle.domain_core.specs.Domain.{Domain, Has, IsSameKind, IsTested}
use Rattle.model_core.specs.declared.variable.VarDecl.{VarDecl}

-- the domains are of one form, and each lies in the other
pub record LieInEachOther (one other : Domain) : Type 0 where
  pub form : IsSameKind one other
  pub inside : (value : ℤ) → IsTested one value → Has other value
  pub outside : (value : ℤ) → IsTested other value → Has one value

-- the variables have one name, one kind and one base
pub record HaveSameParts (one other : VarDecl) : Type 0 where
  pub names : one.name ≡ other.name
  pub kinds : one.kind ≡ other.kind
  pub bases : one.base ≡ other.base
