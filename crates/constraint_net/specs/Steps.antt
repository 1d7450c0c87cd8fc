-- Steps towards the greatest domains that fit: no domains that fit are lost.
use Rattle.std.specs.Prelude.{◌≡◌, ℕ, ◌<◌, List, sum_by, All, ⊤, Result, Ok, Err}
use Rattle.std.specs.declared.alloc.AllocError.{AllocError}
use Rattle.domain_core.specs.Domain.{Domain, IsDomain, IsWithin, slack}
use Rattle.domain_core.specs.declared.Change.{Change}
use Rattle.domain_core.specs.declared.Change.TheVariants.{Same, Smaller, Empty}
use Rattle.narrow_core.specs.Laws.{LieWithin}
use Rattle.constraint_net.specs.Arguments.{domain_of}
use Rattle.constraint_net.specs.declared.constraint.NetArg.{NetArg}
use Rattle.constraint_net.specs.declared.constraint.NetArg.TheVariants.{Var, Lit}
use Rattle.constraint_net.specs.declared.NetFault.{NetFault}
use Rattle.constraint_net.specs.declared.NetFault.TheVariants.{Collapsed, Memory}

-- domains within these that fit
pub record FitWithin (fits : List Domain → Type 0) (domains below : List Domain) : Type 0 where
  pub are : All IsDomain below
  pub within : LieWithin below domains
  pub fit : fits below

-- the new domains lie within the old ones, and of those within the old ones that fit none is lost
pub record Advances (fits : List Domain → Type 0) (old new : List Domain) : Type 0 where
  pub are : All IsDomain new
  pub within : LieWithin new old
  pub keeps : (below : List Domain) → FitWithin fits old below → LieWithin below new

-- what a step answers and leaves: the domains fit and stay; or values have gone; or none within them fit
abbrev pub AdvancesTo : (List Domain → Type 0) → List Domain → Change → List Domain → Type 0
AdvancesTo fits old Same new = (new ≡ old) × fits old
AdvancesTo fits old Smaller new = Advances fits old new × (sum_by slack new < sum_by slack old)
AdvancesTo fits old Empty new = Advances fits old new × ((below : List Domain) → FitWithin fits old below → ⊥)

-- the same where memory may run out on the way
abbrev pub StepsTo : (List Domain → Type 0) → List Domain → Result Change AllocError → List Domain → Type 0
StepsTo fits old (Ok change) new = AdvancesTo fits old change new
StepsTo fits old (Err none) new = Advances fits old new

-- what is asked for each number below this one
abbrev pub FitBefore : (ℕ → List Domain → Type 0) → ℕ → List Domain → Type 0
FitBefore fits count domains = (number : ℕ) → number < count → fits number domains

-- where the argument is a variable, its domain lies within the other one
abbrev pub LiesIn : NetArg → Domain → List Domain → Type 0
LiesIn (Var variable) outer domains = IsWithin (domain_of domains (Var variable)) outer
LiesIn (Lit value) outer domains = ⊤

-- what steps until nothing changes come to: the greatest domains that fit; or none fit; or memory has run out on
-- the way
abbrev pub PropagatesTo : (List Domain → Type 0) → List Domain → Result (Unit {0}) NetFault → List Domain → Type 0
PropagatesTo fits old (Ok done) new = Advances fits old new × fits new
PropagatesTo fits old (Err Collapsed) new = Advances fits old new × ((below : List Domain) → FitWithin fits old below → ⊥)
PropagatesTo fits old (Err Memory) new = Advances fits old new
