-- What a constraint leaves of one argument, given the others.
use Rattle.std.specs.Prelude.{◌≡◌, ℕ, ℤ, pos, List, ◌∷◌, ◌++◌, map, length, ⊤, Result, Ok, Err}
use Rattle.std.specs.declared.alloc.AllocError.{AllocError}
use Rattle.domain_core.specs.Domain.{Domain, Range, IsDomain}
use Rattle.domain_core.specs.Narrowing.{Keeps}
use Rattle.domain_core.specs.declared.Change.TheVariants as change
use Rattle.domain_core.specs.Consistency.{Reach, IsSupported}
use Rattle.narrow_core.specs.Sweeps.{AllTested}
use Rattle.constraint_net.specs.Arguments.{domains_of}
use Rattle.constraint_net.specs.declared.constraint.NetArg.{NetArg}
use Rattle.constraint_net.specs.declared.constraint.NetArg.TheVariants.{Var, Lit}
use Rattle.constraint_net.specs.declared.reading.Left.{Left}
use Rattle.constraint_net.specs.declared.reading.Left.TheVariants.{Whole, Part, Nothing}

-- the value that stands as the argument; that of a variable's place doesn't count
abbrev pub literal_of : NetArg → ℤ
literal_of (Var variable) = pos 0
literal_of (Lit value) = value

-- the values among the arguments, each as a domain
abbrev pub literals_of : List NetArg → List Domain
literals_of args = map (λ arg. Range (literal_of arg) (literal_of arg)) args

-- the domain keeps the values that pass, unless memory has run out
abbrev pub LeavesOwn : (ℤ → Type 0) → Domain → Result Left AllocError → Type 0
LeavesOwn passes own (Ok Whole) = Keeps passes own change.Same own
LeavesOwn passes own (Ok (Part left)) = IsDomain left × Keeps passes own change.Smaller left
LeavesOwn passes own (Ok Nothing) = Keeps passes own change.Empty own
LeavesOwn passes own (Err none) = ⊤

-- of these domains the one at the place keeps the values that the others support
pub record LeavesAt (reach : Reach) (holds : List ℤ → Type 0) (place : ℕ) (domains : List Domain)
    (result : Result Left AllocError) : Type 0 where
  pub before : List Domain
  pub own : Domain
  pub after : List Domain
  pub at : length before ≡ place
  pub are : domains ≡ before ++ own ∷ after
  pub leaves : LeavesOwn (λ value. IsSupported reach holds before value after) own result

-- the other arguments support the one at the place
abbrev pub SupportedAt : Reach → (List ℤ → Type 0) → List NetArg → ℕ → List Domain → Type 0
SupportedAt reach holds args place domains =
    (before : List Domain) (own : Domain) (after : List Domain) → domains_of domains args ≡ before ++ own ∷ after
    → length before ≡ place → AllTested (λ value. IsSupported reach holds before value after) own
