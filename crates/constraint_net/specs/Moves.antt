-- How the variables' cells move while domains get smaller.
use Rattle.std.specs.Prelude.{◌≡◌, ℕ, ◌+◌, ◌-◌, ◌^◌, ◌<◌, min, List, Contains, All, ◌⊎◌, length}
use Rattle.std.specs.Prelude.{slice_index_or}
use Rattle.domain_core.specs.Domain.{Domain, IsDomain, slack}
use Rattle.cell_store.specs.Cells.{Celled, present, domain_at, KeepsPast}
use Rattle.constraint_net.specs.declared.constraint.NetArg.{NetArg}
use Rattle.constraint_net.specs.declared.constraint.NetArg.TheVariants.{Var}

-- each cell has a domain and a stamp, and the place can be gone back to
pub record IsSound (since : ℕ) (cells : Celled) : Type 0 where
  pub place : since < length cells.past
  pub are : All IsDomain (present cells)
  pub stamps : length cells.stamps ≡ length (present cells)

-- the domain and the stamp stay, or the domain has less and the stamp has risen, unless it is at its end
abbrev pub FollowsDown : Domain → ℕ → Domain → ℕ → Type 0
FollowsDown old stamp new next =
    ((new ≡ old) × (next ≡ stamp))
    ⊎ ((slack new < slack old) × ((writes : ℕ) × (next ≡ min (stamp + 1 + writes) (2 ^ 64 - 1))))

-- each stamp follows its domain, and up to the place what can be gone back to is the same
pub record Sinks (since : ℕ) (old new : Celled) : Type 0 where
  pub past : KeepsPast since old.past new.past
  pub stamps : length new.stamps ≡ length old.stamps
  pub follow : (cell : ℕ)
      → FollowsDown (domain_at (present old) cell) (slice_index_or old.stamps cell 0)
      (domain_at (present new) cell) (slice_index_or new.stamps cell 0)

-- variables that no argument names have the domains that they had
abbrev pub StayBut : List NetArg → List Domain → List Domain → Type 0
StayBut args old new = (cell : ℕ) → (Contains args (Var cell) → ⊥) → domain_at new cell ≡ domain_at old cell

-- so it is where at most the variables among the arguments were written
pub record SinksAt (args : List NetArg) (since : ℕ) (old new : Celled) : Type 0 where
  pub sinks : Sinks since old new
  pub others : StayBut args (present old) (present new)
