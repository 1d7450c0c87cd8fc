-- How the constraints of a network are stored.
use Rattle.std.specs.Prelude.{◌≢◌, ℕ, List, [], map, All, AllPairs, Option, Some, None}
use Rattle.slab.specs.Slab.{Slab, get, ContainsKey}
use Rattle.domain_core.specs.declared.kind.Kind.TheVariants as kind
use Rattle.constraint_net.specs.declared.constraint.Constraint.{Constraint}

-- what is stored, where something is
abbrev pub or_any : Option Constraint → Constraint
or_any (Some constraint) = constraint
or_any None = record { kind = kind.Eq; args = [] }

-- the constraints under these keys
abbrev pub constraints_of : Slab Constraint → List ℕ → List Constraint
constraints_of kept keys = map (λ key. or_any (get kept key)) keys

-- each key has a constraint, and no key stands twice
pub record IsStored (kept : Slab Constraint) (keys : List ℕ) : Type 0 where
  pub each : All (ContainsKey kept) keys
  pub once : AllPairs (λ one later. one ≢ later) keys
