-- The arguments of constraints.
use Rattle.std.specs.Prelude.{ℕ, ◌<◌, ℤ, pos, List, map, slice_index_or}
use Rattle.domain_core.specs.Domain.{Domain, Range, IsValue}
use Rattle.domain_core.specs.Consistency.{Reach, AreConsistent}
use Rattle.constraint_net.specs.declared.constraint.NetArg.{NetArg}
use Rattle.constraint_net.specs.declared.constraint.NetArg.TheVariants.{Var, Lit}

-- an argument is one of so many variables, or a value
abbrev pub IsArgument : ℕ → NetArg → Type 0
IsArgument count (Var variable) = variable < count
IsArgument count (Lit value) = IsValue value

-- the domain of an argument: that of the variable, or the value alone
abbrev pub domain_of : List Domain → NetArg → Domain
domain_of domains (Var variable) = slice_index_or domains variable (Range (pos 0) (pos 0))
domain_of domains (Lit value) = Range value value

-- the domains of the arguments, in their order
abbrev pub domains_of : List Domain → List NetArg → List Domain
domains_of domains args = map (domain_of domains) args

-- the domains of the arguments support each other
abbrev pub AgreeAt : Reach → (List ℤ → Type 0) → List NetArg → List Domain → Type 0
AgreeAt reach holds args domains = AreConsistent reach holds (domains_of domains args)
