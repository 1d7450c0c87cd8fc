-- What limiting one variable answers and leaves.
use Rattle.std.specs.Prelude.{◌≡◌, ℕ, List, slice_get, slice_set, Result, OnOk, IfSome}
use Rattle.std.specs.declared.alloc.AllocError.{AllocError}
use Rattle.domain_core.specs.Domain.{Domain, IsDomain, Has}
use Rattle.domain_core.specs.Narrowing.{Keeps}
use Rattle.domain_core.specs.declared.Change.{Change}
use Rattle.cell_store.specs.Cells.{Celled, present, NarrowsCell}
use Rattle.constraint_net.specs.Arguments.{domain_of}
use Rattle.constraint_net.specs.declared.constraint.NetArg.TheVariants.{Var}

-- the variable keeps what the other domain has too, and the other variables stay
pub record LimitsAt (old : List Domain) (variable : ℕ) (to : Domain)
    (change : Change) (new : List Domain) : Type 0 where
  pub left : Domain
  pub is : IsDomain left
  pub kept : Keeps (Has to) (domain_of old (Var variable)) change left
  pub others : new ≡ slice_set old variable left

-- so does its cell, whose domain is one
pub record LimitsCell (variable : ℕ) (to : Domain) (since : ℕ) (old : Celled)
    (result : Result Change AllocError) (new : Celled) : Type 0 where
  pub narrows : NarrowsCell variable to since old result new
  pub is : OnOk result (IfSome (slice_get (present new) variable) IsDomain)
