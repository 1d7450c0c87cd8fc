use Rattle.std.proofs.Common.{◌≡◌, ◌++◌, drop}
use Rattle.nddl_env.specs.Lexicons.{scope_types}
use Rattle.nddl_env.specs.Shapes.{world_of}
use Rattle.nddl_env.specs.Sharing.{AreNumbered}
use Rattle.nddl_env.proofs.types.push_types.Given as goal

-- those so far and those of the names that are left are all, and the typedefs so far are numbered
abbrev pub invariant-loop-entry : goal.invariant-loop-entry
invariant-loop-entry l = record {
  types : l.types ++ scope_types (world_of l.premises) l.entry (drop l.entry l.names)
      ≡ l.initial.types ++ scope_types (world_of l.premises) 0 l.premises.sources.basis.types.scope.now;
  numbered : AreNumbered (world_of l.premises) l.entry l.types l.typedefs.numbers.items;
}
