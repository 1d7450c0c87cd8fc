use Rattle.std.proofs.Common.{◌≡◌, ◌++◌, drop, map}
use Rattle.nddl_env.specs.Shapes.{world_of}
use Rattle.nddl_instance.specs.Globals.{declared_globals}
use Rattle.nddl_instance.proofs.globals.declared_globals.Given as goal

-- the globals so far and those of the declarations that are left are all
abbrev pub invariant-loop-decl : goal.invariant-loop-decl
invariant-loop-decl l =
    l.globals ++ declared_globals (world_of l.premises) (map (λ decl. decl.now) (drop l.decl-index l.decls))
    ≡ declared_globals (world_of l.premises) (map (λ decl. decl.now) l.decls)
