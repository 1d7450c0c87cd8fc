use Rattle.std.proofs.Common.{◌≡◌, ◌++◌, drop}
use Rattle.nddl_types.specs.Scoped.{named_from}
use Rattle.nddl_types.proofs.scoped.named_of.Given as goal

-- the names so far and those that are left are all
abbrev pub invariant-loop-number : goal.invariant-loop-number
invariant-loop-number l =
    l.named ++ named_from l.program.files.now l.program.sites.now l.scope l.number (drop l.number l.names)
    ≡ named_from l.program.files.now l.program.sites.now l.scope 0 l.names
