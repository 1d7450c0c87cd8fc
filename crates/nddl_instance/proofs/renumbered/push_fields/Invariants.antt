use Rattle.std.proofs.Common.{◌≡◌, ◌+◌, ◌++◌, drop}
use Rattle.nddl_instance.specs.Renumbered.{field_globals}
use Rattle.nddl_instance.proofs.renumbered.push_fields.Given as goal

-- the globals so far and those of the locals that are left are all
abbrev pub invariant-loop-place : goal.invariant-loop-place
invariant-loop-place l =
    l.globals ++ field_globals (l.count + l.place) (drop l.place l.locals) ≡ l.initial.globals ++ field_globals l.count l.locals
