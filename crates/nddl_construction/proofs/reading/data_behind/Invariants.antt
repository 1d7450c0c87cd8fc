use Rattle.std.proofs.Common.{◌≡◌, drop}
use Rattle.nddl_construction.specs.Reading.{data_behind}
use Rattle.nddl_construction.proofs.reading.data_behind.Given as goal

-- what the names that are left stand for from here is what all do from the start
abbrev pub invariant-loop-name : goal.invariant-loop-name
invariant-loop-name l = data_behind l.objects l.here (drop l.name-index l.names) ≡ data_behind l.objects l.fn.begin l.names
