use Rattle.std.proofs.Common.{◌≡◌, drop}
use Rattle.nddl_terms.specs.Paths.{rest_stand}
use Rattle.nddl_terms.specs.Readings.{readings_of}
use Rattle.nddl_terms.proofs.paths.rest_stand.Given as goal

-- what the names that are left stand for from here is what all do from the start
abbrev pub invariant-loop-name : goal.invariant-loop-name
invariant-loop-name l =
    rest_stand (readings_of l.reading) l.here (drop l.name-index l.names) l.growth
    ≡ rest_stand (readings_of l.reading) l.fn.begin l.names l.fn.growth
