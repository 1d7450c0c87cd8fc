-- The range between the ends of an interval.
use Rattle.domain_core.specs.Domain.{Domain, Range}
use Rattle.domain_core.specs.declared.interval.Interval.{Interval}

-- that range
abbrev pub range_between : Interval → Domain
range_between interval = Range interval.lo interval.hi
