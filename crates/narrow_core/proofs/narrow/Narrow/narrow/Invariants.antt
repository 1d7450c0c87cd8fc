use Rattle.std.specs.Prelude.{All}
use Rattle.domain_core.specs.Domain.{IsDomain}
use Rattle.narrow_core.proofs.Places.{Swept}
use Rattle.narrow_core.proofs.narrow.Narrow.narrow.Given as goal

abbrev pub invariant-loop-place : goal.invariant-loop-place
invariant-loop-place g l = record {
  swept : Swept (g.Self.Narrow.reach l.self) (g.Self.Narrow.holds l.self) l.fn.args l.args l.place l.change;
  domains : All IsDomain l.fn.args → All IsDomain l.args;
}
