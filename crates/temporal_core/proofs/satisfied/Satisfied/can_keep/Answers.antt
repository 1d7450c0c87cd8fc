use Rattle.std.proofs.Common.{◌∷◌, ◌++◌, []}
use Rattle.temporal_core.proofs.Satisfying.{schedule_or_cycle}
use Rattle.temporal_core.proofs.satisfied.Satisfied.can_keep.Goals as goal

pub returns : goal.returns
returns c = schedule_or_cycle (c.args.self.now.graph.edges.items ++ c.args.edge ∷ []) c.keep_too.new.values _ c.in_ok-done.ensures.kept
