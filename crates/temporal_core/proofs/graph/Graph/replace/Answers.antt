use Rattle.std.proofs.Common.{pos, refl}
use Rattle.temporal_core.specs.declared.edges.Edge.{Edge}
use Rattle.temporal_core.proofs.Links.{replaced}
use Rattle.temporal_core.proofs.graph.Graph.replace.Goals as goal

pub returns-clause-graph : goal.returns-clause-graph
returns-clause-graph c = λ points joins same graph.
    let old = c.args.self.now in
    let none : Edge = record { from = 0; to = 0; gap = pos 0 } in
    replaced old.edges.items c.args.place c.args.edge none c.requires same points old _ joins graph refl refl refl
