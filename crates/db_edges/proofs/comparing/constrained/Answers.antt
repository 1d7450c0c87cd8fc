use Rattle.std.proofs.Common.{List, sym, subst}
use Rattle.std.specs.Prelude.{OnOk}
use Rattle.model_core.specs.declared.item.Item.TheVariants.{Constraint}
use Rattle.model_core.specs.declared.item.Term.{Term}
use Rattle.db_edges.specs.Adding.{AddsEdges}
use Rattle.db_edges.specs.Edges.{HasConstraintEdges}
use Rattle.db_edges.specs.Sites.{context_at}
use Rattle.db_edges.proofs.comparing.constrained.Goals as goal

pub returns-in-Constraint : goal.returns-in-Constraint
returns-in-Constraint c =
    let has = HasConstraintEdges c.args.at.model.now c.args.at.decisions.now (context_at c.args.site) in
    let said = subst (λ (l : List Term). OnOk c.constraint_edges.result (AddsEdges (has (Constraint c.in-Constraint.kind l)) c.args.edges.now.items c.constraint_edges.new.edges.items))
    c.as_slice.ensures c.constraint_edges.ensures in
    subst (λ i. OnOk c.constraint_edges.result (AddsEdges (has i) c.args.edges.now.items c.constraint_edges.new.edges.items)) (sym c.in-Constraint.is) said
