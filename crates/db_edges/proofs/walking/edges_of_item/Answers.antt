use Rattle.std.proofs.Common.{sym, subst}
use Rattle.std.specs.Prelude.{OnOk}
use Rattle.db_edges.specs.Adding.{AddsEdges}
use Rattle.db_edges.specs.Whole.{HasSortEdges}
use Rattle.db_edges.proofs.walking.edges_of_item.Goals as goal

pub returns-in-Relations : goal.returns-in-Relations
returns-in-Relations c =
    subst (λ sort. OnOk c.related.result (AddsEdges (HasSortEdges sort c.args.walk.model.now c.args.walk.decisions.now c.args.walk.token.now c.args.rule c.args.item.now)
    c.args.edges.now.items c.related.new.edges.items)) (sym c.in-Relations.is) c.related.ensures

pub returns-in-Constraints : goal.returns-in-Constraints
returns-in-Constraints c =
    subst (λ sort. OnOk c.constrained.result (AddsEdges (HasSortEdges sort c.args.walk.model.now c.args.walk.decisions.now c.args.walk.token.now c.args.rule c.args.item.now)
    c.args.edges.now.items c.constrained.new.edges.items)) (sym c.in-Constraints.is) c.constrained.ensures
