use Rattle.std.proofs.Common.{List, pos, get_or, subst}
use Rattle.std.specs.Prelude.{OnOk}
use Rattle.model_core.specs.declared.item.Item.TheVariants.{Constraint}
use Rattle.model_core.specs.declared.item.Term.{Term}
use Rattle.model_core.specs.declared.item.Term.TheVariants.{Lit}
use Rattle.db_edges.specs.Adding.{AddsEdges}
use Rattle.db_edges.specs.Edges.{HasConstraintEdges}
use Rattle.db_edges.specs.Sites.{context_at}
use Rattle.db_edges.proofs.Pointing.{constraint_told, not_two, pair_of}
use Rattle.db_edges.proofs.comparing.constraint_edges.Goals as goal

pub returns-then-terms-ne2 : goal.returns-then-terms-ne2
returns-then-terms-ne2 c =
    not_two c.args.at.model.now c.args.at.decisions.now (context_at c.args.site) c.args.kind c.args.terms.now c.args.edges.now.items c.if-terms-ne2.true

pub returns : goal.returns
returns c =
    let terms = c.args.terms.now in
    let context = context_at c.args.site in
    subst (λ (l : List Term). OnOk c.push_if_both.result (AddsEdges (HasConstraintEdges c.args.at.model.now c.args.at.decisions.now context (Constraint c.args.kind l))
    c.args.edges.now.items c.push_if_both.new.edges.items)) (pair_of terms (Lit (pos 0)) (Lit (pos 0)) c.if-terms-ne2.false)
    (constraint_told c.args.at.model.now c.args.at.decisions.now context c.args.kind (get_or terms 0 (Lit (pos 0))) (get_or terms 1 (Lit (pos 0)))
    c.args.edges.now.items c.push_if_both.new.edges.items c.push_if_both.result c.in_ok-from.from c.in_ok-to.to c.in_ok-from.ensures c.in_ok-to.ensures
    c.push_if_both.ensures.both c.push_if_both.ensures.not_both)
