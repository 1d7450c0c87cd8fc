use Rattle.std.proofs.Common.{sym, subst}
use Rattle.std.specs.Prelude.{OnOk}
use Rattle.domain_core.specs.declared.kind.Kind.TheVariants.{Eq, Leq}
use Rattle.db_posting.specs.Posted.{compares}
use Rattle.db_edges.specs.Adding.{AddsEdges}
use Rattle.db_edges.specs.Edges.{HasClaimEdges}
use Rattle.db_edges.proofs.Pointing.{claim_renamed}
use Rattle.db_edges.proofs.comparing.push_comparison.Goals as goal

pub returns-in-AtMost : goal.returns-in-AtMost
returns-in-AtMost c =
    subst (λ said. OnOk c.push_between.result (AddsEdges (HasClaimEdges c.args.at.model.now c.args.at.decisions.now (compares c.args.one.now c.args.other.now said))
    c.args.edges.now.items c.push_between.new.edges.items)) (sym c.in-AtMost.is)
    (claim_renamed c.args.at.model.now c.args.at.decisions.now Leq _ _ _ _ c.args.edges.now.items c.push_between.new.edges.items c.push_between.result
    c.part_at-from.ensures c.part_at-to.ensures c.push_between.ensures)

pub returns-in-Equal : goal.returns-in-Equal
returns-in-Equal c =
    subst (λ said. OnOk c.push_between-in-Equal.result (AddsEdges (HasClaimEdges c.args.at.model.now c.args.at.decisions.now (compares c.args.one.now c.args.other.now said))
    c.args.edges.now.items c.push_between-in-Equal.new.edges.items)) (sym c.in-Equal.is)
    (claim_renamed c.args.at.model.now c.args.at.decisions.now Eq _ _ _ _ c.args.edges.now.items c.push_between-in-Equal.new.edges.items c.push_between-in-Equal.result
    c.part_at-from-in-Equal.ensures c.part_at-to-in-Equal.ensures c.push_between-in-Equal.ensures)
