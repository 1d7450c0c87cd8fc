use Rattle.std.proofs.Common.{subst}
use Rattle.std.specs.Prelude.{OnOk}
use Rattle.db_edges.specs.Adding.{AddsEdges}
use Rattle.db_edges.specs.Edges.{AppendsEach, HasClaimEdges}
use Rattle.db_edges.proofs.comparing.push_relation.Goals as goal

pub returns : goal.returns
returns c =
    subst (λ claims. OnOk c.push_comparisons.result (AddsEdges (AppendsEach (HasClaimEdges c.args.at.model.now c.args.at.decisions.now) claims) c.args.edges.now.items c.push_comparisons.new.edges.items))
    (c.comparisons.ensures c.args.one.now c.args.other.now) c.push_comparisons.ensures
