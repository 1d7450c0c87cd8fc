use Rattle.std.proofs.Common.{ap, subst}
use Rattle.std.specs.Prelude.{OnOk}
use Rattle.plan_defs.specs.Claims.{relates}
use Rattle.db_edges.specs.Adding.{AddsEdges}
use Rattle.db_edges.specs.Edges.{AppendsEach, HasClaimEdges}
use Rattle.db_edges.proofs.comparing.relation_edges.Goals as goal

pub returns : goal.returns
returns c =
    subst (λ claims. OnOk c.push_relation.result (AddsEdges (AppendsEach (HasClaimEdges c.args.at.model.now c.args.at.decisions.now) claims) c.args.edges.now.items c.push_relation.new.edges.items))
    (ap (relates c.args.rel c.args.token.now) c.in_ok-other.ensures) c.push_relation.ensures
