use Rattle.std.proofs.Common.{List, sym, subst}
use Rattle.std.specs.Prelude.{OnOk}
use Rattle.model_core.specs.declared.decision.ConArg.{ConArg}
use Rattle.model_core.specs.declared.decision.Decision.{Decision}
use Rattle.plan_defs.specs.Claims.{posted_claim}
use Rattle.db_edges.specs.Adding.{AddsEdges}
use Rattle.db_edges.specs.Edges.{HasClaimEdges, HasPostedEdges}
use Rattle.db_edges.proofs.posting.push_posted.Goals as goal

pub returns-in-Constrain : goal.returns-in-Constrain
returns-in-Constrain c =
    let model = c.args.at.model.now in
    let decisions = c.args.at.decisions.now in
    let said = subst (λ (list : List ConArg). OnOk c.push_constraint.result (AddsEdges (HasClaimEdges model decisions (posted_claim c.in-Constrain.kind list)) c.args.edges.now.items c.push_constraint.new.edges.items))
    c.as_slice.ensures c.push_constraint.ensures in
    subst (λ (d : Decision). OnOk c.push_constraint.result (AddsEdges (HasPostedEdges model decisions d) c.args.edges.now.items c.push_constraint.new.edges.items)) (sym c.in-Constrain.is) said
