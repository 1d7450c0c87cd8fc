use Rattle.std.proofs.Common.{List, subst}
use Rattle.std.specs.Prelude.{OnOk}
use Rattle.model_core.specs.declared.decision.ConArg.{ConArg}
use Rattle.plan_defs.specs.Claims.{argument_of, posted_claim}
use Rattle.db_edges.specs.Adding.{AddsEdges}
use Rattle.db_edges.specs.Edges.{HasClaimEdges}
use Rattle.db_edges.proofs.Pointing.{claim_edges}
use Rattle.db_edges.proofs.Posted.{posted_not_two, two_read}
use Rattle.db_edges.proofs.posting.push_constraint.Goals as goal

pub returns-then-arguments-ne2 : goal.returns-then-arguments-ne2
returns-then-arguments-ne2 c =
    posted_not_two c.args.at.model.now c.args.at.decisions.now c.args.kind c.args.arguments.now c.args.edges.now.items c.if-arguments-ne2.true

pub returns : goal.returns
returns c =
    let model = c.args.at.model.now in
    let decisions = c.args.at.decisions.now in
    let one = c.index-arguments-0.result in
    let other = c.index-arguments-1.result in
    subst (λ (list : List ConArg). OnOk c.push_if_both.result (AddsEdges (HasClaimEdges model decisions (posted_claim c.args.kind list))
    c.args.edges.now.items c.push_if_both.new.edges.items))
    (two_read c.args.arguments.now one other c.if-arguments-ne2.false c.index-arguments-0.is c.index-arguments-1.is)
    (claim_edges model decisions c.args.kind (argument_of one) (argument_of other)
    c.args.edges.now.items c.push_if_both.new.edges.items c.push_if_both.result c.in_ok-from.from c.in_ok-to.to c.in_ok-from.ensures c.in_ok-to.ensures
    c.push_if_both.ensures.both c.push_if_both.ensures.not_both)
