use Rattle.plan_defs.specs.Claims.{part_of}
use Rattle.db_edges.proofs.Pointing.{claim_edges}
use Rattle.db_edges.proofs.comparing.push_between.Goals as goal

pub returns : goal.returns
returns c =
    claim_edges c.args.at.model.now c.args.at.decisions.now c.args.kind (part_of c.args.one.token.now c.args.one.part) (part_of c.args.other.token.now c.args.other.part)
    c.args.edges.now.items c.push_if_both.new.edges.items c.push_if_both.result c.in_ok-from.from c.in_ok-to.to c.in_ok-from.ensures c.in_ok-to.ensures
    c.push_if_both.ensures.both c.push_if_both.ensures.not_both
