use Rattle.session_replies.specs.Lines.{IsDecisionLine}
use Rattle.session_replies.proofs.Lining.{no_line, line_ends, line_more, all_lines}
use Rattle.session_replies.proofs.decisions.put_decisions.Goals as goal

pub loop-decision-init : goal.loop-decision-init
loop-decision-init c = no_line (IsDecisionLine c.args.model.now) c.args.decisions.now c.args.out.now.items

pub loop-decision-preserved : goal.loop-decision-preserved
loop-decision-preserved c =
    line_more (IsDecisionLine c.args.model.now) c.args.decisions.now c.loop-decision.decision-index c.decision-item.result c.args.out.now.items c.loop-decision.out.items c.put_line_feed.new.out.items c.loop-decision-test.true c.decision-item.is
    (line_ends (IsDecisionLine c.args.model.now c.decision-item.result) c.loop-decision.out.items c.put_decision.new.out.items c.put_line_feed.new.out.items c.in_ok-put_decision.ensures c.in_ok-put_line_feed.ensures) c.loop-decision.invariant

pub returns : goal.returns
returns c = all_lines (IsDecisionLine c.args.model.now) c.args.decisions.now c.loop-decision.decision-index c.args.out.now.items c.loop-decision.out.items c.loop-decision-test.false c.loop-decision.invariant
