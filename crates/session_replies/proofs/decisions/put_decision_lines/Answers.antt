use Rattle.session_replies.specs.Lines.{IsDecisionLine}
use Rattle.session_replies.proofs.Lining.{counted}
use Rattle.session_replies.proofs.decisions.put_decision_lines.Goals as goal

pub returns : goal.returns
returns c =
    counted (IsDecisionLine c.args.model.now) c.args.decisions.now c.args.word.now c.args.out.now.items c.put_count_line.new.out.items c.put_decisions.new.out.items c.put_decisions.result c.in_ok-put_count_line.ensures c.put_decisions.ensures
