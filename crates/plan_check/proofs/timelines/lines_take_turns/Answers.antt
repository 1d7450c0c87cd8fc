use Rattle.plan_check.proofs.Turning.{lines_answer}
use Rattle.plan_check.proofs.timelines.lines_take_turns.Goals as goal

pub returns-in-Token-other : goal.returns-in-Token-other
returns-in-Token-other c =
    lines_answer c.args.model.now c.args.one.now c.args.other.now c.in-Token.name c.in-Token-other.name c.in-Token.fact c.in-Token-other.fact c.in-Token.values c.in-Token-other.others
    c.as_slice.result.now c.as_slice-in-Token-other.result.now c.take_turns.result c.in-Token.is c.in-Token-other.is c.as_slice.ensures c.as_slice-in-Token-other.ensures c.take_turns.ensures
