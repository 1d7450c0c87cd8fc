use Rattle.model_core.specs.Block.{plain_entries}
use Rattle.plan_inventory.proofs.Marking.{marks_rule}
use Rattle.plan_inventory.proofs.standing.marks_in.Goals as goal

pub returns : goal.returns
returns c =
    marks_rule c.args.model.now c.args.plan.now c.args.token.now c.args.number c.args.rule.now (plain_entries c.contents.result.now) _ _ c.requires.lawful c.requires.has_rule c.contents.ensures c.new-marks.ensures
    c.mark_among.ensures
