use Rattle.run_commands.proofs.Found.{plan_told}
use Rattle.run_commands.proofs.finding.found_plan.Goals as goal

pub count_lines-requires : goal.count_lines-requires
count_lines-requires c = c.requires.is_plan.few_lines

pub returns : goal.returns
returns c =
    plan_told c.args.model.now c.args.plan.now c.requires.valid c.args.visits c.count_lines.result c.in_ok-checked.checked.reply c.as_slice.result.now
    c.in_ok-checked.checked.is_valid c.found_text.result c.count_lines.ensures c.in_ok-checked.ensures c.as_slice.ensures c.found_text.ensures
