use Rattle.std.proofs.Common.{rules}
use Rattle.solver_core.proofs.Coming.{failed_last, popped_shorter}
use Rattle.solver_core.proofs.advancing.go_back.Goals as goal

pub back_to-requires : goal.back_to-requires
back_to-requires g c = λ κs below. (
  search rules,
  (
    c.requires.1.0,
    failed_last (g.R.FlawRule.is_first c.args.rule.now) (g.R.FlawRule.are_choices c.args.rule.now) g.task c.in-Some.branch _ _ _ _ _ c.in-Some.ensures.items c.loop-branch.invariant.failed,
  ),
)

pub loop-branch-smaller : goal.loop-branch-smaller
loop-branch-smaller g c =
    popped_shorter _ _ _ c.in-Some.branch c.in-Some.ensures.items (c.in_ok-back_to.ensures.kept c.if-branch.false)
