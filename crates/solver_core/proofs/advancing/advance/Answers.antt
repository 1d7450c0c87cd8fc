use Rattle.std.proofs.Common.{rules}
use Rattle.solver_core.proofs.Coming.{seen_collapsed, seen_clear, seen_flawed}
use Rattle.solver_core.proofs.advancing.advance.Goals as goal

pub go_back-requires : goal.go_back-requires
go_back-requires g c = λ κs below. (
  search rules,
  (
    c.requires.1.0,
    seen_collapsed (g.R.FlawRule.is_first c.args.rule.now) (g.R.FlawRule.are_choices c.args.rule.now) g.task c.args.bound c.requires.1.0.0 _ _ _ c.args.db.now c.requires.1.1.0.0 c.requires.1.1.1 c.in-Collapsed.ensures,
  ),
)

pub returns-in-Clear-clause-advances : goal.returns-in-Clear-clause-advances
returns-in-Clear-clause-advances g c =
    seen_clear (g.R.FlawRule.is_first c.args.rule.now) (g.R.FlawRule.are_choices c.args.rule.now) g.task c.args.bound c.requires.1.0.0 _ _ _ c.args.db.now c.requires.1.1.0.0 c.requires.1.1.1 c.in-Clear.ensures

pub go_on-requires : goal.go_on-requires
go_on-requires g c = λ κs below. (
  search rules,
  (
    c.requires.1.0,
    seen_flawed (g.R.FlawRule.is_first c.args.rule.now) (g.R.FlawRule.are_choices c.args.rule.now) g.task c.args.bound c.requires.1.0.0 _ _ _ c.args.db.now c.requires.1.1.0.0 c.requires.1.1.1 c.in-Flawed.flaw c.in-Flawed.left_out _ c.either-course.ensures c.in-Flawed.ensures,
  ),
)
