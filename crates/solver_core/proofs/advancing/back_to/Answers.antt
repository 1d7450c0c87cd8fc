use Rattle.std.proofs.Common.{rules}
use Rattle.solver_core.proofs.Coming.{ends_accepted, goes_back_to}
use Rattle.solver_core.proofs.advancing.back_to.Goals as goal

pub take_back-requires-clause-accepted : goal.take_back-requires-clause-accepted
take_back-requires-clause-accepted g c = ends_accepted (g.R.FlawRule.is_first c.args.rule.now) (g.R.FlawRule.are_choices c.args.rule.now) g.task c.args.branch _ _ _ c.args.db.now c.requires.1.1

pub take_next-requires : goal.take_next-requires
take_next-requires g c = λ κs below. (
  search rules,
  (
    c.requires.1.0,
    goes_back_to (g.R.FlawRule.is_first c.args.rule.now) (g.R.FlawRule.are_choices c.args.rule.now) g.task c.args.branch _ _ _ c.args.db.now c.take_back.new.db c.take_back.ensures.back.0
        c.requires.1.1 c.take_back.ensures.back.1 c.take_back.ensures.model c.take_back.ensures.still,
  ),
)
