use Rattle.std.proofs.Common.{List, reverse, rules, sym, subst, false}
use Rattle.solver_core.specs.declared.course.Branch.{Branch}
use Rattle.solver_core.specs.Underway.{IsToVisit}
use Rattle.solver_core.proofs.Coming.{is_begun}
use Rattle.solver_core.proofs.solving.search_anew.Goals as goal

pub search-requires : goal.search-requires
search-requires g c = λ κs below. (
  search rules,
  (
    c.requires.1.0,
    (
      c.requires.1.1.0,
      subst (λ (b : List Branch). IsToVisit (g.R.FlawRule.is_first c.args.rule.now) (g.R.FlawRule.are_choices c.args.rule.now) g.task (reverse b) 0 false c.args.db.now) (sym c.new.ensures.items)
          (is_begun (g.R.FlawRule.is_first c.args.rule.now) (g.R.FlawRule.are_choices c.args.rule.now) g.task c.args.db.now c.requires.1.1.1.0 c.requires.1.1.1.1),
    ),
  ),
)
