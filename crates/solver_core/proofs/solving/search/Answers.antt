use Rattle.std.proofs.Common.{◌≡◌, ℕ, ◌≤◌, sym, subst, arith}
use Rattle.law_search.specs.Search.{Stops}
use Rattle.solver_core.specs.Underway.{HasEnded}
use Rattle.solver_core.proofs.Coming.{is_stopped}
use Rattle.solver_core.proofs.solving.search.Goals as goal

pub returns : goal.returns
returns g c =
    let budget = c.requires.1.1.0 in
    let spent : g.task.budget ≤ c.loop-course.course.visits = omega (arith, budget, c.loop-course-test.false) in
    let ended = is_stopped (g.R.FlawRule.is_first c.args.rule.now) (g.R.FlawRule.are_choices c.args.rule.now) g.task _ c.loop-course.course.visits c.loop-course.course.left_out c.loop-course.db spent c.loop-course.invariant in
    let same : c.loop-course.course.visits ≡ c.args.budget = omega (arith, budget, ended.1) in (
      c.loop-course.course.left_out,
      (
        subst (λ (n : ℕ). HasEnded (g.R.FlawRule.is_first c.args.rule.now) (g.R.FlawRule.are_choices c.args.rule.now) g.task Stops n c.loop-course.course.left_out c.loop-course.db) same ended.0,
        sym budget,
      ),
    )
