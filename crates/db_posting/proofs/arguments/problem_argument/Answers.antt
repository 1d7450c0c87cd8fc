use Rattle.std.proofs.Common.{subst, refl}
use Rattle.plan_defs.specs.Terms.{InProblem}
use Rattle.db_refine.specs.Coming.{IsTermThere}
use Rattle.db_posting.specs.Origins.{content_now}
use Rattle.db_posting.proofs.arguments.problem_argument.Goals as goal

pub variable_at-requires-clause-there : goal.variable_at-requires-clause-there
variable_at-requires-clause-there c = subst (IsTermThere (content_now c.args.store.now) InProblem) c.in-Global.is c.requires.there _ refl

pub root_argument-requires : goal.root_argument-requires
root_argument-requires c = subst (IsTermThere (content_now c.args.store.now) InProblem) c.in-Root.is c.requires.there _ refl
