-- The next choice is taken, or there is none left.
use Rattle.solver_core.proofs.Coming.{first_of, picked_of, may_take, takes_next, takes_kept, looking_above}
use Rattle.solver_core.proofs.advancing.take_next.Goals as goal

pub next_choice-requires-clause-first : goal.next_choice-requires-clause-first
next_choice-requires-clause-first g c = first_of (g.R.FlawRule.is_first c.args.rule.now) (g.R.FlawRule.are_choices c.args.rule.now) g.task c.args.branch _ _ _ c.args.db.now c.requires.1.1

pub put_found-requires-clause-admissible : goal.put_found-requires-clause-admissible
put_found-requires-clause-admissible g c =
    may_take (g.R.FlawRule.is_first c.args.rule.now) (g.R.FlawRule.are_choices c.args.rule.now) g.task c.args.branch _ _ _ c.args.db.now c.requires.1.1 c.args.bound c.requires.1.0.0 c.requires.1.0.1
    c.next_choice.ensures.sound (g.met.R.FlawRule.admits c.args.rule.now) c.in-Ok.found
    (picked_of (g.R.FlawRule.is_first c.args.rule.now) (g.R.FlawRule.are_choices c.args.rule.now) g.task c.args.branch _ _ _ c.args.db.now c.requires.1.1 c.args.bound c.requires.1.0.0 c.in-Ok.found c.in-Ok.ensures.choice)

pub returns-in-Ok-clause-takes : goal.returns-in-Ok-clause-takes
returns-in-Ok-clause-takes g c =
    takes_next (g.R.FlawRule.is_first c.args.rule.now) (g.R.FlawRule.are_choices c.args.rule.now) g.task c.args.branch c.args.course.now c.put_found.new.course c.args.db.now c.put_found.new.db c.in-Ok.found c.put_found.result
    c.requires.1.1
    (picked_of (g.R.FlawRule.is_first c.args.rule.now) (g.R.FlawRule.are_choices c.args.rule.now) g.task c.args.branch _ _ _ c.args.db.now c.requires.1.1 c.args.bound c.requires.1.0.0 c.in-Ok.found c.in-Ok.ensures.choice)
    c.put_found.ensures.takes c.put_found.ensures.still c.put_found.ensures.visits c.put_found.ensures.left_out

pub returns-in-Ok-clause-kept : goal.returns-in-Ok-clause-kept
returns-in-Ok-clause-kept g c = takes_kept c.in-Ok.found _ c.args.db.now c.put_found.new.db _ _ c.put_found.result c.put_found.ensures.takes

pub returns-in-Err-clause-takes : goal.returns-in-Err-clause-takes
returns-in-Err-clause-takes g c = looking_above (g.R.FlawRule.is_first c.args.rule.now) (g.R.FlawRule.are_choices c.args.rule.now) g.task c.args.branch _ _ _ c.args.db.now c.requires.1.1
