-- Both terms are watched.
use Rattle.plan_defs.specs.Support.{other_side}
use Rattle.db_fixpoint.proofs.Posting.{there_watched, guard_watched}
use Rattle.db_fixpoint.proofs.watching.watch_guard.Goals as goal

pub watch_term-requires-2-clause-there : goal.watch_term-requires-2-clause-there
watch_term-requires-2-clause-there c =
    there_watched c.args.store.now c.watch_term.new.store c.in_ok-watch_term.ensures.only c.args.origin (other_side c.args.guard) c.parts_of-one.result.other c.parts_of-one.ensures.other
    c.requires.named.other_there

pub returns-clause-watched : goal.returns-clause-watched
returns-clause-watched c =
    guard_watched c.args.store.now c.watch_term.new.store c.watch_term-2.new.store c.args.number c.args.origin c.args.guard c.parts_of-one.result.one c.parts_of-one.result.other
    c.parts_of-one.ensures.one c.parts_of-one.ensures.other c.in_ok-watch_term.ensures.only c.in_ok-watch_term.ensures.watched c.watch_term-2.result c.watch_term-2.ensures.only
    c.watch_term-2.ensures.watched
