use Rattle.session_core.proofs.Searches.{ended_since, ended_flawless, search_answered, not_searched}
use Rattle.session_core.proofs.searching.search.Goals as goal

pub told_or_back-requires : goal.told_or_back-requires
told_or_back-requires g c =
    let old = c.args.db.now.database in
    let solved = c.in-Ok.ensures.solves in (
      solved.0.after,
      (
        ended_flawless c.args.tokens c.args.steps solved.2.0 old c.solve.new.db.database c.in-Ok.end solved.2.2 c.in-Ok.ensures.proves,
        (
          rw c.requires.0 (ended_since c.args.steps solved.2.0 old c.solve.new.db.database c.in-Ok.end solved.2.2),
          rw c.requires.0 c.history-before.ensures,
        ),
      ),
    )

pub returns-in-Ok : goal.returns-in-Ok
returns-in-Ok g c =
    let old = c.args.db.now.database in
    search_answered c.args.steps c.args.tokens old c.solve.new.db.database c.told_or_back.new.db.database c.in-Ok.end c.in-Ok.ensures.solves.2.0 c.told_or_back.result
    c.in-Ok.ensures.solves.1 (c.plain_searches_are_searches.ensures _ _ _ _ _ c.in-Ok.ensures.solves.2.1) c.in-Ok.ensures.solves.2.2
    (rw c.requires.0 at c.told_or_back.ensures)

pub returns-in-Err : goal.returns-in-Err
returns-in-Err g c =
    not_searched c.args.steps c.args.tokens c.args.db.now c.solve.new.db c.in-Err.fault c.no_search.result c.in-Err.ensures.solves c.no_search.ensures
