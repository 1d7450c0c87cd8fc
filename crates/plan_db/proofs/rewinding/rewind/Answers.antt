use Rattle.std.proofs.Common.{◌≡◌, ◌+◌, length, arith}
use Rattle.plan_db.proofs.TakenBack.{is_back, ends_accepted, since_back, back_shorter}
use Rattle.plan_db.proofs.rewinding.rewind.Goals as goal

pub take_back-requires-clause-accepted : goal.take_back-requires-clause-accepted
take_back-requires-clause-accepted g c =
    let begun : c.args.before + 1 ≡ length g.former.history = c.requires.1.1 in
    ends_accepted g.former c.loop-db.db.database c.loop-db.invariant.since (omega (arith, begun, c.history.ensures, c.loop-db-test.true))

pub loop-db-preserved : goal.loop-db-preserved
loop-db-preserved g c =
    let begun : c.args.before + 1 ≡ length g.former.history = c.requires.1.1 in
    record {
      ready = c.take_back.ensures.still;
      since = since_back g.former c.loop-db.db.database c.take_back.new.db.database c.take_back.ensures.back.0 c.loop-db.invariant.since
          (omega (arith, begun, c.history.ensures, c.loop-db-test.true)) c.take_back.ensures.back.1 c.take_back.ensures.model;
    }

pub loop-db-smaller : goal.loop-db-smaller
loop-db-smaller g c = back_shorter c.loop-db.db.database.history c.take_back.new.db.database.history c.take_back.ensures.back.0 c.take_back.ensures.back.1

pub returns-clause-database : goal.returns-clause-database
returns-clause-database g c =
    let begun : c.args.before + 1 ≡ length g.former.history = c.requires.1.1 in
    is_back g.former c.loop-db.db.database c.loop-db.invariant.since (omega (arith, begun, c.history.ensures, c.loop-db-test.false))
