use Rattle.std.proofs.Common.{List, take, sym, subst, arith}
use Rattle.plan_values.proofs.Matching.{read_item}
use Rattle.db_posting.proofs.Storing.{marks_same}
use Rattle.db_history.specs.Standing.{StandsForList}
use Rattle.db_history.proofs.Returning.{gone_back}
use Rattle.db_store.specs.declared.store.Mark.{Mark}
use Rattle.db_history.specs.Seated.{AreSeatedAt}
use Rattle.db_history.proofs.Stepping.{seated_back}
use Rattle.db_history.proofs.standing.return_to.Goals as goal

pub returns-then-number-len-clause-stands : goal.returns-then-number-len-clause-stands
returns-then-number-len-clause-stands c = λ model decisions stands within.
    let marks = c.args.marks.now.items in
    let at = read_item marks c.args.number c.index-mark.result.now (omega (arith, c.if-number-len.true, c.len.ensures)) c.index-mark.ensures in
    subst (StandsForList model (take c.args.number decisions) c.go_back.new.store) (sym c.truncate.ensures.items)
    (gone_back model decisions marks c.args.store.now c.go_back.new.store c.args.number c.index-mark.result.now stands at c.go_back.ensures.back)

pub returns-else-number-len-clause-stamps : goal.returns-else-number-len-clause-stamps
returns-else-number-len-clause-stamps c = c.stamps_follow.ensures c.args.store.now c.args.store.now c.is_sound.ensures c.is_sound.ensures (marks_same c.args.store.now)

pub go_back-requires-clause-can : goal.go_back-requires-clause-can
go_back-requires-clause-can c =
    let marks = c.args.marks.now.items in
    let at = read_item marks c.args.number c.index-mark.result.now (omega (arith, c.if-number-len.true, c.len.ensures)) c.index-mark.ensures in
    let was = c.requires.stands.1.1.marked c.args.number c.index-mark.result.now at in
    (was.0, was.1)

pub go_back-requires-clause-step : goal.go_back-requires-clause-step
go_back-requires-clause-step c = omega (arith, c.if-number-len.true, c.len.ensures, c.requires.seated.count)

pub returns-then-number-len-clause-seated : goal.returns-then-number-len-clause-seated
returns-then-number-len-clause-seated c =
    let marks = c.args.marks.now.items in
    let at = read_item marks c.args.number c.index-mark.result.now (omega (arith, c.if-number-len.true, c.len.ensures)) c.index-mark.ensures in
    subst (λ (list : List Mark). AreSeatedAt c.go_back.new.store list c.go_back.new.seating) (sym c.truncate.ensures.items)
    (seated_back c.args.store.now c.go_back.new.store marks c.args.number c.index-mark.result.now c.args.seating.now c.go_back.new.seating c.requires.seated at
    (λ k earlier less there. c.requires.stands.1.1.order k c.args.number earlier c.index-mark.result.now less there at) c.go_back.ensures.back
    c.go_back.ensures.seats c.go_back.ensures.marked c.go_back.ensures.steps)
