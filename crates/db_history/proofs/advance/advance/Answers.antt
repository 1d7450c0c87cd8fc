use Rattle.std.proofs.Common.{sym, subst}
use Rattle.std.proofs.lemmas.Result.{err_from_is_err_and}
use Rattle.db_posting.specs.Tables.{HaveTables}
use Rattle.std.specs.Prelude.{length}
use Rattle.db_store.specs.Stores.{snapshot_of}
use Rattle.db_fixpoint.specs.Fixpoint.{BringsToRest}
use Rattle.db_posting.proofs.Storing.{marks_both}
use Rattle.db_history.proofs.Going.{may_follow, taking_fails, can_come_to_rest, advances}
use Rattle.db_fixpoint.proofs.Seated.{seating_on, kept_on}
use Rattle.db_history.proofs.advance.advance.Goals as goal

pub take_up-requires-clause-may : goal.take_up-requires-clause-may
take_up-requires-clause-may c = (c.requires.follows.0, may_follow c.args.model.now c.requires.follows.0 c.args.store.now c.args.decision.now c.requires.follows.1)

pub returns-in_err-due-clause-advances : goal.returns-in_err-due-clause-advances
returns-in_err-due-clause-advances c =
    let p = err_from_is_err_and c.from_residual.result c.from_residual.ensures.1 in
    rw (p.1, p.2)
    (taking_fails c.args.model.now c.args.decision.now c.args.store.now c.take_up.new.store c.take_up.result c.take_up.ensures.collapsed c.in_err-due.field-0.0 c.in_err-due.was)

pub bring_to_rest-requires-clause-tables : goal.bring_to_rest-requires-clause-tables
bring_to_rest-requires-clause-tables c =
    subst (HaveTables c.args.model.now) (c.take_up.ensures.marks.marks c.requires.marked.0 (snapshot_of c.args.store.now) c.requires.marked.1).tables c.requires.tables

pub bring_to_rest-requires-clause-way : goal.bring_to_rest-requires-clause-way
bring_to_rest-requires-clause-way c =
    rw (c.block_count-unfolded.ensures, c.as_slice.ensures.value)
    (can_come_to_rest c.args.model.now c.args.decision.now c.args.store.now c.take_up.new.store c.in_ok-due.due.items c.in_ok-due.ensures.ok c.requires.follows.0 c.requires.follows.1)

pub returns-clause-advances : goal.returns-clause-advances
returns-clause-advances c =
    advances c.args.model.now c.args.decision.now c.args.store.now c.take_up.new.store c.in_ok-due.due.items c.in_ok-due.ensures.ok c.bring_to_rest.new.store c.bring_to_rest.result
    (subst (λ due. BringsToRest c.args.model.now (length c.args.store.now.blocks) due c.take_up.new.store c.bring_to_rest.result c.bring_to_rest.new.store) c.as_slice.ensures.value
    (subst (λ unfolded. BringsToRest c.args.model.now unfolded c.as_slice.result.now c.take_up.new.store c.bring_to_rest.result c.bring_to_rest.new.store) c.block_count-unfolded.ensures c.bring_to_rest.ensures.brings))
    c.bring_to_rest.ensures.tables (sym (c.take_up.ensures.marks.marks c.requires.marked.0 (snapshot_of c.args.store.now) c.requires.marked.1).tables)

pub returns-clause-marks : goal.returns-clause-marks
returns-clause-marks c =
    marks_both c.args.store.now c.take_up.new.store c.bring_to_rest.new.store c.take_up.ensures.marks c.bring_to_rest.ensures.marks

pub bring_to_rest-requires-clause-seated : goal.bring_to_rest-requires-clause-seated
bring_to_rest-requires-clause-seated c =
    seating_on c.args.store.now c.take_up.new.store c.args.seating.now c.take_up.ensures.marks c.requires.seated

pub returns-in_err-due-clause-seated : goal.returns-in_err-due-clause-seated
returns-in_err-due-clause-seated c =
    kept_on c.args.store.now c.take_up.new.store c.args.seating.now c.take_up.ensures.marks c.requires.seated
