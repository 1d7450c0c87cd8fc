use Rattle.std.proofs.Common.{ap, ◌∙◌}
use Rattle.std.proofs.lemmas.Result.{err_from_is_err_and}
use Rattle.db_store.specs.Stores.{Stored}
use Rattle.db_fixpoint.proofs.Heeding.{keep_way, look_fails, looked}
use Rattle.db_posting.proofs.Storing.{marks_both}
use Rattle.db_fixpoint.proofs.Seated.{kept_on, seating_on}
use Rattle.db_fixpoint.proofs.looking.look_at.Goals as goal

pub returns-in_err-look_at_watchers-clause-looks : goal.returns-in_err-look_at_watchers-clause-looks
returns-in_err-look_at_watchers-clause-looks c =
    let p = err_from_is_err_and c.from_residual.result c.from_residual.ensures.1 in
    rw (p.1, p.2)
    (look_fails c.args.model.now c.args.unfolded c.args.variable c.args.store.now c.look_at_watchers.new.store c.in_err-look_at_watchers.field-0.0 c.in_err-look_at_watchers.ensures.underway)

pub look_at_owner-requires-clause-way : goal.look_at_owner-requires-clause-way
look_at_owner-requires-clause-way c =
    keep_way c.args.model.now c.args.store.now c.look_at_watchers.new.store c.args.unfolded
    (λ followed decisions unfolded due under. c.in_ok-look_at_watchers.ensures.underway followed decisions unfolded due under tt) c.requires.way

pub returns-clause-looks : goal.returns-clause-looks
returns-clause-looks c = λ decisions due way.
    let watched = c.in_ok-look_at_watchers.ensures in
    let owned = c.in_ok-look_at_owner.ensures in
    looked c.args.model.now c.requires.lawful c.args.unfolded c.args.variable c.args.store.now c.look_at_watchers.new.store c.look_at_owner.new.store
    c.is_sound.ensures c.is_sound-2.ensures watched.underway watched.followed watched.adds owned.way owned.turns owned.only decisions due way

pub returns-clause-tables : goal.returns-clause-tables
returns-clause-tables c = ap (λ (stored : Stored). stored.net.tables) c.in_ok-look_at_owner.ensures.only ∙ c.in_ok-look_at_watchers.ensures.adds.tables

pub returns-clause-changed : goal.returns-clause-changed
returns-clause-changed c = ap (λ (stored : Stored). stored.net.changed) c.in_ok-look_at_owner.ensures.only ∙ c.in_ok-look_at_watchers.ensures.adds.changed

pub returns-in_err-look_at_owner-clause-marks : goal.returns-in_err-look_at_owner-clause-marks
returns-in_err-look_at_owner-clause-marks c =
    marks_both c.args.store.now c.look_at_watchers.new.store c.look_at_owner.new.store c.in_ok-look_at_watchers.ensures.marks c.in_err-look_at_owner.ensures.marks

pub returns-clause-marks : goal.returns-clause-marks
returns-clause-marks c =
    marks_both c.args.store.now c.look_at_watchers.new.store c.look_at_owner.new.store c.in_ok-look_at_watchers.ensures.marks c.in_ok-look_at_owner.ensures.marks

pub look_at_owner-requires-clause-seated : goal.look_at_owner-requires-clause-seated
look_at_owner-requires-clause-seated c =
    seating_on c.args.store.now c.look_at_watchers.new.store c.args.seating.now c.in_ok-look_at_watchers.ensures.marks c.requires.seated

pub returns-in_err-look_at_watchers-clause-seated : goal.returns-in_err-look_at_watchers-clause-seated
returns-in_err-look_at_watchers-clause-seated c =
    kept_on c.args.store.now c.look_at_watchers.new.store c.args.seating.now c.in_err-look_at_watchers.ensures.marks c.requires.seated
