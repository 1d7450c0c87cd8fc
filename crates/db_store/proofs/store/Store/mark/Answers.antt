use Rattle.std.proofs.Common.{sym, subst}
use Rattle.constraint_net.specs.Networks.{IsIdle}
use Rattle.db_store.specs.Stores.{Stored}
use Rattle.db_store.proofs.Going.{marked_seen, marked_sound, mark_now, mark_latest, marked_marks}
use Rattle.db_store.proofs.store.Store.mark.Goals as goal

pub invariant_of-self : goal.invariant_of-self
invariant_of-self c = marked_sound _ c.args.self.now c.mark-2.new.self c.self.view_is c.mark-2.ensures.marked c.self.invariant

pub returns-clause-marked : goal.returns-clause-marked
returns-clause-marked c = marked_seen _ c.args.self.now c.mark-2.new.self c.self.view_is c.mark-2.ensures.marked

pub returns-clause-is : goal.returns-clause-is
returns-clause-is c =
    mark_now _ c.args.self.now c.mark-2.new.self c.self.view_is c.mark-2.ensures.marked _ c.self.invariant
    (record { tokens = c.mark.ensures; variables = c.len.ensures; blocks = c.len-2.ensures.len; watches = c.len-3.ensures }) c.mark-2.ensures.is

pub returns-clause-latest : goal.returns-clause-latest
returns-clause-latest c =
    mark_latest _ _
    (record { tokens = c.mark.ensures; variables = c.len.ensures; blocks = c.len-2.ensures.len; watches = c.len-3.ensures }) c.mark-2.ensures.latest

pub returns-clause-marks : goal.returns-clause-marks
returns-clause-marks c = marked_marks _ c.args.self.now c.mark-2.new.self c.self.view_is c.mark-2.ensures.marked c.mark-2.ensures.keeps

pub returns-clause-idle : goal.returns-clause-idle
returns-clause-idle c = λ idle. c.mark-2.ensures.idle (subst (λ (stored : Stored). IsIdle stored.net) (sym c.self.view_is) idle)
