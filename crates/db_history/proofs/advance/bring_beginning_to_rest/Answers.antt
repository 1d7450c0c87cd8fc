use Rattle.std.proofs.Common.{Option, sym, subst}
use Rattle.db_store.specs.declared.store.Mark.{Mark}
use Rattle.db_fixpoint.specs.Fixpoint.{BringsToRest}
use Rattle.db_fixpoint.specs.Seating.{AreSeatsUpTo}
use Rattle.db_history.proofs.Going.{can_begin, brings_beginning_to_rest}
use Rattle.db_history.proofs.advance.bring_beginning_to_rest.Goals as goal

pub bring_to_rest-requires-clause-way : goal.bring_to_rest-requires-clause-way
bring_to_rest-requires-clause-way c =
    rw (c.as_slice.ensures.value)
    (can_begin c.args.model.now c.args.store.now c.requires.beginning c.in_ok-due.due.items c.in_ok-due.ensures)

pub returns : goal.returns
returns c =
    brings_beginning_to_rest c.args.model.now c.args.store.now c.requires.beginning c.in_ok-due.due.items c.in_ok-due.ensures c.bring_to_rest.new.store c.bring_to_rest.result
    (subst (λ due. BringsToRest c.args.model.now 0 due c.args.store.now c.bring_to_rest.result c.bring_to_rest.new.store) c.as_slice.ensures.value c.bring_to_rest.ensures.brings) c.bring_to_rest.ensures.tables

pub bring_to_rest-requires-clause-seated : goal.bring_to_rest-requires-clause-seated
bring_to_rest-requires-clause-seated c =
    subst (λ (mark : Option Mark). AreSeatsUpTo c.args.store.now mark c.new-seating.result.seats) (sym c.new-seating.ensures.mark) tt
