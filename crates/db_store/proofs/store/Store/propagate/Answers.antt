use Rattle.std.proofs.Common.{◌≡◌, length, sym, ap, ◌∙◌, subst}
use Rattle.db_store.specs.Stores.{Stored}
use Rattle.db_store.proofs.Following.{net_propagated}
use Rattle.db_store.proofs.Going.{net_marks}
use Rattle.db_store.proofs.Steps.{propagated_within}
use Rattle.db_store.proofs.store.Store.propagate.Goals as goal

pub returns-clause-marks : goal.returns-clause-marks
returns-clause-marks c =
    net_marks _ c.args.self.now c.propagate_all.new.self c.self.view_is (c.marks_stay.ensures.propagated _ _ c.propagate_all.ensures.others)
    (net_propagated c.within_is_an_order.ensures.measured _ c.propagate_all.new.self c.self.invariant.are c.propagate_all.ensures.domains
    (propagated_within _ c.propagate_all.result _ c.propagate_all.new.self.domains c.propagate_all.ensures.propagated) c.propagate_all.ensures.variables c.propagate_all.ensures.others) c.propagate_all.ensures.others.tables

pub returns-clause-idle : goal.returns-clause-idle
returns-clause-idle c = λ idle.
    c.propagate_all.ensures.idle (subst (λ (stored : Stored). stored.net.quiet ≡ length stored.net.constraints) (sym c.self.view_is) idle)
    ∙ ap (λ (stored : Stored). stored.net.work) c.self.view_is
