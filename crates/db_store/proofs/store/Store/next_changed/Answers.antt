use Rattle.db_store.proofs.Following.{net_taken, taken_tables, taken_marks}
use Rattle.db_store.proofs.Going.{net_marks}
use Rattle.db_store.proofs.store.Store.next_changed.Goals as goal

pub returns-clause-marks : goal.returns-clause-marks
returns-clause-marks c =
    net_marks _ c.args.self.now c.next_changed.new.self c.self.view_is (taken_marks c.next_changed.result _ c.next_changed.new.self c.next_changed.ensures)
    (net_taken c.next_changed.result _ c.next_changed.new.self c.next_changed.ensures) (taken_tables c.next_changed.result _ c.next_changed.new.self c.next_changed.ensures)
