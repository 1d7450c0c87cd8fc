use Rattle.db_store.specs.Holding.{stored_of}
use Rattle.db_store.proofs.Going.{goes_back, sound_again}
use Rattle.db_store.proofs.store.Store.back_to.Goals as goal

pub invariant_of-self : goal.invariant_of-self
invariant_of-self c =
    sound_again _ c.args.self.now (stored_of c.back_to.new.self c.truncate.new.self c.truncate-2.new.self.keys c.truncate-3.new.self c.back_to-2.new.self) c.args.mark c.self.view_is
    (record { past = c.back_to.ensures; keys = c.truncate.ensures; blocks = c.truncate-2.ensures.keys; watches = c.truncate-3.ensures; net = c.back_to-2.ensures }) c.requires

pub returns : goal.returns
returns c =
    goes_back _ c.args.self.now (stored_of c.back_to.new.self c.truncate.new.self c.truncate-2.new.self.keys c.truncate-3.new.self c.back_to-2.new.self) c.args.mark c.self.view_is c.self.invariant c.names_stay.ensures
    (record { past = c.back_to.ensures; keys = c.truncate.ensures; blocks = c.truncate-2.ensures.keys; watches = c.truncate-3.ensures; net = c.back_to-2.ensures }) c.requires
    (c.marks_stay.ensures.returned _ _)
