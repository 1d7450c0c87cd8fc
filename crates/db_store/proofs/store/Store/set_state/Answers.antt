use Rattle.db_store.proofs.Steps.{state_kept, state_marks}
use Rattle.db_store.proofs.store.Store.set_state.Goals as goal

pub invariant_of-self : goal.invariant_of-self
invariant_of-self c = state_kept _ c.args.self.now c.args.place c.args.state c.set_state.new.self c.self.view_is c.set_state.result c.set_state.ensures.ok c.set_state.ensures.err c.self.invariant

pub returns-clause-marks : goal.returns-clause-marks
returns-clause-marks c = state_marks _ c.args.self.now c.args.place c.args.state c.set_state.new.self c.self.view_is c.set_state.result c.set_state.ensures.ok c.set_state.ensures.err
