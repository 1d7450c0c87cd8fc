use Rattle.db_store.proofs.Steps.{token_kept, token_marks}
use Rattle.db_store.proofs.store.Store.add_token.Goals as goal

pub invariant_of-self : goal.invariant_of-self
invariant_of-self c = token_kept _ c.args.self.now c.args.name c.args.pred c.add.new.self c.self.view_is c.add.result c.add.ensures c.self.invariant

pub returns-clause-marks : goal.returns-clause-marks
returns-clause-marks c = token_marks _ c.args.self.now c.args.name c.args.pred c.add.new.self c.self.view_is c.add.result c.add.ensures
