use Rattle.db_store.proofs.Following.{net_posted, posted_tables}
use Rattle.db_store.proofs.Going.{net_marks}
use Rattle.db_store.proofs.store.Store.post.Goals as goal

pub returns-clause-marks : goal.returns-clause-marks
returns-clause-marks c =
    net_marks _ c.args.self.now c.post.new.self c.self.view_is (c.marks_stay.ensures.posted _ _ c.args.kind c.args.args.now c.post.result c.post.ensures)
    (net_posted c.args.kind c.args.args.now c.post.result _ c.post.new.self c.post.ensures) (posted_tables c.args.kind c.args.args.now c.post.result _ c.post.new.self c.post.ensures)
