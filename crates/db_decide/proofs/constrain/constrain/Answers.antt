use Rattle.db_decide.proofs.Posting.{constrained}
use Rattle.db_decide.proofs.constrain.constrain.Goals as goal

pub returns-clause-takes : goal.returns-clause-takes
returns-clause-takes c = λ model decisions due may after.
    constrained c.args.kind c.args.arguments.now model decisions c.args.store.now c.post_arguments.new.store due may
    c.in_ok-post_arguments.ensures.only c.in_ok-post_arguments.ensures.posted
