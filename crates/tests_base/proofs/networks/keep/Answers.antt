use Rattle.tests_base.proofs.networks.keep.Goals as goal

pub returns : goal.returns
returns c = c.marks_stay.ensures.limited c.args.net.now c.limit.new.self c.args.variable c.args.to.now c.limit.result c.limit.ensures
