use Rattle.tests_base.proofs.networks.propagate.Goals as goal

pub returns : goal.returns
returns c = c.marks_stay.ensures.propagated c.args.net.now c.propagate_all.new.self c.propagate_all.ensures.others
