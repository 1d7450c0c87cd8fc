use Rattle.tests_base.proofs.networks.there_and_back.Goals as goal

pub back_to-requires : goal.back_to-requires
back_to-requires c =
    let mark = c.mark-mark.result in
    let domains = c.args.net.now.domains in
    let constraints = c.args.net.now.constraints in
    let low = c.keep_range-low.ensures mark domains constraints c.mark-mark.ensures.is in
    let high = c.keep_range-high.ensures mark domains constraints low in
    (domains, constraints, c.propagate-2.ensures mark domains constraints (c.propagate.ensures mark domains constraints high))
