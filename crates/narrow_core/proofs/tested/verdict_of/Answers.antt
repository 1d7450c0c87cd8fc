use Rattle.narrow_core.proofs.Outcomes.{single_one}
use Rattle.narrow_core.proofs.tested.verdict_of.Goals as goal

pub returns-else-open-clause-says : goal.returns-else-open-clause-says
returns-else-open-clause-says c = single_one c.args.domain.now c.has_beside_one-open.ensures.domain (λ beside. let open_is = c.has_beside_one-open.ensures.beside.1 beside in absurd (cc (open_is, c.if-open.false)))
