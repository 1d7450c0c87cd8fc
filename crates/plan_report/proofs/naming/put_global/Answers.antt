use Rattle.std.proofs.Common.{refl}
use Rattle.plan_report.proofs.naming.put_global.Goals as goal

pub put_single-requires-clause-there : goal.put_single-requires-clause-there
put_single-requires-clause-there c = (c.requires.there.0.base, (c.requires.there.0, c.requires.there.1, refl))
