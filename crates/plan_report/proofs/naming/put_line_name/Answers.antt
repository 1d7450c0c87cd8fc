use Rattle.std.proofs.Common.{subst}
use Rattle.plan_defs.specs.Plans.{IsLineOf}
use Rattle.plan_text.proofs.Stepping.{local_base}
use Rattle.plan_report.proofs.naming.put_line_name.Goals as goal

pub put_single-requires-clause-there : goal.put_single-requires-clause-there
put_single-requires-clause-there c = local_base c.args.model.now c.in-Local.name c.in-Local.value (subst (IsLineOf c.args.model.now) c.in-Local.is c.requires.is_line)
