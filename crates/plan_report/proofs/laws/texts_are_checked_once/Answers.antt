use Rattle.plan_report.proofs.Printing.{checked_once}
use Rattle.plan_report.proofs.laws.texts_are_checked_once.Goals as goal

pub returns : goal.returns
returns c = checked_once c.texts_are_read_once.ensures
