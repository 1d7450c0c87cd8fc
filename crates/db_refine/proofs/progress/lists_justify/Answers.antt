use Rattle.db_refine.proofs.Justifying.{globals_justified, longer_justified}
use Rattle.db_refine.proofs.progress.lists_justify.Goals as goal

pub returns-clause-globals : goal.returns-clause-globals
returns-clause-globals c = globals_justified

pub returns-clause-longer : goal.returns-clause-longer
returns-clause-longer c = longer_justified
