use Rattle.nddl_parser.proofs.OneOutcome.{one_outcome}
use Rattle.nddl_parser.proofs.include_laws.files_are_read_in_one_way.Goals as goal

pub returns : goal.returns
returns g c = λ reader. one_outcome (g.R.TextReader.reads reader)
