use Rattle.nddl_parser.proofs.ReadFiles.{reads_files}
use Rattle.nddl_parser.proofs.include_laws.what_is_included_is_read_once.Goals as goal

pub returns : goal.returns
returns g c = λ reader. reads_files (g.R.TextReader.reads reader)
