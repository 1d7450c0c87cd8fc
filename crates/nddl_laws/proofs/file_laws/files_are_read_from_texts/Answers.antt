use Rattle.nddl_laws.proofs.Texts.{given_texts}
use Rattle.nddl_laws.proofs.file_laws.files_are_read_from_texts.Goals as goal

pub returns : goal.returns
returns c = given_texts
