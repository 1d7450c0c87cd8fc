use Rattle.nddl_laws.proofs.Each.{each_joined}
use Rattle.nddl_laws.proofs.file_laws.each_joined_declaration_is_fine.Goals as goal

pub returns : goal.returns
returns c = each_joined
