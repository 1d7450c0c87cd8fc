use Rattle.model_core.specs.Naming.{file_names}
use Rattle.model_lawful.proofs.Scoping.{apart_told}
use Rattle.model_lawful.proofs.naming.are_apart.Goals as goal

pub returns : goal.returns
returns c = apart_told (file_names c.args.model.now) c.add_file.new.names c.add_file.result c.add_file.ensures
