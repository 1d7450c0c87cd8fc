use Rattle.model_rules.proofs.Pathing.{path_names, names_path}
use Rattle.model_rules.proofs.forms.is_object_name.Goals as goal

pub returns : goal.returns
returns c = (
  λ yes. path_names c.args.name.now (c.is_path.ensures.0 yes),
  λ is. c.is_path.ensures.1 (names_path c.args.name.now is),
)
