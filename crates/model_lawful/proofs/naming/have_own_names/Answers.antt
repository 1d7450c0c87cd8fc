use Rattle.std.proofs.Common.{All}
use Rattle.model_core.specs.Naming.{declared_names}
use Rattle.model_typing.proofs.Telling.{told_as}
use Rattle.model_lawful.specs.Naming.{HaveOwnNames, IsOwnName}
use Rattle.model_lawful.proofs.Scoping.{own_names, names_own}
use Rattle.model_lawful.proofs.naming.have_own_names.Goals as goal

pub returns : goal.returns
returns c =
    told_as c.have_own_parts.result (HaveOwnNames c.args.model.now) (All IsOwnName (declared_names c.args.model.now)) (own_names c.args.model.now) (names_own c.args.model.now) c.have_own_parts.ensures
