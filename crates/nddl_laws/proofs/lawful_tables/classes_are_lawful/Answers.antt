use Rattle.nddl_laws.proofs.Classed.{lawful_classes}
use Rattle.nddl_laws.proofs.lawful_tables.classes_are_lawful.Goals as goal

pub returns : goal.returns
returns c = lawful_classes
