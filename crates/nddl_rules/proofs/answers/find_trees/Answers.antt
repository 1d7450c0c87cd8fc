use Rattle.std.proofs.Common.{◌∙◌, ap, sym}
use Rattle.nddl_hierarchy.specs.Facts.{facts_of}
use Rattle.nddl_rules.specs.Told.{file_trees}
use Rattle.nddl_rules.proofs.Telling.{tells_trees}
use Rattle.nddl_rules.proofs.answers.find_trees.Goals as goal

pub returns-in_ok-make_trees-in-None : goal.returns-in_ok-make_trees-in-None
returns-in_ok-make_trees-in-None c =
    tells_trees c.args.groundwork.now c.args.table.now (facts_of c.basis.result) c.in_ok-make_trees-in-None.field-0.items c.basis.ensures
    (sym c.in-None.is ∙ c.in_ok-fault.ensures) (c.in_ok-make_trees-in-None.ensures ∙ ap (file_trees c.args.table.now) c.program-program.ensures)
