use Rattle.std.proofs.Common.{◌∙◌, sym}
use Rattle.nddl_hierarchy.specs.Facts.{facts_of}
use Rattle.nddl_types.proofs.Answering.{tells_table}
use Rattle.nddl_types.proofs.program.find_table.Goals as goal

pub returns-in_ok-make_table-in-None : goal.returns-in_ok-make_table-in-None
returns-in_ok-make_table-in-None c =
    tells_table c.args.groundwork.now (facts_of c.basis-basis.result) c.in_ok-make_table-in-None.field-0 c.basis-basis.ensures
    (sym c.in-None.is ∙ c.in_ok-fault.ensures) c.in_ok-make_table-in-None.ensures
