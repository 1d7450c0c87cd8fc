use Rattle.nddl_hierarchy.specs.Facts.{facts_of}
use Rattle.nddl_types.proofs.Answering.{has_entries}
use Rattle.nddl_types.proofs.tabling.make_table.Goals as goal

pub returns : goal.returns
returns c =
    has_entries c.args.groundwork.now (facts_of c.args.basis.now) c.in_ok-enums.enums c.as_slice.result.now c.make_parts-parts.result
    c.join_enums.result c.in_ok-enums.ensures c.as_slice.ensures c.make_parts-parts.ensures c.join_enums.ensures
