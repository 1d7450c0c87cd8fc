use Rattle.nddl_hierarchy.specs.Facts.{facts_of}
use Rattle.nddl_types.proofs.Adding.{same_fields}
use Rattle.nddl_types.proofs.classes.class_fields.Goals as goal

pub returns : goal.returns
returns c =
    same_fields (facts_of c.args.sources.now.basis) c.args.sources.now.enums.now c.args.entry c.in_ok-line.line.items c.as_slice.result.now
    c.fields_along.result c.in_ok-line.ensures c.as_slice.ensures.value c.fields_along.ensures
